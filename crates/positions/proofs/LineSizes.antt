-- How long the report is: a line of a field within the bounds has 233 bytes at the most, where numbers have 16 bits, so that the lines of every file fit the buffer.
-- Assumes nothing.
use mathlib.Core.Path.{◌≡◌, sym, ap, ◌∙◌, subst}
use mathlib.Core.Logic.{◌⊎◌, inl, inr}
use mathlib.Core.Bool.{Bool, true, false, ◌&&◌, ◌||◌, or-true}
use mathlib.Core.List.{List, [], ◌∷◌, ◌++◌}
use Prim.Native.Nat.{ℕ, zero, suc, ◌+◌, ◌*◌, ◌^◌, ◌≤◌, ◌<◌}
use native.Mathlib.Omega.{arith}
use lib.Dec.{T, eqb, leb, leb→le}
use lib.Ieee.Fits.{and_l, and_r}
use lib.ListN.{length, get_or, take, drop, length-append}
use lib.Seq.{get_or-drop}
use borrow.Author.Tests.{eqb-true, eqb-false}
use Rattle.request.specs.Input.{first_refused}
use Rattle.request.specs.declared.Request.{Request}
use Rattle.practice.specs.File.{opens, contents_allowed, legs_allowed, legs_of, legs_body, requests_body, file_number}
use Rattle.practice.specs.Practice.{Practice}
use Rattle.practice.specs.Requests.{requests_of}
use Rattle.practice.proofs.Meaning.{held}
use Rattle.field.specs.declared.Aircraft.{Aircraft}
use Rattle.field.specs.declared.Legs.{Legs}
use Rattle.field.specs.declared.Field.{Field}
use Rattle.field.specs.Airspace.{is_side, everywhere, operation, nobody, empty_zone, empty_field, in_zone, order_of, order_length}
use Rattle.field.specs.Lists.{is_in, every, all_different, Each}
use Rattle.field.proofs.NumberLists.{every_listed, in_left}
use Rattle.field.proofs.TestLaws.{passed, decided, same}
use Rattle.questions.specs.Counts.{total, how_many, present_on}
use Rattle.questions.specs.Find.{aircraft_at, numbers_in}
use Rattle.questions.proofs.NumbersListed.{numbers_at, one_zone_more}
use Rattle.questions.proofs.FindLaws.{found_there}
use Rattle.numbers.specs.Numbers.{sequence_exact}
use Rattle.bounds.specs.Bounds.{sequence_kept, within_bounds}
use Rattle.fits.specs.Fits.{fits_zone, legal_legs, bound_g}
use Rattle.laws.proofs.BoundLaws.{within_each, within_e, five_present}
use Rattle.rules.specs.Step.{step_of}
use Rattle.rules.specs.Reason.{Sound}
use Rattle.reason.proofs.Reason.{empty_sound, reason_kept}
use Rattle.owners.proofs.Everyone.{HoldsIn, Everyone, at_stays, step_stays}
use Rattle.text.specs.Text.{decimal, space, newline}
use Rattle.text.proofs.Texts.{decimal_short, line_length}
use Rattle.miles.specs.Miles.{miles_text}
use Rattle.miles.proofs.DecimalSizes.{miles_short}
use Rattle.playing.proofs.PlayedFiles.{legs_held, requests_inside, practice_holds, practice_refused, file_legs_legal}
use Rattle.session.specs.Report.{refused_report}
use Rattle.positions.specs.Positions.{another, position_text, queue_text, zones_text, numbers_text, sequence_text, field_line, lines_from, practice_positions, positions_of}
use Rattle.positions.specs.Positions.{AreBytes, positions_room, PositionsFit}

-- ---- a line

-- a number has 16 bits
abbrev Small : ℕ → ℕ → Type 0
Small number desk = number < 2 ^ 16

another_short : (n k : ℕ) → n < 10 ^ suc k → length (another n) ≤ suc (suc k)
another_short n k h = let d = decimal_short k n h in omega (arith, d)

position_short : (zone : ℕ) (a : Aircraft) → zone < 100 → a.number < 2 ^ 16 → length (position_text zone a) ≤ 40
unfolding position_text
position_short zone a z n =
    let first = another_short zone 1 (omega (arith, z)) in
    let second = another_short a.number 4 (omega (arith, n)) in
    let miles = miles_short a.waited in
    let b = length-append (another a.number) (space ∷ miles_text a.waited) in
    let c = length-append (another zone) (another a.number ++ (space ∷ miles_text a.waited)) in
    omega (arith, first, second, miles, b, c)

queue_short : (zone : ℕ) (l : List Aircraft) → zone < 100 → ((k : ℕ) → (get_or l k nobody).number < 2 ^ 16) → length (queue_text zone l) ≤ 40 * length l
queue_short zone [] z h = omega arith
queue_short zone (a ∷ l) z h =
    let here = position_short zone a z (h 0) in
    let rest = queue_short zone l z (λ k. h (suc k)) in
    let both = length-append (position_text zone a) (queue_text zone l) in
    omega (arith, here, rest, both)

module _ (f : Field) (small : Everyone Small f) where
  zones_short : (zs : List ℕ) → ((z : ℕ) → is_in z zs ≡ true → z < 100) → length (zones_text f zs) ≤ 40 * total (how_many f) zs
  unfolding how_many aircraft_at
  zones_short [] h = omega arith
  zones_short (z ∷ zs) h =
      let here = queue_short z (in_zone f z) (h z (ap (λ (b : Bool). b || is_in z zs) (same z))) (λ k. at_stays Small (omega arith) f z (suc k) small) in
      let rest = zones_short zs (λ y i. h y (ap (λ (b : Bool). eqb z y || b) i ∙ or-true (eqb z y))) in
      let both = length-append (queue_text z (in_zone f z)) (zones_text f zs) in
      omega (arith, here, rest, both)

  module _ (t : T (within_bounds f)) where
    all_short : length (zones_text f everywhere) ≤ 200
    unfolding present_on
    all_short =
        let few = five_present f t in
        let text = zones_short everywhere (λ z i. let u = leb→le z 13 (every_listed (λ y. leb y 13) everywhere z tt i) in omega (arith, u)) in
        omega (arith, few, text)

    -- the numbers of the sequence are those of aircraft
    named : (n : ℕ) → is_in n (order_of f.sequence) ≡ true → n < 2 ^ 16
    unfolding sequence_exact
    named n i =
        let ns = order_of f.sequence in
        let one = all_different ns in
        let two = every (λ m. is_in m (numbers_in f operation)) ns in
        let three = every (λ m. is_in m ns) (numbers_in f operation) in
        let there = passed (every_listed (λ m. is_in m (numbers_in f operation)) ns n (and_r one two (and_l (one && two) three (within_e f t).exact)) i) in
        let found = found_there f n (ap (is_in n) (one_zone_more f 1 12) ∙ in_left n (numbers_in f operation) (numbers_at f 13) there) in
        subst (λ (m : ℕ). m < 2 ^ 16) found.has (at_stays Small (omega arith) f _ _ small)

    order_four : length (order_of f.sequence) ≤ 4
    unfolding order_of sequence_kept
    order_four =
        let s = f.sequence in
        let four = leb→le s.length 4 (and_l (leb s.length 4) (every (λ n. eqb n 0) (drop s.length s.numbers)) (within_e f t).sequence_kept_lem) in
        let taken = take_few s.length s.numbers in
        omega (arith, four, taken)
      where
        take_few : (n : ℕ) (xs : List ℕ) → length (take n xs) ≤ n
        take_few zero xs = omega arith
        take_few (suc n) [] = omega arith
        take_few (suc n) (x ∷ xs) = let h = take_few n xs in omega (arith, h)

    sequence_short : length (sequence_text f.sequence) ≤ 26
    unfolding sequence_text order_length
    sequence_short =
        let four = order_four in
        let first = another_short (length (order_of f.sequence)) 0 (omega (arith, four)) in
        let rest = numbers_short (order_of f.sequence) named in
        let both = length-append (another (length (order_of f.sequence))) (numbers_text (order_of f.sequence)) in
        omega (arith, four, first, rest, both)
      where
        numbers_short : (ns : List ℕ) → ((n : ℕ) → is_in n ns ≡ true → n < 2 ^ 16) → length (numbers_text ns) ≤ 6 * length ns
        numbers_short [] h = omega arith
        numbers_short (n ∷ ns) h =
            let small = h n (ap (λ (b : Bool). b || is_in n ns) (same n)) in
            let here = another_short n 4 (omega (arith, small)) in
            let rest = numbers_short ns (λ m i. h m (ap (λ (b : Bool). eqb n m || b) i ∙ or-true (eqb n m))) in
            let both = length-append (another n) (numbers_text ns) in
            omega (arith, here, rest, both)

    next_short : length (another f.next) ≤ 2
    unfolding bound_g is_side
    next_short =
        let fit = every (λ y. every (fits_zone f.legs y) (in_zone f y)) everywhere in
        let side = and_r fit (is_side f.next) (and_l (fit && is_side f.next) (legal_legs f.legs) (within_each f t).bound_g_is) in
        another_short f.next 0 (below f.next side)
      where
        below : (n : ℕ) → T (eqb n 1 || eqb n 2) → n < 10
        below n u = elim (decided (eqb n 1)) [
          | inl e ↦ (let h = eqb-true n 1 e in omega (arith, h))
          | inr e ↦ (let h = eqb-true n 2 (sym (ap (λ (b : Bool). b || eqb n 2) e) ∙ passed u) in omega (arith, h))
        ]

    line_short : (index : ℕ) → index < 10000 → length (field_line index f) ≤ 233
    unfolding field_line
    line_short index h =
        let first = decimal_short 3 index h in
        let next = next_short in
        let order = sequence_short in
        let all = all_short in
        let end = zones_text f everywhere ++ (newline ∷ []) in
        let a = length-append (zones_text f everywhere) (newline ∷ []) in
        let b = length-append (sequence_text f.sequence) end in
        let c = length-append (another f.next) (sequence_text f.sequence ++ end) in
        let d = length-append (decimal index) (another f.next ++ (sequence_text f.sequence ++ end)) in
        omega (arith, first, next, order, all, a, b, c, d)

-- ---- the lines of a list
SmallNumber : Request → Type 0
SmallNumber r = r.number < 2 ^ 16

lines_short : (rs : List Request) (index : ℕ) (f : Field) → Sound f → Everyone Small f → Each SmallNumber rs → index + length rs ≤ 10000 → length (lines_from index f rs) ≤ 233 * length rs
unfolding SmallNumber
lines_short [] index f s e h l = omega arith
lines_short (r ∷ rs) index f s e h l =
    let g = (step_of f r).field in
    let sound = (reason_kept f s r).sound in
    let small = step_stays Small (omega arith) f r h.0 e in
    let here = line_short g small sound.bounds index (omega (arith, l)) in
    let rest = lines_short rs (suc index) g sound small h.1 (omega (arith, l)) in
    let both = length-append (field_line index g) (lines_from (suc index) g rs) in
    omega (arith, here, rest, both)

-- ---- a file
requests_small : (xs : List ℕ) → AreBytes xs → Each SmallNumber (requests_of xs)
unfolding SmallNumber
requests_small [] h = tt
requests_small (a ∷ []) h = tt
requests_small (a ∷ b ∷ []) h = tt
requests_small (a ∷ b ∷ c ∷ []) h = tt
requests_small (a ∷ b ∷ c ∷ d ∷ []) h = tt
requests_small (a ∷ b ∷ c ∷ d ∷ e ∷ []) h = tt
requests_small (a ∷ b ∷ c ∷ d ∷ e ∷ f ∷ rest) h = (let low = h 2 in let high = h 3 in omega (arith, low, high), requests_small rest (λ i. h (suc (suc (suc (suc (suc (suc i))))))))

empty_small : (legs : Legs) → Everyone Small (empty_field legs)
unfolding empty_field
empty_small legs =
    let z : 0 < 2 ^ 16 = omega arith in
    let q : HoldsIn Small empty_zone = (z, (z, (z, (z, tt)))) in
    (q, (q, (q, (q, (q, (q, (q, (q, (q, (q, (q, (q, (q, tt)))))))))))))

number_small : (a b c : Bool) → first_refused ((5, a) ∷ (6, b) ∷ (7, c) ∷ []) < 10
number_small true true true = omega arith
number_small true true false = omega arith
number_small true false c = omega arith
number_small false b c = omega arith

pub positions_fit : PositionsFit
unfolding positions_of refused_report file_number
positions_fit file known = go (decided (eqb (file_number file) 0))
  where
    legs : Legs
    legs = legs_held file

    go : (eqb (file_number file) 0 ≡ true) ⊎ (eqb (file_number file) 0 ≡ false) → length (positions_of file) ≤ positions_room
    go (inl e) =
        let zero = eqb-true (file_number file) 0 e in
        let h = held file (legs_of (legs_body file)) (requests_inside file) (practice_holds file zero) in
        let few = h.few in
        let legal = file_legs_legal (legs_of (legs_body file)) h.legs_legal in
        let bytes : AreBytes (requests_body file) = λ i. (let d = get_or-drop 34 file i 0 in let k = known (34 + i) in omega (arith, d, k)) in
        let lines = lines_short (requests_inside file) 1 (empty_field legs) (empty_sound legs legal) (empty_small legs) (requests_small (requests_body file) bytes) (omega (arith, few)) in
        let is = ap (λ (p : Practice). length (practice_positions p)) (practice_holds file zero) in
        omega (arith, lines, is, few)
    go (inr e) =
        let is = ap (λ (p : Practice). length (practice_positions p)) (practice_refused file (eqb-false (file_number file) 0 e)) in
        let number = number_small (opens file) (contents_allowed file) (legs_allowed (legs_of (legs_body file))) in
        let line = line_length (file_number file) [] 0 (omega (arith, number)) in
        omega (arith, is, line)
