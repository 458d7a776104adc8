-- On any field within the bounds that has the reason, whoever heads final finds at most one aircraft in the area of its fix.
-- Assumes nothing.
use mathlib.Core.Path.{◌≡◌, refl, sym, ap, ◌∙◌, subst}
use mathlib.Core.Logic.{◌⊎◌, inl, inr}
use mathlib.Core.Bool.{Bool, true, false, cond, ◌&&◌, ◌||◌}
use mathlib.Core.List.{List, [], ◌∷◌, map}
use Prim.Native.Nat.{ℕ, suc, ◌+◌, ◌≤◌}
use native.Mathlib.Omega.{arith}
use lib.Dec.{T, leb, eqb, leb→le, eqb→eq}
use lib.ListN.{length, length-map, get_or}
use lib.Ieee.Fits.{and_l, and_r}
use borrow.Author.Tests.{eqb-true}
use Rattle.request.specs.Input.{within}
use Rattle.field.specs.declared.Aircraft.{Aircraft}
use Rattle.field.specs.declared.Field.{Field}
use Rattle.questions.specs.declared.Place.{Place}
use Rattle.field.specs.Airspace.{is_side, area, everywhere, in_zone, order_of, nobody}
use Rattle.field.specs.Lists.{is_in, every, all_different}
use Rattle.questions.specs.Counts.{total, how_many, in_area}
use Rattle.questions.specs.Find.{place_from, nowhere, find_in, place_of, aircraft_at, fix_of}
use Rattle.bounds.specs.Bounds.{within_bounds}
use Rattle.fits.specs.Fits.{fits_zone, legal_legs, bound_g}
use Rattle.order.specs.Model.{count, one}
use Rattle.rules.specs.Reason.{Listed, listed, sequence_listed, those, is_in_zone, is_in_area, never_falls, each_among, from_landing, approach_order, has_room, room_to_miss, Reason, RoomAtSide}
use Rattle.laws.proofs.BoundLaws.{within_each}
use Rattle.field.proofs.NumberLists.{every_listed}
use Rattle.field.proofs.TestLaws.{decided, if_true, if_false, flip_eqb}
use Rattle.laws.proofs.Fits.{fits_parts}
use Rattle.line.proofs.CountedOnLine.{total_add, total_none}
use Rattle.line.proofs.Members.{count_absent, count_different}

-- ---- the aircraft at the head of final

-- where a number is found, its place is that in the zone's queue
find_place : (f : Field) (n : ℕ) (zs : List ℕ) → (find_in f n zs ≡ nowhere) ⊎ (place_from 1 n (in_zone f (find_in f n zs).zone) ≡ (find_in f n zs).place)
unfolding find_in
find_place f n [] = inl refl
find_place f n (z ∷ zs) = go (eqb (place_from 1 n (in_zone f z)) 0) (find_place f n zs)
  where
    found : Place
    found = record { zone = z; place = place_from 1 n (in_zone f z) }

    go : (b : Bool) → (find_in f n zs ≡ nowhere) ⊎ (place_from 1 n (in_zone f (find_in f n zs).zone) ≡ (find_in f n zs).place)
        → (cond b (find_in f n zs) found ≡ nowhere) ⊎ (place_from 1 n (in_zone f (cond b (find_in f n zs) found).zone) ≡ (cond b (find_in f n zs) found).place)
    go true h = h
    go false h = inr refl

place_least : (k n : ℕ) (xs : List Aircraft) → (place_from k n xs ≡ 0) ⊎ (k ≤ place_from k n xs)
place_least k n [] = inl refl
place_least k n (x ∷ xs) = go (eqb x.number n) (place_least (suc k) n xs)
  where
    go : (b : Bool) → (place_from (suc k) n xs ≡ 0) ⊎ (suc k ≤ place_from (suc k) n xs) → (cond b k (place_from (suc k) n xs) ≡ 0) ⊎ (k ≤ cond b k (place_from (suc k) n xs))
    go true h = inr (omega arith)
    go false (inl e) = inl e
    go false (inr h) = inr (omega arith)

-- a queue whose head has the number
record Heads (n : ℕ) (xs : List Aircraft) : Type 0 where
  head : Aircraft
  rest : List Aircraft
  is : xs ≡ head ∷ rest
  named : head.number ≡ n

place_one : (n : ℕ) (xs : List Aircraft) → place_from 1 n xs ≡ 1 → Heads n xs
place_one n [] e = absurd (omega arith)
place_one n (x ∷ xs) e = go (decided (eqb x.number n)) (place_least 2 n xs)
  where
    go : (eqb x.number n ≡ true) ⊎ (eqb x.number n ≡ false) → (place_from 2 n xs ≡ 0) ⊎ (2 ≤ place_from 2 n xs) → Heads n (x ∷ xs)
    go (inl b) h = record { head = x; rest = xs; is = refl; named = eqb-true x.number n b }
    go (inr b) (inl h) = absurd (let p : place_from 2 n xs ≡ 1 = sym (if_false 1 (place_from 2 n xs) b) ∙ e in omega arith)
    go (inr b) (inr h) = absurd (let p : place_from 2 n xs ≡ 1 = sym (if_false 1 (place_from 2 n xs) b) ∙ e in omega arith)

-- ---- who heads final heads the sequence

-- none on final behind one that is not
none_final : (k : ℕ) (xs : List Listed) → 1 ≤ k → T (every (leb k) (map (λ (a : Listed). from_landing a.zone) xs)) → those (is_in_zone 12) xs ≡ []
none_final k [] h t = refl
none_final k (x ∷ xs) h t = go (decided (eqb x.zone 12)) (none_final k xs h (and_r (leb k (from_landing x.zone)) (every (leb k) (map (λ (a : Listed). from_landing a.zone) xs)) t))
  where
    low : k ≤ from_landing x.zone
    low = leb→le k (from_landing x.zone) (and_l (leb k (from_landing x.zone)) (every (leb k) (map (λ (a : Listed). from_landing a.zone) xs)) t)

    go : (eqb x.zone 12 ≡ true) ⊎ (eqb x.zone 12 ≡ false) → those (is_in_zone 12) xs ≡ [] → cond (eqb x.zone 12) (x ∷ those (is_in_zone 12) xs) (those (is_in_zone 12) xs) ≡ []
    go (inl b) e = absurd (let z : from_landing x.zone ≡ 0 = ap from_landing (eqb-true x.zone 12 b) in let l = low in omega arith)
    go (inr b) e = if_false (x ∷ those (is_in_zone 12) xs) (those (is_in_zone 12) xs) b ∙ e

-- only final is at 0 from landing
past_final : (z : ℕ) → eqb z 12 ≡ false → 1 ≤ from_landing z
past_final z e = subst (λ (b : Bool). 1 ≤ cond b 0 (cond (eqb z 11) 1 (cond (eqb z 9 || eqb z 10) 2 3))) (sym e) (go (eqb z 11) (eqb z 9 || eqb z 10))
  where
    go : (b c : Bool) → 1 ≤ cond b 1 (cond c 2 3)
    go true c = omega arith
    go false true = omega arith
    go false false = omega arith

abbrev head_or : ℕ → List ℕ → ℕ
head_or d [] = d
head_or d (n ∷ ns) = n

-- the sequence begins with a number that is on final
record Begins (f : Field) (n : ℕ) (ns : List ℕ) : Type 0 where
  rest : List ℕ
  is : ns ≡ n ∷ rest
  final : (place_of f n).zone ≡ 12

final_begins : (f : Field) (n : ℕ) (queue : List ℕ) (ns : List ℕ) → T (never_falls (map (λ (a : Listed). from_landing a.zone) (map (listed f) ns)))
    → n ∷ queue ≡ map (λ (a : Listed). a.number) (those (is_in_zone 12) (map (listed f) ns)) → Begins f n ns
final_begins f n queue [] t e = absurd (let h = ap length e in omega arith)
final_begins f n queue (m ∷ ms) t e = go (decided (eqb (place_of f m).zone 12))
  where
    later : List Listed
    later = those (is_in_zone 12) (map (listed f) ms)

    go : (eqb (place_of f m).zone 12 ≡ true) ⊎ (eqb (place_of f m).zone 12 ≡ false) → Begins f n (m ∷ ms)
    go (inl b) =
        let p : n ∷ queue ≡ m ∷ map (λ (a : Listed). a.number) later = e ∙ ap (map (λ (a : Listed). a.number)) (if_true (listed f m ∷ later) later b) in
        let q : n ≡ m = ap (head_or 0) p in
        record { rest = ms; is = ap (λ (k : ℕ). k ∷ ms) (sym q); final = ap (λ (k : ℕ). (place_of f k).zone) q ∙ eqb-true (place_of f m).zone 12 b }
    go (inr b) =
        let k = from_landing (place_of f m).zone in
        let others = map (λ (a : Listed). from_landing a.zone) (map (listed f) ms) in
        let none : later ≡ [] = none_final k (map (listed f) ms) (past_final (place_of f m).zone b) (and_l (every (leb k) others) (never_falls others) t) in
        let p : n ∷ queue ≡ [] = e ∙ ap (map (λ (a : Listed). a.number)) (if_false (listed f m ∷ later) later b ∙ none) in
        absurd (let h = ap length p in omega arith)

-- ---- the count of an area's queues is a count along the sequence
-- one aircraft counts in one zone at the most
in_one : (w : ℕ) (zs : List ℕ) → T (all_different zs) → total (λ z. one (eqb w z)) zs ≤ one (is_in w zs)
in_one w zs t = elim (decided (is_in w zs)) [
  | inl e ↦ let a = counted zs in let b = count_different zs t w in let c : one (is_in w zs) ≡ 1 = if_true 1 0 e in omega arith
  | inr e ↦ let a = counted zs in let b = count_absent zs w e in omega arith
]
  where
    counted : (zs : List ℕ) → total (λ z. one (eqb w z)) zs ≡ count zs w
    counted [] = refl
    counted (z ∷ zs) = let h : one (eqb w z) ≡ one (eqb z w) = ap one (flip_eqb z w refl) in let r = counted zs in omega arith

in_zones : (zs : List ℕ) → T (all_different zs) → (xs : List Listed) → total (λ z. length (those (is_in_zone z) xs)) zs ≤ length (those (λ a. is_in a.zone zs) xs)
in_zones zs t [] = let n = total_none zs in omega arith
in_zones zs t (x ∷ xs) =
    let e : total (λ z. length (those (is_in_zone z) (x ∷ xs))) zs ≡ total (λ z. one (eqb x.zone z) + length (those (is_in_zone z) xs)) zs =
    λ i. total (λ z. split (is_in_zone z) (eqb x.zone z) i) zs in
    let a = total_add (λ z. one (eqb x.zone z)) (λ z. length (those (is_in_zone z) xs)) zs in
    let b = in_one x.zone zs t in
    let c = in_zones zs t xs in
    let d : length (those (λ (y : Listed). is_in y.zone zs) (x ∷ xs)) ≡ one (is_in x.zone zs) + length (those (λ (y : Listed). is_in y.zone zs) xs) =
    split (λ (y : Listed). is_in y.zone zs) (is_in x.zone zs) in
    omega arith
  where
    split : (p : Listed → Bool) (b : Bool) → length (cond b (x ∷ those p xs) (those p xs)) ≡ one b + length (those p xs)
    split p true = omega arith
    split p false = omega arith

-- ---- bound g: the fix of an aircraft is a side
fix_side : (f : Field) → T (within_bounds f) → (x : Aircraft) (rest : List Aircraft) → in_zone f 12 ≡ x ∷ rest → T (is_side x.fix)
unfolding bound_g
fix_side f t x rest e =
    let zones = every (λ z. every (fits_zone f.legs z) (in_zone f z)) everywhere in
    let fits = and_l zones (is_side f.next) (and_l (zones && is_side f.next) (legal_legs f.legs) (within_each f t).bound_g_is) in
    let all-12 = subst (λ (q : List Aircraft). T (every (fits_zone f.legs 12) q)) e (every_listed (λ z. every (fits_zone f.legs z) (in_zone f z)) everywhere 12 fits refl) in
    let one-12 = and_l (fits_zone f.legs 12 x) (every (fits_zone f.legs 12) rest) all-12 in
    (fits_parts f.legs 12 x one-12).side

side_is : (P : ℕ → Type 0) → P 1 → P 2 → (s : ℕ) → T (is_side s) → P s
unfolding is_side
side_is P p q s t = elim (decided (eqb s 1)) [
  | inl e ↦ subst P (sym (eqb-true s 1 e)) p
  | inr e ↦ subst P (sym (eqb→eq s 2 (subst (λ (b : Bool). T (b || eqb s 2)) e t))) q
]

-- ---- room at the side
module _ (f : Field) (c : Reason f) where
  -- the count of a zone's queue is a count along the sequence
  how_many_along : (z : ℕ) → T (within 1 12 z) → how_many f z ≡ length (those (is_in_zone z) (sequence_listed f))
  unfolding how_many
  how_many_along z t = sym (length-map (in_zone f z) (λ (a : Aircraft). a.number)) ∙ ap length (c.queues_agree z t) ∙ length-map (those (is_in_zone z) (sequence_listed f)) (λ (a : Listed). a.number)

  total_along : (zs : List ℕ) → T (every (within 1 12) zs) → total (how_many f) zs ≡ total (λ z. length (those (is_in_zone z) (sequence_listed f))) zs
  total_along [] t = refl
  total_along (z ∷ zs) t =
      let a = how_many_along z (and_l (within 1 12 z) (every (within 1 12) zs) t) in
      let b = total_along zs (and_r (within 1 12 z) (every (within 1 12) zs) t) in
      omega arith

  area_along : (s : ℕ) → T (is_side s) → in_area f s ≤ length (those (is_in_area s) (sequence_listed f))
  unfolding in_area
  area_along = side_is (λ s. total (how_many f) (area s) ≤ length (those (is_in_area s) (sequence_listed f)))
      (let a = total_along (area 1) tt in let b = in_zones (area 1) tt (sequence_listed f) in omega arith)
      (let a = total_along (area 2) tt in let b = in_zones (area 2) tt (sequence_listed f) in omega arith)

  -- whoever is on final and first in the sequence has room
  room_first : (n : ℕ) → Begins f n (order_of f.sequence) → T (is_side (fix_of f n)) → in_area f (fix_of f n) ≤ 1
  unfolding sequence_listed room_to_miss
  room_first n b t =
      let s = fix_of f n in
      let behind = map (listed f) b.rest in
      let is : sequence_listed f ≡ listed f n ∷ behind = ap (map (listed f)) b.is in
      let rooms = subst (λ (l : List Listed). T (each_among has_room [] l)) is c.room_to_miss_is in
      let room = leb→le (length (those (is_in_area s) behind) + 0) 1 (and_l (has_room [] (listed f n) behind) (each_among has_room (listed f n ∷ []) behind) rooms) in
      let outside : is_in_area s (listed f n) ≡ false = ap (λ (z : ℕ). is_in z (area s)) b.final ∙ side_is (λ s. is_in 12 (area s) ≡ false) refl refl s t in
      let same : length (those (is_in_area s) (sequence_listed f)) ≡ length (those (is_in_area s) behind) =
      ap (λ (l : List Listed). length (those (is_in_area s) l)) is ∙ ap length (if_false (listed f n ∷ those (is_in_area s) behind) (those (is_in_area s) behind) outside) in
      let a = area_along s t in
      omega arith

  -- of any field within the bounds: whoever heads final finds at most one aircraft in the area of its fix
  pub reason_gives_room : T (within_bounds f) → RoomAtSide f
  unfolding approach_order sequence_listed place_of fix_of aircraft_at
  reason_gives_room t n h =
      let z = eqb→eq (place_of f n).zone 12 (and_l (eqb (place_of f n).zone 12) (eqb (place_of f n).place 1) h) in
      let k = eqb→eq (place_of f n).place 1 (and_r (eqb (place_of f n).zone 12) (eqb (place_of f n).place 1) h) in
      let q : Heads n (in_zone f 12) = elim (find_place f n everywhere) [
        | inl e ↦ absurd (let y : (place_of f n).zone ≡ 0 = ap (λ (p : Place). p.zone) e in omega arith)
        | inr e ↦ place_one n (in_zone f 12) (ap (λ (w : ℕ). place_from 1 n (in_zone f w)) (sym z) ∙ e ∙ k)
      ] in
      let begins = final_begins f n (map (λ (a : Aircraft). a.number) q.rest) (order_of f.sequence) c.approach_order_is
      (ap (λ (m : ℕ). m ∷ map (λ (a : Aircraft). a.number) q.rest) (sym q.named) ∙ sym (ap (map (λ (a : Aircraft). a.number)) q.is) ∙ c.queues_agree 12 tt) in
      let fix : fix_of f n ≡ q.head.fix =
      ap (λ (w : ℕ). (aircraft_at f w (place_of f n).place).fix) z ∙ ap (λ (i : ℕ). (aircraft_at f 12 i).fix) k ∙ ap (λ (l : List Aircraft). (get_or (nobody ∷ l) 1 nobody).fix) q.is in
      room_first n begins (subst (λ (s : ℕ). T (is_side s)) (sym fix) (fix_side f t q.head q.rest q.is))
