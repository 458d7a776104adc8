-- Those of the operation area counted along the landing sequence, on any field within the bounds: no more are there than the sequence names, and no more with a fix
-- than the sequence has with it; and fixes that alternate. Assumes nothing.
use mathlib.Core.Path.{◌≡◌, refl, sym, ap, ◌∙◌, subst}
use mathlib.Core.Logic.{◌≢◌, ◌⊎◌, inl, inr}
use mathlib.Core.Bool.{Bool, true, false, cond, not, ◌&&◌, ◌||◌, true≢false, or-true}
use mathlib.Core.List.{List, [], ◌∷◌, ◌++◌, map}
use Prim.Native.Nat.{ℕ, zero, suc, ◌+◌, ◌≤◌, ◌<◌}
use native.Mathlib.Omega.{arith}
use native.Mathlib.Numerals.{add-one}
use borrow.Author.Tests.{eqb-true, ne_eqb, lt-ltb}
use lib.Dec.{T, eqb, leb, leb→le}
use lib.Ieee.Fits.{and_i, and_l, and_r}
use lib.ListN.{length, get_or, take, set}
use lib.Seq.{length-take-le, take-suc-set}
use Rattle.leg.specs.Ticks.{Between}
use Rattle.field.specs.declared.Aircraft.{Aircraft}
use Rattle.field.specs.declared.Sequence.{Sequence}
use Rattle.field.specs.declared.Field.{Field}
use Rattle.questions.specs.declared.Place.{Place}
use Rattle.field.specs.Airspace.{is_side, opposite, operation, everywhere, nobody, in_zone, order_of}
use Rattle.field.specs.Lists.{is_in, every, all_different}
use Rattle.edits.specs.Edits.{appended}
use Rattle.questions.specs.Counts.{total, have_fix, how_many, how_many_with_fix, in_operation, per_fix}
use Rattle.questions.specs.Find.{place_of, aircraft_at, fix_of, numbers_in}
use Rattle.numbers.specs.Numbers.{sequence_exact}
use Rattle.bounds.specs.Bounds.{alternate, within_bounds}
use Rattle.field.proofs.NumberLists.{every_listed}
use Rattle.field.proofs.TestLaws.{pass, passed, failed, decided, if_true, if_false, same}
use Rattle.order.specs.Model.{count}
use Rattle.questions.proofs.NumbersListed.{numbers_at, one_zone_more}
use Rattle.questions.proofs.FindLaws.{numbers, own_place}
use Rattle.laws.proofs.EditLaws.{ShapedSequence}
use Rattle.laws.proofs.BoundLaws.{within_e, numbers_different}
use Rattle.line.proofs.Members.{count_append}
use Rattle.moves.proofs.StaysOrderly.{different_of}

-- ---- sums over lists of numbers

-- a number taken out of a list, where it stands first
abbrev taken_out : ℕ → List ℕ → List ℕ
taken_out n [] = []
taken_out n (y ∷ ys) = cond (eqb y n) ys (y ∷ taken_out n ys)

out_summed : (p : ℕ → ℕ) (n : ℕ) (ys : List ℕ) → is_in n ys ≡ true → total p ys ≡ p n + total p (taken_out n ys)
out_summed p n [] i = absurd (true≢false (sym i))
out_summed p n (y ∷ ys) i = go (decided (eqb y n)) (out_summed p n ys)
  where
    go : (eqb y n ≡ true) ⊎ (eqb y n ≡ false) → (is_in n ys ≡ true → total p ys ≡ p n + total p (taken_out n ys)) → total p (y ∷ ys) ≡ p n + total p (taken_out n (y ∷ ys))
    go (inl e) rest =
        let l = ap (total p) (if_true ys (y ∷ taken_out n ys) e) in
        let h = ap p (eqb-true y n e) in
        omega (arith, l, h)
    go (inr e) rest =
        let l = ap (total p) (if_false ys (y ∷ taken_out n ys) e) in
        let h = rest (sym (ap (λ (b : Bool). b || is_in n ys) e) ∙ i) in
        omega (arith, l, h)

still_in : (n m : ℕ) (ys : List ℕ) → m ≢ n → is_in m ys ≡ true → is_in m (taken_out n ys) ≡ true
still_in n m [] d i = i
still_in n m (y ∷ ys) d i = go (decided (eqb y n)) (still_in n m ys d)
  where
    go : (eqb y n ≡ true) ⊎ (eqb y n ≡ false) → (is_in m ys ≡ true → is_in m (taken_out n ys) ≡ true) → is_in m (taken_out n (y ∷ ys)) ≡ true
    go (inl e) rest =
        let other : eqb y m ≡ false = ne_eqb y m (λ h. d (sym h ∙ eqb-true y n e)) in
        ap (is_in m) (if_true ys (y ∷ taken_out n ys) e) ∙ sym (ap (λ (b : Bool). b || is_in m ys) other) ∙ i
    go (inr e) rest = ap (is_in m) (if_false ys (y ∷ taken_out n ys) e) ∙ elim (decided (eqb y m)) [
      | inl h ↦ ap (λ (b : Bool). b || is_in m (taken_out n ys)) h
      | inr h ↦ ap (λ (b : Bool). b || is_in m (taken_out n ys)) h ∙ rest (sym (ap (λ (b : Bool). b || is_in m ys) h) ∙ i)
    ]

-- different numbers that all stand in another list add up to no more than that
pub sum_some : (p : ℕ → ℕ) (xs ys : List ℕ) → T (all_different xs) → ((m : ℕ) → is_in m xs ≡ true → is_in m ys ≡ true) → total p xs ≤ total p ys
sum_some p [] ys d h = omega arith
sum_some p (x ∷ xs) ys d h =
    let once : is_in x xs ≡ false = failed (and_l (not (is_in x xs)) (all_different xs) d) in
    let other : (m : ℕ) → is_in m xs ≡ true → m ≢ x = λ m i e. true≢false (sym i ∙ ap (λ (k : ℕ). is_in k xs) e ∙ once) in
    let later : (m : ℕ) → is_in m xs ≡ true → is_in m (x ∷ xs) ≡ true = λ m i. ap (λ (b : Bool). eqb x m || b) i ∙ or-true (eqb x m) in
    let rest = sum_some p xs (taken_out x ys) (and_r (not (is_in x xs)) (all_different xs) d) (λ m i. still_in x m ys (other m i) (h m (later m i))) in
    let here = out_summed p x ys (h x (ap (λ (b : Bool). b || is_in x xs) (same x))) in
    omega (arith, rest, here)

total_append : (p : ℕ → ℕ) (xs ys : List ℕ) → total p (xs ++ ys) ≡ total p xs + total p ys
total_append p [] ys = omega arith
total_append p (x ∷ xs) ys = let h = total_append p xs ys in omega (arith, h)

-- ---- the sequence

-- As many stand in it as its length says.
pub order_length_lem : (s : Sequence) → ShapedSequence s → length (order_of s) ≡ s.length
unfolding order_of
order_length_lem s k = length-take-le s.length s.numbers (omega arith)

-- Another comes to its end.
pub last_put : (s : Sequence) → ShapedSequence s → (n : ℕ) → s.length < 4 → order_of (appended s n) ≡ order_of s ++ (n ∷ [])
unfolding order_of appended
last_put s k n h =
    ap order_of (if_true _ s (lt-ltb s.length 4 h)) ∙ ap (λ (i : ℕ). take i (set s.numbers s.length n)) (add-one s.length) ∙ take-suc-set s.numbers s.length n (omega arith)

-- ---- zone by zone, and number by number
module _ (f : Field) where
  by_numbers : (c w : ℕ → ℕ) (zs : List ℕ) → ((z : ℕ) → is_in z zs ≡ true → w z ≡ total c (numbers_at f z)) → total w zs ≡ total c (numbers_in f zs)
  by_numbers c w [] h = refl
  by_numbers c w (z ∷ zs) h =
      let here = h z (ap (λ (b : Bool). b || is_in z zs) (same z)) in
      let rest = by_numbers c w zs (λ y i. h y (ap (λ (b : Bool). eqb z y || b) i ∙ or-true (eqb z y))) in
      let both = total_append c (numbers_at f z) (numbers_in f zs) in
      omega (arith, here, rest, both)

  ones : (l : List Aircraft) → length l ≡ total (λ n. 1) (numbers l)
  ones [] = refl
  ones (a ∷ l) = let h = ones l in omega (arith, h)

  -- the fix of a number, as one that is counted
  abbrev pub given_fix : ℕ → ℕ → ℕ
  given_fix s n = cond (eqb (fix_of f n) s) 1 0

  queue_fixes : (s : ℕ) (l : List Aircraft) → ((k : ℕ) → k < length l → fix_of f (get_or l k nobody).number ≡ (get_or l k nobody).fix) → have_fix s l ≡ total (given_fix s) (numbers l)
  queue_fixes s [] h = refl
  queue_fixes s (a ∷ l) h =
      let here : ◌≡◌ {A = ℕ} (cond (eqb a.fix s) 1 0) (given_fix s a.number) = ap (λ (x : ℕ). cond (eqb x s) 1 0) (sym (h 0 (omega arith))) in
      let rest = queue_fixes s l (λ k q. h (suc k) (omega (arith, q))) in
      omega (arith, here, rest)

  in_operation_lem : (z : ℕ) → is_in z operation ≡ true → Between 1 13 z
  in_operation_lem z i =
      let t = every_listed (λ y. leb 1 y && leb y 13) operation z tt i in
      record { least = leb→le 1 z (and_l (leb 1 z) (leb z 13) t); most = leb→le z 13 (and_r (leb 1 z) (leb z 13) t) }

  module _ (t : T (within_bounds f)) where
    zone_fixes : (s z : ℕ) → Between 1 13 z → have_fix s (in_zone f z) ≡ total (given_fix s) (numbers_at f z)
    unfolding fix_of aircraft_at how_many
    zone_fixes s z b =
        queue_fixes s (in_zone f z)
        (λ k q.
        ap (λ (p : Place). (aircraft_at f p.zone p.place).fix) (own_place f z (suc k) (numbers_different f t) b (omega arith) (omega (arith, q))))

    -- each number of the operation area stands in the sequence, and the other way round
    abbrev order : List ℕ
    order = order_of f.sequence

    pub inside_order : (m : ℕ) → is_in m (numbers_in f operation) ≡ true → is_in m order ≡ true
    unfolding sequence_exact
    inside_order m i =
        let a = all_different order && every (λ n. is_in n (numbers_in f operation)) order in
        passed (every_listed (λ n. is_in n order) (numbers_in f operation) m (and_r a (every (λ n. is_in n order) (numbers_in f operation)) (within_e f t).exact) i)

    pub order_inside : (m : ℕ) → is_in m order ≡ true → is_in m (numbers_in f operation) ≡ true
    unfolding sequence_exact
    order_inside m i =
        let one = all_different order in
        let two = every (λ n. is_in n (numbers_in f operation)) order in
        let three = every (λ n. is_in n order) (numbers_in f operation) in
        passed (every_listed (λ n. is_in n (numbers_in f operation)) order m (and_r one two (and_l (one && two) three (within_e f t).exact)) i)

    pub order_different : T (all_different order)
    unfolding sequence_exact
    order_different =
        let one = all_different order in
        let two = every (λ n. is_in n (numbers_in f operation)) order in
        and_l one two (and_l (one && two) (every (λ n. is_in n order) (numbers_in f operation)) (within_e f t).exact)

    area_different : T (all_different (numbers_in f operation))
    area_different =
        let some = numbers_in f operation in
        different_of some (numbers_in f everywhere)
        (λ n. subst (λ (l : List ℕ). count some n ≤ count l n) (sym (one_zone_more f 1 12)) (let c = count_append some (numbers_at f 13) n in omega (arith, c)))
        (numbers_different f t)

    -- The sequence is no longer than the operation area has aircraft.
    pub order_few : length order ≤ in_operation f
    unfolding in_operation how_many
    order_few =
        let a = by_numbers (λ n. 1) (λ z. length (in_zone f z)) operation (λ z i. ones (in_zone f z)) in
        let b = sum_some (λ n. 1) order (numbers_in f operation) order_different order_inside in
        let c = length_total order in
        omega (arith, a, b, c)
      where
        length_total : (ns : List ℕ) → length ns ≡ total (λ n. 1) ns
        length_total [] = refl
        length_total (n ∷ ns) = let h = length_total ns in omega (arith, h)

    -- Of those with a fix there are no more than the sequence has.
    pub fixes_few : (s : ℕ) → per_fix f s ≤ total (given_fix s) order
    unfolding per_fix how_many_with_fix
    fixes_few s =
        let a = by_numbers (given_fix s) (λ z. have_fix s (in_zone f z)) operation (λ z i. zone_fixes s z (in_operation_lem z i)) in
        let b = sum_some (given_fix s) (numbers_in f operation) order area_different inside_order in
        omega (arith, a, b)

-- ---- fixes that alternate

-- a fix whose opposite is a side is another than that
not_opposite : (a b : ℕ) → T (eqb b (opposite a)) → T (is_side b) → eqb a b ≡ false
unfolding is_side opposite
not_opposite a b t s =
    let is : b ≡ opposite a = eqb-true b (opposite a) (passed t) in
    elim (decided (eqb a b)) [
      | inl e ↦
          let same : opposite b ≡ b = ap opposite (sym (eqb-true a b e)) ∙ sym is in
          elim (decided (eqb b 1)) [
            | inl h ↦ absurd (let q = eqb-true b 1 h in let r = sym (ap opposite q) ∙ same in omega (arith, q, r))
            | inr h ↦
                let q = eqb-true b 2 (sym (ap (λ (c : Bool). c || eqb b 2) h) ∙ passed s) in
                let r = sym (ap opposite q) ∙ same in
                absurd (omega (arith, q, r))
          ]
      | inr e ↦ e
    ]

one_at_most : (b : Bool) → cond {A = ℕ} b 1 0 ≤ 1
one_at_most true = omega arith
one_at_most false = omega arith

-- Of three at the most whose fixes alternate, with the next fix behind them, one at the most has the next fix.
pub next_once : (fix : ℕ → ℕ) (next : ℕ) (ns : List ℕ) → length ns ≤ 3 → T (is_side next) → T (alternate (map fix ns ++ (next ∷ []))) → total (λ n. cond (eqb (fix n) next) 1 0) ns ≤ 1
next_once fix next [] few s t = omega arith
next_once fix next (a ∷ []) few s t = let h = one_at_most (eqb (fix a) next) in omega (arith, h)
next_once fix next (a ∷ b ∷ []) few s t =
    let last = and_l (eqb next (opposite (fix b))) true (and_r (eqb (fix b) (opposite (fix a))) (eqb next (opposite (fix b)) && true) t) in
    let none = ap (λ (c : Bool). cond {A = ℕ} c 1 0) (not_opposite (fix b) next last s) in
    let h = one_at_most (eqb (fix a) next) in
    omega (arith, none, h)
next_once fix next (a ∷ b ∷ c ∷ []) few s t =
    let two = eqb (fix c) (opposite (fix b)) && (eqb next (opposite (fix c)) && true) in
    let behind = and_r (eqb (fix b) (opposite (fix a))) two t in
    let first = and_l (eqb (fix b) (opposite (fix a))) two t in
    let last = and_l (eqb next (opposite (fix c))) true (and_r (eqb (fix c) (opposite (fix b))) (eqb next (opposite (fix c)) && true) behind) in
    let none = ap (λ (x : Bool). cond {A = ℕ} x 1 0) (not_opposite (fix c) next last s) in
    elim (decided (eqb (fix b) next)) [
      | inl e ↦
          let q = eqb-true (fix b) next e in
          let other = not_opposite (fix a) (fix b) first (subst (λ (x : ℕ). T (is_side x)) (sym q) s) in
          let before = ap (λ (x : ℕ). cond {A = ℕ} (eqb (fix a) x) 1 0) (sym q) ∙ ap (λ (x : Bool). cond {A = ℕ} x 1 0) other in
          let h = one_at_most (eqb (fix b) next) in
          omega (arith, none, before, h)
      | inr e ↦
          let middle = ap (λ (x : Bool). cond {A = ℕ} x 1 0) e in
          let h = one_at_most (eqb (fix a) next) in
          omega (arith, none, middle, h)
    ]
next_once fix next (a ∷ b ∷ c ∷ d ∷ ns) few s t = absurd (omega (arith, few))

-- Behind a fix its opposite follows.
pub alternate_more : (xs : List ℕ) (s : ℕ) → T (alternate (xs ++ (s ∷ []))) → T (alternate (xs ++ (s ∷ opposite s ∷ [])))
alternate_more [] s t = and_i (eqb (opposite s) (opposite s)) true (pass (same (opposite s))) tt
alternate_more (x ∷ []) s t =
    and_i (eqb s (opposite x)) (eqb (opposite s) (opposite s) && true) (and_l (eqb s (opposite x)) true t) (and_i (eqb (opposite s) (opposite s)) true (pass (same (opposite s))) tt)
alternate_more (x ∷ y ∷ xs) s t =
    and_i (eqb y (opposite x)) (alternate (y ∷ xs ++ (s ∷ opposite s ∷ []))) (and_l (eqb y (opposite x)) (alternate (y ∷ xs ++ (s ∷ []))) t)
    (alternate_more (y ∷ xs) s (and_r (eqb y (opposite x)) (alternate (y ∷ xs ++ (s ∷ []))) t))
