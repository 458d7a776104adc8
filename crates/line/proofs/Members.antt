-- How often a number stands in a list decides who is in it, whether all differ and whether none is 0; and the numbers of a field's zones
-- are, as often each, those of the order that it stands for. Assumes nothing.
use mathlib.Core.Path.{◌≡◌, refl, sym, ap, ◌∙◌}
use mathlib.Core.Logic.{◌⊎◌, inl, inr}
use mathlib.Core.Bool.{Bool, true, false, cond, not, ◌&&◌, ◌||◌, true≢false}
use mathlib.Core.List.{List, [], ◌∷◌, ◌++◌}
use Prim.Native.Nat.{ℕ, ◌+◌, ◌≤◌}
use native.Mathlib.Omega.{arith}
use lib.Dec.{T, leb, eqb, leb→le}
use lib.Ieee.Fits.{and_i, and_l, and_r}
use borrow.Author.Tests.{eqb-true}
use Rattle.request.specs.Input.{within}
use Rattle.field.specs.declared.Aircraft.{Aircraft}
use Rattle.field.specs.declared.Legs.{Legs}
use Rattle.field.specs.declared.Field.{Field}
use Rattle.field.specs.Airspace.{everywhere, operation, in_zone}
use Rattle.field.specs.Lists.{is_in, every, all_different}
use Rattle.questions.specs.Counts.{total}
use Rattle.questions.specs.Find.{numbers_in}
use Rattle.order.specs.Model.{Side, count, one}
use Rattle.field.proofs.TestLaws.{pass, failed, fail, decided, if_true, if_false, same, each_operation}
use Rattle.line.proofs.Line.{Placed, zones_in, numbers_of, inside, field_of}
use Rattle.line.proofs.CountedOnLine.{in_line, on_runway_lem, total_same, total_add}
use Rattle.questions.proofs.FindLaws.{numbers}
use Rattle.line.proofs.Leaders.{nonzero}

-- ---- by how often a number stands in a list
pub count_append : (xs ys : List ℕ) (n : ℕ) → count (xs ++ ys) n ≡ count xs n + count ys n
count_append [] ys n = omega arith
count_append (x ∷ xs) ys n = let e = count_append xs ys n in omega arith

-- a number that stands nowhere
pub absent_count : (xs : List ℕ) (n : ℕ) → count xs n ≡ 0 → is_in n xs ≡ false
absent_count [] n e = refl
absent_count (x ∷ xs) n e = go (eqb x n) e (absent_count xs n)
  where
    go : (b : Bool) → one b + count xs n ≡ 0 → (count xs n ≡ 0 → is_in n xs ≡ false) → (b || is_in n xs) ≡ false
    go true e h = absurd (omega arith)
    go false e h = h (omega arith)

pub count_absent : (xs : List ℕ) (n : ℕ) → is_in n xs ≡ false → count xs n ≡ 0
count_absent [] n e = refl
count_absent (x ∷ xs) n e = go (eqb x n) e (count_absent xs n)
  where
    go : (b : Bool) → (b || is_in n xs) ≡ false → (is_in n xs ≡ false → count xs n ≡ 0) → one b + count xs n ≡ 0
    go true e h = absurd (true≢false e)
    go false e h = let k = h e in omega arith

pub in_count : (xs : List ℕ) (n : ℕ) → 1 ≤ count xs n → is_in n xs ≡ true
in_count xs n h = elim (decided (is_in n xs)) [ inl e ↦ e | inr e ↦ absurd (let k = count_absent xs n e in omega arith) ]

-- all different: each number once at the most
pub different_count : (xs : List ℕ) → ((n : ℕ) → count xs n ≤ 1) → T (all_different xs)
different_count [] h = tt
different_count (x ∷ xs) h =
    and_i (not (is_in x xs)) (all_different xs)
    (fail (absent_count xs x (let k = h x in let s : one (eqb x x) ≡ 1 = if_true 1 0 (same x) in omega arith)))
    (different_count xs (λ n. let k = h n in omega arith))

pub count_different : (xs : List ℕ) → T (all_different xs) → (n : ℕ) → count xs n ≤ 1
count_different [] t n = omega arith
count_different (x ∷ xs) t n = go (decided (eqb x n)) (count_different xs (and_r (not (is_in x xs)) (all_different xs) t) n)
  where
    go : (eqb x n ≡ true) ⊎ (eqb x n ≡ false) → count xs n ≤ 1 → one (eqb x n) + count xs n ≤ 1
    go (inl e) h =
        let k : count xs x ≡ 0 = count_absent xs x (failed (and_l (not (is_in x xs)) (all_different xs) t)) in
        let l : count xs n ≡ 0 = ap (count xs) (sym (eqb-true x n e)) ∙ k in
        let s : one (eqb x n) ≡ 1 = if_true 1 0 e in
        omega arith
    go (inr e) h = let s : one (eqb x n) ≡ 0 = if_false 1 0 e in omega arith

-- none is 0
pub nonzero_count : (xs : List ℕ) → count xs 0 ≡ 0 → T (every nonzero xs)
nonzero_count [] e = tt
nonzero_count (x ∷ xs) e = go (eqb x 0) e (nonzero_count xs)
  where
    go : (b : Bool) → one b + count xs 0 ≡ 0 → (count xs 0 ≡ 0 → T (every nonzero xs)) → T (not b && every nonzero xs)
    go true e h = absurd (omega arith)
    go false e h = h (omega arith)

pub count_nonzero : (xs : List ℕ) → T (every nonzero xs) → count xs 0 ≡ 0
count_nonzero [] t = refl
count_nonzero (x ∷ xs) t = go (eqb x 0) t (count_nonzero xs)
  where
    go : (b : Bool) → T (not b && every nonzero xs) → (T (every nonzero xs) → count xs 0 ≡ 0) → one b + count xs 0 ≡ 0
    go true t h = absurd t
    go false t h = let k = h t in omega arith

-- two lists with each number as often: who is in one is in the other
pub every_in : (xs ys : List ℕ) → ((n : ℕ) → count xs n ≤ count ys n) → T (every (λ n. is_in n ys) xs)
every_in xs ys h = go xs (λ n. count_le n)
  where
    count_le : (n : ℕ) → is_in n xs ≡ true → is_in n ys ≡ true
    count_le n e = in_count ys n (let k = h n in let l : 1 ≤ count xs n = positive n e in omega arith)
      where
        positive : (n : ℕ) → is_in n xs ≡ true → 1 ≤ count xs n
        positive n e =
            elim (decided (leb 1 (count xs n))) [
              | inl t ↦ leb→le 1 (count xs n) (pass t)
              | inr t ↦ absurd (true≢false (sym e ∙ absent_count xs n (let k = borrow.Author.Tests.leb-false 1 (count xs n) t in omega arith)))
            ]

    go : (zs : List ℕ) → ((n : ℕ) → is_in n zs ≡ true → is_in n ys ≡ true) → T (every (λ n. is_in n ys) zs)
    go [] k = tt
    go (z ∷ zs) k =
        and_i (is_in z ys) (every (λ n. is_in n ys) zs)
        (pass (k z (ap (λ (b : Bool). b || is_in z zs) (same z))))
        (go zs (λ n e. k n (ap (λ (b : Bool). eqb z n || b) e ∙ right_true (eqb z n))))
      where
        right_true : (b : Bool) → (b || true) ≡ true
        right_true true = refl
        right_true false = refl

-- ---- the numbers of the zones
pub numbers_total : (f : Field) (n : ℕ) (zs : List ℕ) → count (numbers_in f zs) n ≡ total (λ z. count (numbers (in_zone f z)) n) zs
numbers_total f n [] = refl
numbers_total f n (z ∷ zs) = let a = count_append (numbers (in_zone f z)) (numbers_in f zs) n in let b = numbers_total f n zs in omega arith

-- a number that belongs to one zone counts once over all
in_one_zone : (h z : ℕ) → T (within 1 13 z) → T (within 1 12 z) → total (λ w. cond (eqb z w) h 0) operation ≡ h
in_one_zone h z t =
    each_operation (λ (z : ℕ). total (λ w. cond (eqb z w) h 0) operation ≡ h)
    (omega arith, omega arith, omega arith, omega arith, omega arith, omega arith, omega arith, omega arith, omega arith, omega arith, omega arith, omega arith) z

line_total : (n : ℕ) (line : List Placed) → T (every (within 1 12) (zones_in line)) → total (λ z. count (numbers (inside z line)) n) operation ≡ count (numbers_of line) n
line_total n [] t = refl
line_total n (e ∷ line) t =
    let hit = one (eqb e.aircraft.number n) in
    let v = and_l (within 1 12 e.zone) (every (within 1 12) (zones_in line)) t in
    let a =
    Rattle.line.proofs.CountedOnLine.total_same (λ z. count (numbers (inside z (e ∷ line))) n)
    (λ z. cond (eqb e.zone z) hit 0 + count (numbers (inside z line)) n) operation tt (λ z u. split (eqb e.zone z) z) in
    let b = total_add (λ z. cond (eqb e.zone z) hit 0) (λ z. count (numbers (inside z line)) n) operation in
    let c = in_one_zone hit e.zone (Rattle.line.proofs.CountedOnLine.lower e.zone v) v in
    let d = line_total n line (and_r (within 1 12 e.zone) (every (within 1 12) (zones_in line)) t) in
    omega arith
  where
    split : (b : Bool) (z : ℕ) → count (numbers (cond b (e.aircraft ∷ inside z line) (inside z line))) n ≡ cond b (one (eqb e.aircraft.number n)) 0 + count (numbers (inside z line)) n
    split true z = refl
    split false z = omega arith

module _ (f : Side) (line : List Placed) (runway : List Aircraft) (legs : Legs) (t : T (every (within 1 12) (zones_in line))) (n : ℕ) where
  abbrev F : Field
  F = field_of f line runway legs

  pub operation_numbers : count (numbers_in F operation) n ≡ count (numbers_of line) n
  operation_numbers =
      numbers_total F n operation
      ∙ total_same (λ z. count (numbers (in_zone F z)) n) (λ z. count (numbers (inside z line)) n) operation tt (λ z u. ap (λ (l : List Aircraft). count (numbers l) n) (in_line f line runway legs z u))
      ∙ line_total n line t

  pub field_numbers : count (numbers_in F everywhere) n ≡ count (numbers_of line ++ numbers runway) n
  field_numbers =
      let a = numbers_total F n everywhere in
      let b = numbers_total F n operation in
      let c = operation_numbers in
      let d : count (numbers (in_zone F 13)) n ≡ count (numbers runway) n = ap (λ (l : List Aircraft). count (numbers l) n) (on_runway_lem f line runway legs) in
      let e = count_append (numbers_of line) (numbers runway) n in
      omega arith
