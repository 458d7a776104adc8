-- Tests that have several parts: a conjunction and a disjunction by their parts, a test of each element of a list, one a turn, and of
-- each zone from `first` to `last`. Assumes nothing.
use mathlib.Core.Path.{◌≡◌, refl, sym, ap, ◌∙◌}
use mathlib.Core.Bool.{Bool, true, false, cond, not, ◌&&◌, ◌||◌}
use mathlib.Core.List.{List, ◌∷◌}
use Prim.Native.Nat.{ℕ, suc, ◌+◌, ◌-◌, ◌≤◌, ◌<◌}
use native.Mathlib.Numerals.{add-one}
use native.Mathlib.Omega.{arith}
use borrow.Author.Tests.{le-leb, lt-leb, eq-eqb, ne_eqb, not-true, not-false}
use lib.Dec.{leb, eqb}
use lib.ListN.{length, get_or, drop}
use Rattle.field.proofs.Arrays.{Walked, next_of, walked_none, walked_more, walked_stop, walked_all}
use Rattle.field.specs.Airspace.{zones_from}
use Rattle.field.specs.Lists.{every}

pub and_then : {x y r : Bool} → x ≡ true → y ≡ r → (x && y) ≡ r
and_then {y = y} e h = ap (λ (t : Bool). t && y) e ∙ h

pub and_cut : {x : Bool} (y : Bool) → x ≡ false → (x && y) ≡ false
and_cut y e = ap (λ (t : Bool). t && y) e

pub or_first : {x : Bool} (y : Bool) → x ≡ true → (x || y) ≡ true
or_first y e = ap (λ (t : Bool). t || y) e

pub or_else : {x y r : Bool} → x ≡ false → y ≡ r → (x || y) ≡ r
or_else {y = y} e h = ap (λ (t : Bool). t || y) e ∙ h

pub cond_then {ℓ} : {A : Type ℓ} {t : Bool} {x r : A} (y : A) → t ≡ true → x ≡ r → cond t x y ≡ r
cond_then {A = A} {x = x} y e h = ap (λ (b : Bool). cond {A = A} b x y) e ∙ h

pub cond_else {ℓ} : {A : Type ℓ} {t : Bool} (x : A) {y r : A} → t ≡ false → y ≡ r → cond t x y ≡ r
cond_else {A = A} x {y = y} e h = ap (λ (b : Bool). cond {A = A} b x y) e ∙ h

-- a part x whose test a function has yielded as r, where the code goes by `!r`
pub holds : {x r : Bool} → r ≡ x → not r ≡ false → x ≡ true
holds {r = r} e h = sym e ∙ not-false r h

pub fails : {x r : Bool} → r ≡ x → not r ≡ true → x ≡ false
fails {r = r} e h = sym e ∙ not-true r h

-- a test of a number n that a function has yielded as r
pub at_most : {n k r : ℕ} → r ≡ n → r ≤ k → leb n k ≡ true
at_most {n} {k} e h = le-leb n k (omega arith)

pub over : {n k r : ℕ} → r ≡ n → k < r → leb n k ≡ false
over {n} {k} e h = lt-leb n k (omega arith)

pub is : {n k r : ℕ} → r ≡ n → r ≡ k → eqb n k ≡ true
is e h = eq-eqb _ _ (sym e ∙ h)

pub is_not : {n k r : ℕ} → r ≡ n → (r ≡ k → ⊥) → eqb n k ≡ false
is_not e h = ne_eqb _ _ (λ g. h (e ∙ g))

-- a loop that tests each element of l from place s on
module _ {A : Type 0} (p : A → Bool) (l : List A) (s : ℕ) where
  pub each_more : (i : ℕ) {x : A} → Walked (every p) l s i → i < length l → drop i l ≡ x ∷ drop (i + 1) l → p x ≡ true
      → Walked (every p) l s (i + 1)
  each_more i w h e g = walked_more (every p) l s i w h e (and_then g refl)

  -- the element that fails decides
  pub each_not : (i : ℕ) {x : A} → Walked (every p) l s i → drop i l ≡ x ∷ drop (i + 1) l → p x ≡ false → every p (drop s l) ≡ false
  each_not i w e g = walked_stop (every p) l s i w e (and_cut _ g)

-- a loop to whose zone z each zone from `first` has passed the test p
pub record Passed (p : ℕ → Bool) (first last z : ℕ) : Type 0 where
  pub low : first ≤ z
  pub high : z ≤ last + 1
  pub rest : every p (zones_from first (last + 1 - first)) ≡ every p (zones_from z (last + 1 - z))

module _ (p : ℕ → Bool) (first last : ℕ) where
  pub passed_none : first ≤ last + 1 → Passed p first last first
  passed_none h = record { low = omega arith; high = h; rest = refl }

  next : (z : ℕ) → z ≤ last → every p (zones_from z (last + 1 - z)) ≡ (p z && every p (zones_from (z + 1) (last + 1 - (z + 1))))
  next z h =
      let e : last + 1 - z ≡ suc (last + 1 - suc z) = omega arith in
      rw (add-one z) (ap (λ (k : ℕ). every p (zones_from z k)) e)

  pub passed_more : (z : ℕ) → Passed p first last z → z ≤ last → p z ≡ true → Passed p first last (z + 1)
  passed_more z a h e = record { low = omega arith; high = omega arith; rest = a.rest ∙ next z h ∙ and_then e refl }

  -- the zone that fails decides
  pub passed_not : (z : ℕ) → Passed p first last z → z ≤ last → p z ≡ false → every p (zones_from first (last + 1 - first)) ≡ false
  passed_not z a h e = a.rest ∙ next z h ∙ and_cut _ e

  pub passed_all : (z : ℕ) → Passed p first last z → last < z → every p (zones_from first (last + 1 - first)) ≡ true
  passed_all z a h =
      let e : last + 1 - z ≡ 0 = omega arith in
      a.rest ∙ ap (λ (k : ℕ). every p (zones_from z k)) e
