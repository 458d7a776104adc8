-- Laws of the tests that the input rules are made of, and of the first that fails. Assumes nothing.
use mathlib.Core.Path.{◌≡◌, refl, ap, ◌∙◌}
use mathlib.Core.List.{List, [], ◌∷◌}
use mathlib.Core.Bool.{Bool, true, false, cond, not, ◌&&◌, false≢true}
use Prim.Native.Nat.{ℕ, ◌≤◌, ◌<◌}
use native.Mathlib.Nat.{ne_of_gt, pos_of_ne-zero}
use lib.Dec.{T, leb, eqb, leb→le}
use borrow.Author.Tests.{le-leb, lt-leb, leb-true, ne_eqb, eqb-false, not-true}
use Rattle.request.specs.Input.{within, first_refused}

-- ---- `&&`
pub both_left : (s t : Bool) → (s && t) ≡ true → s ≡ true
both_left true t e = refl
both_left false t e = e

pub both_right : (s t : Bool) → (s && t) ≡ true → t ≡ true
both_right true t e = e
both_right false t e = absurd (false≢true e)

pub left_fails : (s t : Bool) → s ≡ false → (s && t) ≡ false
left_fails s t e = ap (λ (b : Bool). b && t) e

pub right_fails : (s t : Bool) → t ≡ false → (s && t) ≡ false
right_fails true t e = e
right_fails false t e = refl

-- ---- `within`
pub within_yes : (low high n : ℕ) → low ≤ n → n ≤ high → within low high n ≡ true
within_yes low high n l h = ap (λ (b : Bool). b && leb n high) (le-leb low n l) ∙ le-leb n high h

pub within_below : (low high n : ℕ) → n < low → within low high n ≡ false
within_below low high n h = left_fails (leb low n) (leb n high) (lt-leb low n h)

pub within_above : (low high n : ℕ) → high < n → within low high n ≡ false
within_above low high n h = right_fails (leb low n) (leb n high) (lt-leb n high h)

pub within_low : (low high n : ℕ) → within low high n ≡ true → low ≤ n
within_low low high n e = leb-true low n (both_left (leb low n) (leb n high) e)

pub within_high : (low high n : ℕ) → within low high n ≡ true → n ≤ high
within_high low high n e = leb-true n high (both_right (leb low n) (leb n high) e)

-- ---- a number that is not 0
pub nonzero_yes : (n : ℕ) → 1 ≤ n → not (eqb n 0) ≡ true
nonzero_yes n h = ap not (ne_eqb n 0 (ne_of_gt h))

pub nonzero_known : (n : ℕ) → not (eqb n 0) ≡ true → 1 ≤ n
nonzero_known n e = pos_of_ne-zero (eqb-false n 0 (not-true (eqb n 0) e))

-- ---- `first_refused`
-- each test is beside a number that refuses
abbrev pub Numbered : List (ℕ × Bool) → Type 0
Numbered [] = Unit
Numbered ((n, t) ∷ rest) = T (leb 1 n) × Numbered rest

-- no test fails
abbrev pub Passed : List (ℕ × Bool) → Type 0
Passed [] = Unit
Passed ((n, t) ∷ rest) = (t ≡ true) × Passed rest

pub passed : (tests : List (ℕ × Bool)) → Numbered tests → first_refused tests ≡ 0 → Passed tests
passed [] k e = tt
passed ((n, true) ∷ rest) k e = (refl, passed rest k.1 e)
passed ((n, false) ∷ rest) k e = absurd (ne_of_gt (leb→le 1 n k.0) e)

pub none_refused : (tests : List (ℕ × Bool)) → Passed tests → first_refused tests ≡ 0
none_refused [] p = refl
none_refused ((n, t) ∷ rest) p = ap (λ (b : Bool). cond b (first_refused rest) n) p.0 ∙ none_refused rest p.1
