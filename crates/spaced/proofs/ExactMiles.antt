-- Miles that are exactly an integer of 4096ths, of either sign, are printed as that integer over 4096. Assumes nothing.
use mathlib.Core.Path.{◌≡◌, refl, sym, ap, ◌∙◌, subst}
use mathlib.Core.Bool.{Bool, true, false, cond, true≢false}
use mathlib.Core.List.{◌∷◌}
use Prim.Native.Nat.{ℕ, suc, ◌+◌, ◌-◌, ◌*◌, ◌^◌, ◌<◌}
use native.Mathlib.Nat.{mul-pos}
use native.Mathlib.Omega.{arith}
use lib.Dec.{ltb}
use lib.IntN.{ℤ, pos, negsuc, sub_ℕ}
use lib.Ieee.{Float, nan, inf, fin, up, down, neg, lt, of_int}
use lib.Ieee.Exact.{HasValue}
use lib.Ieee.Fits.{down_pos}
use lib.Ieee.Positive.{first_pos}
use borrow.Author.Tests.{lt-ltb, ltb-true}
use Rattle.leg.specs.Progress.{whole}
use Rattle.field.proofs.TestLaws.{either_way}
use Rattle.exact_gaps.specs.ExactGaps.{ExactlySigned}
use Rattle.miles.specs.Miles.{minus, fraction, in4096ths, miles_text}
use Rattle.spaced.specs.Printed.{signed_text}
use Rattle.miles.proofs.ExactMiles.{whole_parts, miles_exact}

-- what is below 0, and its size
below : (x : Float) (n : ℕ) → HasValue x true (suc n) 4096 → lt x (whole 0) ≡ true
unfolding lt of_int
below nan n p = absurd p
below (inf s) n p = absurd p
below (fin false m e) n p = absurd (true≢false (sym p.0))
below (fin true m e) n p =
    let some : 0 < m * up e = first_pos (m * up e) 4096 (subst (λ (z : ℕ). 0 < z) (sym p.1) (mul-pos (lt_suc n) (down_pos e))) in
    lt-ltb 0 (m * up e * 1 + 0 * down e) (omega arith)
  where
    lt_suc : (k : ℕ) → 0 < suc k
    lt_suc k = omega arith

size_of : (x : Float) (n c : ℕ) → HasValue x true n c → HasValue (neg x) false n c
unfolding neg
size_of nan n c p = p
size_of (inf s) n c p = p
size_of (fin false m e) n c p = absurd (true≢false (sym p.0))
size_of (fin true m e) n c p = (refl, p.1)

-- ---- of either sign
abbrev Short : ℤ → Type 0
Short (pos n) = n < 2 ^ 53
Short (negsuc n) = suc n < 2 ^ 53

text_exact : (x : Float) (z : ℤ) → Short z → ExactlySigned x z → miles_text x ≡ signed_text z
unfolding miles_text
text_exact x (pos n) h p = miles_exact x n p h
text_exact x (negsuc n) h p =
    ap (λ (t : Bool). cond t (minus ∷ fraction (in4096ths (neg x))) (fraction (in4096ths x))) (below x n p)
    ∙ ap (λ (k : ℕ). minus ∷ fraction k) (whole_parts (neg x) (suc n) (size_of x (suc n) 4096 p) h)

-- the difference of two numbers of at most 53 digits
pub difference_text : (x : Float) (a b : ℕ) → a < 2 ^ 53 → b < 2 ^ 53 → ExactlySigned x (sub_ℕ a b) → miles_text x ≡ signed_text (sub_ℕ a b)
difference_text x a b ha hb p =
    text_exact x (sub_ℕ a b) (either_way Short (ltb a b) (negsuc (b - suc a)) (pos (a - b)) (λ e. let l = ltb-true a b e in omega arith) (λ e. omega arith)) p
