-- Which floats and which 64 bits are a NaN's. Assumes nothing.
use mathlib.Core.Path.{◌≡◌, refl, sym, subst, ◌∙◌}
use mathlib.Core.Bool.{Bool, true, false, not, ◌&&◌, true≢false}
use Prim.Native.Nat.{ℕ, ◌*◌, ◌%◌, ◌<◌, ◌≤◌}
use lib.Dec.{T, ltb, eqb, eqb_refl}
use lib.Ieee.{Float, nan, inf, fin, eq, is_nan, nan_bits, of_bits, binary64, to_bits, up, down}
use lib.Ieee.Bits.{nan_bits_is, nan_bits_above, is_true}
use lib.Ieee.Fits.{and_i}
use borrow.Author.Tests.{lt-ltb, le-ltb}

-- what equals itself is no NaN
pub no_nan : (x : Float) → eq x x ≡ true → T (not (is_nan x))
unfolding eq is_nan
no_nan nan h = absurd (true≢false (sym h))
no_nan (inf s) h = tt
no_nan (fin s m e) h = tt

-- what is a NaN is the one NaN
pub is_nan_lem : (x : Float) → is_nan x ≡ true → x ≡ nan
unfolding is_nan
is_nan_lem nan h = refl
is_nan_lem (inf s) h = absurd (true≢false (sym h))
is_nan_lem (fin s m e) h = absurd (true≢false (sym h))

-- a number without its sign above the infinity's is a NaN's
above : (n : ℕ) → nan_bits binary64 n ≡ ltb 9218868437227405312 (n % 9223372036854775808)
above n = nan_bits_above binary64 n

pub nan_above : (n : ℕ) → 9218868437227405312 < n % 9223372036854775808 → of_bits binary64 n ≡ nan
nan_above n h = is_nan_lem (of_bits binary64 n) (sym (nan_bits_is binary64 n) ∙ above n ∙ lt-ltb _ _ h)

pub no_nan_below : (n : ℕ) → n % 9223372036854775808 ≤ 9218868437227405312 → T (not (nan_bits binary64 n))
no_nan_below n h = subst (λ (b : Bool). T (not b)) (sym (above n ∙ le-ltb _ _ h)) tt

-- what does not equal itself is the NaN
pub nan_unequal : (x : Float) → eq x x ≡ false → x ≡ nan
unfolding eq
nan_unequal nan h = refl
nan_unequal (inf true) h = absurd (true≢false h)
nan_unequal (inf false) h = absurd (true≢false h)
nan_unequal (fin true m e) h = let a = m * up e * down e in absurd (true≢false (sym (is_true (eqb a a && true) (and_i (eqb a a) true (eqb_refl a) tt)) ∙ h))
nan_unequal (fin false m e) h = let a = m * up e * down e in absurd (true≢false (sym (is_true (eqb a a && true) (and_i (eqb a a) true (eqb_refl a) tt)) ∙ h))

-- the bits that are written for the NaN
pub nan_pattern : to_bits binary64 nan ≡ 9221120237041090560
unfolding to_bits
nan_pattern = refl

-- .. and read as it
pub nan_read : of_bits binary64 9221120237041090560 ≡ nan
unfolding of_bits
nan_read = refl
