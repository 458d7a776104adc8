-- The numbers that floats stand for, as fractions of whole numbers, and what it means that an operation on floats is exact: what it yields stands for the
-- sum, the difference, the product or the quotient of the numbers that went in, so that there is nothing to round. Tests that compute. Definitions only.
use Rattle.std.specs.Prelude.{Bool, cond, not, ◌&&◌, ℕ, ◌+◌, ◌*◌, eqb, ltb, Float}
use Rattle.std.specs.Float.{nan, inf, fin, binary64}
use Rattle.std.specs.Float.Ieee.{up, down, add, sub, mul, div}
use Rattle.leg.specs.Progress.{whole}

-- ---- fractions

-- the number (plus - minus) / under; with 0 under, no number
pub record Fraction : Type 0 where
  pub plus : ℕ
  pub minus : ℕ
  pub under : ℕ

-- n / d, not below zero
abbrev pub over : ℕ → ℕ → Fraction
over n d = record { plus = n; minus = 0; under = d }

-- whether it is a number
abbrev pub is_number : Fraction → Bool
is_number a = not (eqb a.under 0)

-- whether two are the same number, compared crosswise
abbrev pub same : Fraction → Fraction → Bool
same a b =
    is_number a && is_number b
    && eqb (a.plus * b.under + b.minus * a.under) (b.plus * a.under + a.minus * b.under)

-- whether the first is the smaller number
abbrev pub less : Fraction → Fraction → Bool
less a b = ltb (a.plus * b.under + b.minus * a.under) (b.plus * a.under + a.minus * b.under)

-- the smaller of two
abbrev pub smaller_of : Fraction → Fraction → Fraction
smaller_of a b = cond (less a b) a b

-- their sum
abbrev pub sum_of : Fraction → Fraction → Fraction
sum_of a b =
    record {
      plus = a.plus * b.under + b.plus * a.under;
      minus = a.minus * b.under + b.minus * a.under;
      under = a.under * b.under;
    }

-- the first less the second
abbrev pub difference_of : Fraction → Fraction → Fraction
difference_of a b =
    record {
      plus = a.plus * b.under + b.minus * a.under;
      minus = a.minus * b.under + b.plus * a.under;
      under = a.under * b.under;
    }

-- their product
abbrev pub product_of : Fraction → Fraction → Fraction
product_of a b =
    record {
      plus = a.plus * b.plus + a.minus * b.minus;
      minus = a.plus * b.minus + a.minus * b.plus;
      under = a.under * b.under;
    }

-- ---- floats

-- the number that a float stands for, m * 2 ^ e with its sign; a NaN and an infinity stand for none
abbrev pub number_of : Float → Fraction
number_of nan = over 0 0
number_of (inf s) = over 0 0
number_of (fin s m e) = record { plus = cond s 0 (m * up e); minus = cond s (m * up e) 0; under = down e }

-- whether a float stands for this number
abbrev pub stands_for : Float → Fraction → Bool
stands_for x a = same (number_of x) a

-- ---- operations

-- whether the sum that is computed of two floats stands for the sum of their numbers, ..
abbrev pub exact_sum : Float → Float → Bool
exact_sum x y = stands_for (add binary64 x y) (sum_of (number_of x) (number_of y))

-- .. the difference for their difference, ..
abbrev pub exact_difference : Float → Float → Bool
exact_difference x y = stands_for (sub binary64 x y) (difference_of (number_of x) (number_of y))

-- .. and the product for their product
abbrev pub exact_product : Float → Float → Bool
exact_product x y = stands_for (mul binary64 x y) (product_of (number_of x) (number_of y))

-- whether a whole number n is itself as a float, and its 64th stands for n / 64
abbrev pub exact64ths : ℕ → Bool
exact64ths n = stands_for (whole n) (over n 1) && stands_for (div binary64 (whole n) (whole 64)) (over n 64)
