-- Miles in decimal as the program `spacing` prints them (02, 2.8): an exact fraction of 4096ths, as `-0.25`, `3`, `1.000244140625`. Definitions only.
use Rattle.std.specs.Prelude.{ℕ, zero, suc, ◌+◌, ◌-◌, ◌*◌, ◌/◌, ◌%◌, ◌^◌, Bool, true, cond, not, ◌&&◌, List, [], ◌∷◌, ◌++◌, ◌==◌, Float}
use Rattle.std.specs.Float.{binary64}
use Rattle.std.specs.Float.Ieee.{mul, neg, lt, to_unsigned}
use Rattle.leg.specs.Progress.{whole}
use Rattle.text.specs.Text.{decimal}

-- the point before the decimals, as a byte
abbrev pub point : ℕ
point = 46

-- the sign of miles below 0, as a byte
abbrev pub minus : ℕ
minus = 45

-- the digits of r / 4096 after the point, up to the last that is not 0 and no more than k; r is below 4096
unfoldable pub decimals : ℕ → ℕ → List ℕ
decimals zero r = []
decimals (suc k) r = cond (r == 0) [] ((48 + r * 10 / 4096) ∷ decimals k (r * 10 % 4096))

-- n / 4096 in decimal: no point where it is a whole number, and at most twelve digits after it, since 4096 is 2 ^ 12
unfoldable pub fraction : ℕ → List ℕ
fraction n = decimal (n / 4096) ++ cond (n % 4096 == 0) [] (point ∷ decimals 12 (n % 4096))

-- 4096 times the miles, cut to a whole number; 0 where that is no number of 64 bits
unfoldable pub in4096ths : Float → ℕ
in4096ths miles =
    let n = mul binary64 miles (whole 4096) in
    cond (lt (neg (whole 1)) n && lt n (whole (2 ^ 64))) (to_unsigned 64 n) 0

-- miles in decimal, with a minus where they are below 0
unfoldable pub miles_text : Float → List ℕ
miles_text miles = cond (lt miles (whole 0)) (minus ∷ fraction (in4096ths (neg miles))) (fraction (in4096ths miles))

-- ---- what `proofs/Digits.antt` says of the digits

-- what digits after the point are worth, in units of the k-th place: no more than k of them, the first at the first place
abbrev pub worth_of : ℕ → List ℕ → ℕ
worth_of k [] = 0
worth_of zero (d ∷ ds) = 0
worth_of (suc k) (d ∷ ds) = (d - 48) * 10 ^ k + worth_of k ds

-- whether the last digit, if any, is not 0
abbrev pub ends_well : List ℕ → Bool
ends_well [] = true
ends_well (d ∷ []) = not (d == 48)
ends_well (d ∷ e ∷ ds) = ends_well (e ∷ ds)
