-- How long miles in decimal are. Assumes nothing.
use Rattle.std.proofs.Common.{ℕ, zero, suc, ◌+◌, ◌*◌, ◌/◌, ◌%◌, ◌^◌, ◌<◌, ◌≤◌, cond, ◌&&◌, eqb, List, [], ◌∷◌, length, arith, length-append}
use lib.Ieee.{Float, binary64, mul, neg, lt}
use lib.Ieee.Casts.{to_unsigned-lt}
use Rattle.leg.specs.Progress.{whole}
use Rattle.field.proofs.TestLaws.{either_way}
use Rattle.text.specs.Text.{decimal}
use Rattle.text.proofs.Texts.{decimal_short}
use Rattle.miles.specs.Miles.{point, minus, decimals, fraction, in4096ths, miles_text}

-- no more digits than are asked for
digits_few : (k r : ℕ) → length (decimals k r) ≤ k
unfolding decimals
digits_few zero r = omega arith
digits_few (suc k) r =
    either_way (λ (l : List ℕ). length l ≤ suc k) (eqb r 0) [] ((48 + r * 10 / 4096) ∷ decimals k (r * 10 % 4096)) (λ e. omega arith) (λ e. let h = digits_few k (r * 10 % 4096) in omega arith)

in_64_bits : (x : Float) → in4096ths x < 2 ^ 64
unfolding in4096ths
in_64_bits x =
    let n = mul binary64 x (whole 4096) in
    either_way (λ (k : ℕ). k < 2 ^ 64) (lt (neg (whole 1)) n && lt n (whole (2 ^ 64))) _ 0 (λ e. to_unsigned-lt 64 n) (λ e. omega arith)

fraction_short : (n : ℕ) → n < 2 ^ 64 → length (fraction n) ≤ 29
unfolding fraction
fraction_short n h =
    let tail = cond (eqb (n % 4096) 0) [] (point ∷ decimals 12 (n % 4096)) in
    let behind : length tail ≤ 13 =
    either_way (λ (l : List ℕ). length l ≤ 13) (eqb (n % 4096) 0) [] (point ∷ decimals 12 (n % 4096)) (λ e. omega arith) (λ e. let d = digits_few 12 (n % 4096) in omega arith) in
    let front = decimal_short 15 (n / 4096) (omega arith) in
    let both = length-append (decimal (n / 4096)) tail in
    omega arith

pub miles_short : (x : Float) → length (miles_text x) ≤ 30
unfolding miles_text
miles_short x =
    either_way (λ (l : List ℕ). length l ≤ 30) (lt x (whole 0)) (minus ∷ fraction (in4096ths (neg x))) (fraction (in4096ths x))
    (λ e. let h = fraction_short (in4096ths (neg x)) (in_64_bits (neg x)) in omega arith) (λ e. let h = fraction_short (in4096ths x) (in_64_bits x) in omega arith)
