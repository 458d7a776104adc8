-- Miles that are exactly a whole number of 4096ths are printed as that number over 4096. Assumes nothing.
use Rattle.std.proofs.Common.{◌≡◌, ℕ, ◌+◌, ◌*◌, ◌^◌, ◌<◌, Bool, true, false, cond, ◌&&◌, ◌∷◌, refl, ap, ◌∙◌, true≢false, mul_assoc, mul_comm, mul-pos, mul_left_comm, arith, lit<, le→leb, le-ltb, lt-ltb}
use lib.Ieee.{Float, nan, inf, fin, Format, binary64, up, down, round, mul, neg, lt, of_int, to_unsigned, in_float}
use lib.Ieee.Back.{unsigned_back}
use lib.Ieee.Exact.{HasValue}
use lib.Ieee.Fits.{down_pos}
use lib.Ieee.Scale.{round_same}
use Rattle.leg.specs.Progress.{whole}
use Rattle.leg.proofs.Floats.{lt_of_values}
use Rattle.leg.proofs.Grid.{whole_value}
use Rattle.miles.specs.Miles.{minus, fraction, in4096ths, miles_text}

-- ---- a product, by the fractions that the factors equal
cross_mul : (x p y q a c b d : ℕ) → x * c ≡ a * p → y * d ≡ b * q → x * y * (c * d) ≡ a * b * (p * q)
cross_mul x p y q a c b d h k =
    let l : x * y * (c * d) ≡ x * c * (y * d) = simp (mul_assoc, mul_comm, mul_left_comm) in
    let r : a * p * (b * q) ≡ a * b * (p * q) = simp (mul_assoc, mul_comm, mul_left_comm) in
    l ∙ (λ i. h i * k i) ∙ r

mul_values : (f : Format) (x y : Float) (a c b d : ℕ) → 0 < c → 0 < d → HasValue x false a c → HasValue y false b d → mul f x y ≡ round f false (a * b) (c * d)
unfolding mul
mul_values f nan y a c b d C D p q = absurd p
mul_values f (inf s) y a c b d C D p q = absurd p
mul_values f (fin true m e) y a c b d C D p q = absurd (true≢false p.0)
mul_values f (fin false m e) nan a c b d C D p q = absurd q
mul_values f (fin false m e) (inf t) a c b d C D p q = absurd q
mul_values f (fin false m e) (fin true n k) a c b d C D p q = absurd (true≢false q.0)
mul_values f (fin false m e) (fin false n k) a c b d C D p q =
    round_same f false (m * up e * (n * up k)) (down e * down k) (a * b) (c * d) (mul-pos (down_pos e) (down_pos k))
    (mul-pos C D) (cross_mul (m * up e) (down e) (n * up k) (down k) a c b d p.1 q.1)

-- ---- -1 is under what is not below 0, and that is not under 0
above_minus_one : (y : Float) (b d : ℕ) → HasValue y false b d → lt (neg (whole 1)) y ≡ true
unfolding lt neg of_int
above_minus_one nan b d q = absurd q
above_minus_one (inf s) b d q = absurd q
above_minus_one (fin true n k) b d q = absurd (true≢false q.0)
above_minus_one (fin false n k) b d q = lt-ltb 0 (1 * down k + n * up k * 1) (let h = down_pos k in omega arith)

pub not_below : (x : Float) (a c : ℕ) → HasValue x false a c → lt x (whole 0) ≡ false
unfolding lt of_int
not_below nan a c p = absurd p
not_below (inf s) a c p = absurd p
not_below (fin true m e) a c p = absurd (true≢false p.0)
not_below (fin false m e) a c p = le-ltb (m * up e * 1) (0 * down e) (let h : 0 * down e ≡ 0 = omega arith in omega arith)

-- ---- 4096 times n / 4096 is n
pub whole_parts : (x : Float) (n : ℕ) → HasValue x false n 4096 → n < 2 ^ 53 → in4096ths x ≡ n
unfolding in4096ths of_int in_float
whole_parts x n p h =
    let times : mul binary64 x (whole 4096) ≡ whole n =
    mul_values binary64 x (whole 4096) n 4096 4096 1 (lit< tt) (lit< tt) p (refl, refl) ∙ round_same binary64 false (n * 4096) 4096 n 1 (lit< tt) (lit< tt) (omega arith) in
    let value : HasValue (whole n) false n 1 = whole_value n (omega arith) in
    let low = above_minus_one (whole n) n 1 value in
    let high : lt (whole n) (whole (2 ^ 64)) ≡ true = lt_of_values (whole n) (whole (2 ^ 64)) n 1 (2 ^ 64) 1 (lit< tt) (lit< tt) value (refl, refl) (omega arith) in
    ap (λ (y : Float). cond (lt (neg (whole 1)) y && lt y (whole (2 ^ 64))) (to_unsigned 64 y) 0) times
    ∙ (λ i. cond (low i && high i) (to_unsigned 64 (whole n)) 0)
    ∙ (unsigned_back binary64 64 n (le→leb n (2 ^ 53) (omega arith)) (omega arith)).1

pub miles_exact : (x : Float) (n : ℕ) → HasValue x false n 4096 → n < 2 ^ 53 → miles_text x ≡ fraction n
unfolding miles_text
miles_exact x n p h =
    ap (λ (t : Bool). cond t (minus ∷ fraction (in4096ths (neg x))) (fraction (in4096ths x))) (not_below x n 4096 p) ∙ ap fraction (whole_parts x n p h)
