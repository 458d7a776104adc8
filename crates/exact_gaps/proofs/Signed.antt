-- Differences of either sign on the grid of the 4096ths: nothing is rounded, and a comparison with a spacing is one of whole numbers. Assumes nothing.
use mathlib.Core.Path.{◌≡◌, sym, ap, ◌∙◌, subst}
use mathlib.Core.Bool.{Bool, true, false, cond, true≢false}
use Prim.Native.Nat.{ℕ, suc, ◌+◌, ◌-◌, ◌*◌, ◌^◌, ◌≤◌, ◌<◌}
use native.Mathlib.Nat.{mul_assoc, mul_comm, mul_left_comm, mul-sub, mul-pos, eq_of_mul-eq-mul_right, lt_of_not-le, lt_of_lt_of_le, mul-le-mul_right, mul-lt-mul_of_pos_right, not-le_of_lt}
use native.Mathlib.Decide.{dec_le}
use native.Mathlib.Omega.{arith}
use lib.Dec.{T, ltb, eqb, eqb→eq, ltb→lt, lit<, lit≤}
use lib.Pow.{pow-add, pow_mono, shl_lt}
use lib.IntN.{pos, negsuc, sub_ℕ}
use lib.Ieee.{Float, nan, inf, fin, binary64, up, down, round, sub, lt, eq}
use lib.Ieee.Fits.{and_l, up_pos, down_pos}
use lib.Ieee.Exact.{HasValue, round_exact}
use lib.Ieee.Order.{transfer, le_of_values}
use lib.Ieee.Scale.{round_same}
use lib.Ieee.Positive.{positive_of_value}
use borrow.Author.Tests.{lt-ltb, le-ltb}
use Rattle.leg.specs.Progress.{sixty_fourths}
use Rattle.leg.specs.Ticks.{Exactly}
use Rattle.leg.proofs.Floats.{lt_of_values, lt_false}
use Rattle.leg.proofs.Grid.{sixty_fourths_exact}
use Rattle.leg.proofs.Missed.{left_grid}
use Rattle.exact_gaps.specs.ExactGaps.{ExactlySigned}

-- -n / 4096 is an `f64`, for an n of at most 53 digits
below_zero : (n : ℕ) → n < 2 ^ 53 → HasValue (round binary64 true n 4096) true n 4096
below_zero n h =
    let room : 53 + 1062 ≤ 2098 = lit≤ tt in
    round_exact binary64 true n 4096 n 1062 (lit< tt) h (lt_of_lt_of_le (shl_lt 53 1062 h) (pow_mono room))
    (sym (mul_assoc n (2 ^ 1062) 4096 ∙ ap (λ (z : ℕ). n * z) (sym (pow-add 2 1062 12))))

-- y / q - x / p = b / c - a / c
cross : (c x p y q a b : ℕ) → x * c ≡ a * p → y * c ≡ b * q → (y * p - x * q) * c ≡ (b - a) * (p * q)
cross c x p y q a b h k =
    let l : c * (y * p) ≡ p * q * b = simp (mul_assoc, mul_comm, mul_left_comm) (simp (mul_assoc, mul_comm, mul_left_comm) at (ap (λ (z : ℕ). z * p) k)) in
    let r : c * (x * q) ≡ p * q * a = simp (mul_assoc, mul_comm, mul_left_comm) (simp (mul_assoc, mul_comm, mul_left_comm) at (ap (λ (z : ℕ). z * q) h)) in
    mul_comm (y * p - x * q) c ∙ mul-sub c (y * p) (x * q) ∙ less l r ∙ sym (mul_comm (b - a) (p * q) ∙ mul-sub (p * q) b a)
  where
    less : {A B C D : ℕ} → A ≡ C → B ≡ D → A - B ≡ C - D
    less e g = λ i. e i - g i

-- the difference with a larger number
less_larger : (x y : Float) (a b : ℕ) → Exactly x a → Exactly y b → a < b → sub binary64 x y ≡ round binary64 true (b - a) 4096
unfolding sub
less_larger nan y a b p q h = absurd p
less_larger (inf s) y a b p q h = absurd p
less_larger (fin true m e) y a b p q h = absurd (true≢false p.0)
less_larger (fin false m e) nan a b p q h = absurd q
less_larger (fin false m e) (inf t) a b p q h = absurd q
less_larger (fin false m e) (fin true n k) a b p q h = absurd (true≢false q.0)
less_larger (fin false m e) (fin false n k) a b p q h =
    let A = m * up e * down k in
    let B = n * up k * down e in
    let under : A < B =
    lt_of_not-le (λ (g : B ≤ A). not-le_of_lt (mul-lt-mul_of_pos_right h (lit< tt))
    (transfer b a 4096 4096 (n * up k) (m * up e) (down k) (down e) (down_pos k) (down_pos e) (sym q.1) (sym p.1) g)) in
    ap (λ (t : Bool). cond t (round binary64 true (B - A) (down e * down k)) (round binary64 false (A - B) (down e * down k))) (lt-ltb A B under)
    ∙ round_same binary64 true (B - A) (down e * down k) (b - a) 4096 (mul-pos (down_pos e) (down_pos k)) (lit< tt) (cross 4096 (m * up e) (down e) (n * up k) (down k) a b p.1 q.1)

-- a difference on the grid
pub signed_grid : (x y : Float) (a b : ℕ) → Exactly x a → Exactly y b → a < 2 ^ 53 → b < 2 ^ 53 → ExactlySigned (sub binary64 x y) (sub_ℕ a b)
signed_grid x y a b p q ha hb = go (dec_le b a)
  where
    go : Dec (b ≤ a) → ExactlySigned (sub binary64 x y) (sub_ℕ a b)
    go (yes h) =
        subst (ExactlySigned (sub binary64 x y)) (sym (ap (λ (t : Bool). cond t (negsuc (b - suc a)) (pos (a - b))) (le-ltb a b h))) (left_grid y x a b p q h ha)
    go (no g) =
        let h : a < b = lt_of_not-le g in
        let more : b - a ≡ suc (b - suc a) = omega arith in
        subst (ExactlySigned (sub binary64 x y)) (sym (ap (λ (t : Bool). cond t (negsuc (b - suc a)) (pos (a - b))) (lt-ltb a b h)))
        (subst (λ (z : Float). HasValue z true (suc (b - suc a)) 4096) (sym (less_larger x y a b p q h))
        (subst (λ (n : ℕ). HasValue (round binary64 true (b - a) 4096) true n 4096) more (below_zero (b - a) (omega arith))))

-- a number below 0 is under one above 0
minus_under : (x y : Float) (a b c d : ℕ) → HasValue x true a c → HasValue y false b d → 0 < b → lt x y ≡ true
unfolding lt
minus_under nan y a b c d p q h = absurd p
minus_under (inf s) y a b c d p q h = absurd p
minus_under (fin false m e) y a b c d p q h = absurd (true≢false (sym p.0))
minus_under (fin true m e) nan a b c d p q h = absurd q
minus_under (fin true m e) (inf t) a b c d p q h = absurd q
minus_under (fin true m e) (fin true n k) a b c d p q h = absurd (true≢false q.0)
minus_under (fin true m e) (fin false n k) a b c d p q h =
    let some : 0 < n * up k * down e = mul-pos (mul-pos (ltb→lt 0 n (positive_of_value (fin false n k) b d q h)) (up_pos k)) (down_pos e) in
    lt-ltb 0 (m * up e * down k + n * up k * down e) (omega arith)

-- so a gap is under a spacing exactly where the whole numbers say so
pub under_spacing : (gap : Float) (a b spacing : ℕ) → 1 ≤ spacing → spacing ≤ 512 → ExactlySigned gap (sub_ℕ a b) → lt gap (sixty_fourths spacing) ≡ ltb a (b + 64 * spacing)
under_spacing gap a b spacing low high g = go (dec_le b a) (dec_le (b + 64 * spacing) a)
  where
    limit : Exactly (sixty_fourths spacing) (64 * spacing)
    limit = sixty_fourths_exact spacing (omega arith)

    some : 0 < 64 * spacing
    some = omega arith

    above : b ≤ a → Exactly gap (a - b)
    above h = subst (ExactlySigned gap) (ap (λ (t : Bool). cond t (negsuc (b - suc a)) (pos (a - b))) (le-ltb a b h)) g

    go : Dec (b ≤ a) → Dec (b + 64 * spacing ≤ a) → lt gap (sixty_fourths spacing) ≡ ltb a (b + 64 * spacing)
    go (yes h) (yes k) =
        let far : 64 * spacing * 4096 ≤ (a - b) * 4096 = mul-le-mul_right 4096 (omega arith) in
        lt_false gap (sixty_fourths spacing) (positive_of_value (sixty_fourths spacing) (64 * spacing) 4096 limit some)
        (le_of_values (sixty_fourths spacing) gap (64 * spacing) 4096 (a - b) 4096 (lit< tt) (lit< tt) limit (above h) far)
        ∙ sym (le-ltb a (b + 64 * spacing) k)
    go (yes h) (no k) =
        let near : a < b + 64 * spacing = lt_of_not-le k in
        let less : (a - b) * 4096 < 64 * spacing * 4096 = mul-lt-mul_of_pos_right (omega arith) (lit< tt) in
        lt_of_values gap (sixty_fourths spacing) (a - b) 4096 (64 * spacing) 4096 (lit< tt) (lit< tt) (above h) limit less ∙ sym (lt-ltb a (b + 64 * spacing) near)
    go (no h) k =
        let under : a < b = lt_of_not-le h in
        minus_under gap (sixty_fourths spacing) (suc (b - suc a)) (64 * spacing) 4096 4096
        (subst (ExactlySigned gap) (ap (λ (t : Bool). cond t (negsuc (b - suc a)) (pos (a - b))) (lt-ltb a b under)) g) limit some
        ∙ sym (lt-ltb a (b + 64 * spacing) (omega arith))

-- two equal numbers on the grid
equal_parts : (c x p y q a b : ℕ) → x * c ≡ a * p → y * c ≡ b * q → x * q ≡ y * p → a * (p * q) ≡ b * (p * q)
equal_parts c x p y q a b h k e =
    let l : a * (p * q) ≡ c * (x * q) = simp (mul_assoc, mul_comm, mul_left_comm) (simp (mul_assoc, mul_comm, mul_left_comm) at (ap (λ (z : ℕ). z * q) (sym h))) in
    let r : c * (y * p) ≡ b * (p * q) = simp (mul_assoc, mul_comm, mul_left_comm) (simp (mul_assoc, mul_comm, mul_left_comm) at (ap (λ (z : ℕ). z * p) k)) in
    l ∙ ap (λ (z : ℕ). c * z) e ∙ r

pub same_parts : (x y : Float) (a b : ℕ) → Exactly x a → Exactly y b → T (eq x y) → a ≡ b
unfolding eq
same_parts nan y a b p q h = absurd p
same_parts (inf s) y a b p q h = absurd p
same_parts (fin true m e) y a b p q h = absurd (true≢false p.0)
same_parts (fin false m e) nan a b p q h = absurd q
same_parts (fin false m e) (inf t) a b p q h = absurd q
same_parts (fin false m e) (fin true n k) a b p q h = absurd (true≢false q.0)
same_parts (fin false m e) (fin false n k) a b p q h =
    eq_of_mul-eq-mul_right (down e * down k) (mul-pos (down_pos e) (down_pos k)) a b
    (equal_parts 4096 (m * up e) (down e) (n * up k) (down k) a b p.1 q.1
    (eqb→eq (m * up e * down k) (n * up k * down e) (and_l (eqb (m * up e * down k) (n * up k * down e)) true h)))
