-- One tick on any leg, on the grid or off it: on one that is finite and above zero the miles stay between 0 and the leg (`bounds_kept`) and are a number
-- (`miles_worth`), and on one of fewer than 2 ^ 41 miles its end is not left again (`end_kept`). The last holds of a leg that is no `f64`'s value too: of
-- the grid's points one lies from the leg to a step past it, and rounding keeps the order.
-- Assumes nothing.
use mathlib.Core.Path.{◌≡◌, refl, sym, ap, ◌∙◌, subst}
use Prim.Native.Nat.{ℕ, ◌+◌, ◌*◌, ◌/◌, ◌^◌, ◌≤◌, ◌<◌, zero-le}
use native.Mathlib.Nat.{le_trans, le_of_eq, lt_irrefl, zero-mul, mul-one, mul_comm, mul_assoc, mul-pos, mul-le-mul_right, add-mul, one-mul, div-add-mod', div-le_of_le-mul, mod-lt}
use native.Mathlib.Omega.{arith}
use mathlib.Core.Bool.{Bool, true, false}
use lib.Dec.{T, eqb, eqb→eq, ltb→lt, lit<, lit≤}
use lib.Ieee.{Float, nan, inf, fin, binary64, up, down, round, of_int, lt, le, eq}
use lib.Ieee.Exact.{HasValue}
use lib.Ieee.Fits.{and_i, and_l, and_r, up_pos, down_pos}
use lib.Ieee.Order.{round_mono, le_of_values}
use lib.Ieee.Positive.{num, den, den_pos, own_value, positive, positive_of_value, values_of_le, between}
use Rattle.limits.specs.Limits.{longest_tick, fastest}
use Rattle.leg.specs.Progress.{whole, sixty_fourths, up_to, advanced, within_leg, leg_up_to}
use Rattle.leg.specs.declared.Progress.TheVariants.{Flying}
use Rattle.leg.specs.Ticks.{Between}
use Rattle.leg.proofs.Floats.{Worth, value→worth, worth_of_le, lt_false, lt→le, le_self, le_up, zero_first}
use Rattle.leg.proofs.Grid.{whole_value, sixty_fourths_value, parts, parts_value, up_to_yes, up_to_no, step_pos, advanced_is}

-- ---- a leg from 1/64 of a mile to a bound is finite and above zero
module _ (most : ℕ) (few : most < 2 ^ 41) (leg : Float) (l : T (leg_up_to most leg)) where
  pub at_least : T (le (sixty_fourths 1) leg)
  at_least = and_l (le (sixty_fourths 1) leg) (le leg (whole most)) l

  pub at_most : T (le leg (whole most))
  at_most = and_r (le (sixty_fourths 1) leg) (le leg (whole most)) l

  pub least_value : HasValue (sixty_fourths 1) false 1 64
  least_value = sixty_fourths_value 1 (lit< tt)

  most_value : HasValue (whole most) false most 1
  most_value = whole_value most (omega arith)

  least_positive : T (positive (sixty_fourths 1))
  least_positive = positive_of_value (sixty_fourths 1) 1 64 least_value (lit< tt)

  pub most_above : 0 < most
  most_above =
      let h : 1 * 1 ≤ most * 64 = worth_of_le (sixty_fourths 1) (whole most) 1 64 most 1 least_value (value→worth (whole most) most 1 most_value)
      (le_up (sixty_fourths 1) leg (whole most) least_positive at_least at_most) in
      omega arith

  most_positive : T (positive (whole most))
  most_positive = positive_of_value (whole most) most 1 most_value most_above

  pub leg_positive : T (positive leg)
  leg_positive = between (sixty_fourths 1) leg (whole most) least_positive most_positive at_least at_most

  -- what the leg is as a fraction, at most the bound
  pub leg_small : num leg * 1 ≤ most * den leg
  leg_small = values_of_le leg (whole most) (num leg) (den leg) most 1 leg_positive most_positive (own_value leg leg_positive) most_value at_most

pub zero_under : (leg : Float) → T (positive leg) → T (le (whole 0) leg)
zero_under leg p = le_of_values (whole 0) leg 0 1 (num leg) (den leg) (lit< tt) (den_pos leg) (whole_value 0 (lit≤ tt)) (own_value leg p) (le_trans (le_of_eq (zero-mul (den leg))) zero-le)

-- ---- miles from 0 to the leg are a number, where a zero may have either sign
pub miles_worth : (miles leg : Float) → T (positive leg) → T (le (whole 0) miles) → T (le miles leg) → Worth miles (num miles) (den miles)
unfolding le of_int
miles_worth nan leg p h k = absurd h
miles_worth (inf true) leg p h k = absurd h
miles_worth (inf false) nan p h k = absurd k
miles_worth (inf false) (inf t) p h k = absurd p
miles_worth (inf false) (fin t n d) p h k = absurd k
miles_worth (fin false m e) leg p h k = refl
miles_worth (fin true m e) leg p h k =
    let z = 0 * down e in
    let m0 : m ≡ 0 = zero_first m (up e) (up_pos e) (sym (mul-one (m * up e)) ∙ sym (eqb→eq z (m * up e * 1) (and_l (eqb z (m * up e * 1)) (eqb z 0) h)) ∙ zero-mul (down e)) in
    (m0, ap (λ (x : ℕ). x * up e) m0 ∙ zero-mul (up e))

-- ---- the miles stay within the leg
pub clamped : (b : Bool) (leg x : Float) → lt x leg ≡ b → T (positive leg) → T (le (whole 0) x) → T (le (whole 0) (up_to leg x)) × T (le (up_to leg x) leg)
clamped true leg x e p h = rw (up_to_yes leg x e) (h, lt→le x leg e)
clamped false leg x e p h = rw (up_to_no leg x e) (zero_under leg p, le_self leg p)

pub zero_least : (a c : ℕ) → 0 < c → T (le (whole 0) (round binary64 false a c))
unfolding of_int
zero_least a c C = round_mono binary64 0 1 a c (lit< tt) C (le_trans (le_of_eq (zero-mul c)) zero-le)

bounds_kept : (miles leg : Float) {speed amount : ℕ} → T (positive leg) → Between 1 fastest speed → Between 1 longest_tick amount → T (le (whole 0) miles) → T (le miles leg)
    → T (le (whole 0) (advanced miles speed amount leg)) × T (le (advanced miles speed amount leg) leg)
bounds_kept miles leg {speed} {amount} p s a h k =
    let b = num miles * 4096 + speed * amount * den miles in
    let c = den miles * 4096 in
    let x = round binary64 false b c in
    subst (λ (z : Float). T (le (whole 0) z) × T (le z leg)) (sym (advanced_is s a miles leg (num miles) (den miles) (den_pos miles) (miles_worth miles leg p h k)))
    (clamped (lt x leg) leg x refl p (zero_least b c (mul-pos (den_pos miles) (lit< tt))))

pub flying_within : (miles leg : Float) {speed amount : ℕ} → T (positive leg) → Between 1 fastest speed → Between 1 longest_tick amount
    → T (within_leg (Flying miles) leg) → T (within_leg (Flying (advanced miles speed amount leg)) leg)
flying_within miles leg {speed} {amount} p s a w =
    let kept = bounds_kept miles leg p s a (and_l (le (whole 0) miles) (le miles leg) w) (and_r (le (whole 0) miles) (le miles leg) w) in
    and_i (le (whole 0) (advanced miles speed amount leg)) (le (advanced miles speed amount leg) leg) kept.0 kept.1

-- ---- the end of the leg is not left
pub eq_value : (miles leg : Float) → T (positive leg) → T (eq miles leg) → HasValue miles false (num leg) (den leg)
unfolding eq
eq_value nan leg p h = absurd h
eq_value (inf s) nan p h = absurd h
eq_value (inf s) (inf t) p h = absurd p
eq_value (inf s) (fin t n d) p h = absurd h
eq_value (fin s m e) nan p h = absurd h
eq_value (fin s m e) (inf t) p h = absurd h
eq_value (fin s m e) (fin true n d) p h = absurd p
eq_value (fin false m e) (fin false n d) p h = (refl, eqb→eq (m * up e * down d) (n * up d * down e) (and_l (eqb (m * up e * down d) (n * up d * down e)) true h))
eq_value (fin true m e) (fin false n d) p h =
    let a = m * up e * down d in
    let b = n * up d * down e in
    absurd (lt_irrefl 0 (subst (λ (z : ℕ). 0 < z) (sym (eqb→eq a b (and_l (eqb a b) (eqb a 0) h)) ∙ eqb→eq a 0 (and_r (eqb a b) (eqb a 0) h))
    (mul-pos (mul-pos (ltb→lt 0 n p) (up_pos d)) (down_pos e))))

-- the first point of the grid past b / c
abbrev past : ℕ → ℕ → ℕ
past b c = b * 4096 / c + 1

past_times : (b c : ℕ) → past b c * c ≡ b * 4096 / c * c + c
past_times b c = add-mul (b * 4096 / c) 1 c ∙ ap (λ (z : ℕ). b * 4096 / c * c + z) (one-mul c)

past_low : (b c : ℕ) → 0 < c → b * 4096 ≤ past b c * c
past_low b c C = omega (arith, past_times b c, div-add-mod' (b * 4096) c, mod-lt (b * 4096) C)

past_high : (b c n : ℕ) → 0 < n → past b c * (c * 4096) ≤ (b * 4096 + n * c) * 4096
past_high b c n N =
    let one : 1 * c ≤ n * c = mul-le-mul_right c N in
    let k : past b c * c ≤ b * 4096 + n * c = omega (arith, past_times b c, div-add-mod' (b * 4096) c) in
    le_trans (le_of_eq (sym (mul_assoc (past b c) c 4096))) (mul-le-mul_right 4096 k)

past_small : (most b c : ℕ) → most < 2 ^ 41 → b * 1 ≤ most * c → past b c < 2 ^ 53
past_small most b c few h =
    let k : b * 4096 ≤ c * (most * 4096) = omega (arith, mul_assoc c most 4096, mul_comm c most) in
    omega (arith, div-le_of_le-mul c k)

pub end_kept : (most : ℕ) → most < 2 ^ 41 → (miles leg : Float) {speed amount : ℕ} → T (leg_up_to most leg) → Between 1 fastest speed → Between 1 longest_tick amount → T (eq miles leg)
    → advanced miles speed amount leg ≡ leg
end_kept most few miles leg {speed} {amount} l s a h =
    let p = leg_positive most few leg l in
    let b = num leg in
    let c = den leg in
    let C = den_pos leg in
    let g = past b c in
    let sum = b * 4096 + speed * amount * c in
    let small : g < 2 ^ 53 = past_small most b c few (leg_small most few leg l) in
    let low : T (le leg (parts g)) = le_of_values leg (parts g) b c g 4096 C (lit< tt) (own_value leg p) (parts_value g small) (past_low b c C) in
    let high : T (le (parts g) (round binary64 false sum (c * 4096))) = round_mono binary64 g 4096 sum (c * 4096) (lit< tt) (mul-pos C (lit< tt)) (past_high b c (speed * amount) (step_pos s a)) in
    advanced_is s a miles leg b c C (value→worth miles b c (eq_value miles leg p h))
    ∙ up_to_no leg (round binary64 false sum (c * 4096)) (lt_false (round binary64 false sum (c * 4096)) leg p (le_up leg (parts g) (round binary64 false sum (c * 4096)) p low high))
