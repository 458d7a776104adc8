-- On the grid of the 4096ths of a mile every operation of a tick, of a miss and of the spacing is exact. Assumes nothing.
use mathlib.Core.Path.{◌≡◌, refl, sym, ap, ◌∙◌, subst}
use mathlib.Core.Bool.{Bool, true, false, cond, not, true≢false}
use Prim.Native.Nat.{ℕ, suc, ◌+◌, ◌-◌, ◌*◌, ◌^◌, ◌≤◌, ◌<◌, min}
use native.Mathlib.Nat.{zero-mul, mul_right_comm, eq_of_mul-eq-mul_right, lt_of_le_of_lt, lt_of_not-le, le_of_lt}
use native.Mathlib.Omega.{arith}
use native.Mathlib.Decide.{dec_le}
use lib.Dec.{T, eqb, lit<}
use lib.IntN.{pos, negsuc, sub_ℕ}
use lib.Ieee.{Float, nan, inf, fin, binary64, up, down, add, sub, div, eq}
use lib.Ieee.Exact.{HasValue}
use lib.Ieee.Fits.{and_i, eq→eqb, down_pos}
use lib.Ieee.Positive.{positive_of_value, mul_at}
use borrow.Author.Tests.{lt-ltb, le-ltb}
use Rattle.limits.specs.Limits.{longest_tick, fastest, longest_own_leg_miles, most_waited}
use Rattle.leg.specs.Progress.{whole, sixty_fourths, miles_flown, flown_sum, beyond, advanced, past_end, waited_after}
use Rattle.leg.specs.Ticks.{Between, Exactly, LegIn4096ths}
use Rattle.leg.proofs.Grid.{parts, parts_value, whole_value, sixty_fourths_value, step_pos, step_small, sum_grid, grid_tick}
use Rattle.leg.proofs.Missed.{ahead_grid, left_grid}
use Rattle.leg.proofs.Waited.{beyond_grid, waited_grid}
use Rattle.field.specs.declared.Legs.{Legs}
use Rattle.field.proofs.TestLaws.{passed}
use Rattle.exact_gaps.specs.ExactGaps.{ExactlySigned}
use Rattle.exact_gaps.proofs.Signed.{signed_grid, same_parts}
use Rattle.proof_rounding.specs.Fractions.{over, less, smaller_of, sum_of, difference_of, product_of, number_of, stands_for, exact_sum, exact_difference, exact_product, exact64ths}
use Rattle.proof_rounding.specs.NothingRounded.{flown_in_all, ExactTick, ExactRest}
use Rattle.proof_rounding.proofs.CrosswiseEqual.{Is, is_shifted, is_same, is_sum, is_difference, is_product, is_less, not_less, is_smaller, is_itself, is_over}

-- ---- the fraction of a float that has a value
pub value_is : (x : Float) (n d : ℕ) → HasValue x false n d → Is (number_of x) n 0 d
value_is nan n d h = absurd h
value_is (inf s) n d h = absurd h
value_is (fin true m e) n d h = absurd (true≢false h.0)
value_is (fin false m e) n d h = record { some = down_pos e; parts = let v = h.1 in let y = zero-mul (down e) in let z = zero-mul d in omega arith }

below_is : (x : Float) (n d : ℕ) → HasValue x true n d → Is (number_of x) 0 n d
below_is nan n d h = absurd h
below_is (inf s) n d h = absurd h
below_is (fin false m e) n d h = absurd (true≢false (sym h.0))
below_is (fin true m e) n d h = record { some = down_pos e; parts = let v = h.1 in let y = zero-mul (down e) in let z = zero-mul d in omega arith }

-- of one that is an integer of 4096ths
signed_is : (x : Float) (a b : ℕ) → ExactlySigned x (sub_ℕ a b) → Is (number_of x) a b 4096
signed_is x a b h = go (dec_le b a)
  where
    go : Dec (b ≤ a) → Is (number_of x) a b 4096
    go (yes l) =
        let v = subst (ExactlySigned x) (ap (λ (t : Bool). cond t (negsuc (b - suc a)) (pos (a - b))) (le-ltb a b l)) h in
        is_shifted (number_of x) (a - b) 0 a b 4096 (omega arith) (value_is x (a - b) 4096 v)
    go (no g) =
        let l : a < b = lt_of_not-le g in
        let v = subst (ExactlySigned x) (ap (λ (t : Bool). cond t (negsuc (b - suc a)) (pos (a - b))) (lt-ltb a b l)) h in
        is_shifted (number_of x) 0 (suc (b - suc a)) a b 4096 (omega arith) (below_is x (suc (b - suc a)) 4096 v)

-- ---- sums and differences on the grid
pub sum_exact : (x y : Float) (m n : ℕ) → Exactly x m → Exactly y n → m + n < 2 ^ 53 → T (exact_sum x y)
sum_exact x y m n h k few =
    is_same (number_of (add binary64 x y)) (sum_of (number_of x) (number_of y)) (m + n) 0 (m + n) 0 4096
    (value_is (add binary64 x y) (m + n) 4096 (ahead_grid x y m n h k few)) (is_sum (number_of x) (number_of y) m 0 n 0 4096 (value_is x m 4096 h) (value_is y n 4096 k)) (lit< tt) (omega arith)

pub difference_exact : (x y : Float) (m n : ℕ) → Exactly x m → Exactly y n → m < 2 ^ 53 → n < 2 ^ 53 → T (exact_difference x y)
difference_exact x y m n h k fm fn =
    is_same (number_of (sub binary64 x y)) (difference_of (number_of x) (number_of y)) m n (m + 0) (0 + n) 4096
    (signed_is (sub binary64 x y) m n (signed_grid x y m n h k fm fn)) (is_difference (number_of x) (number_of y) m 0 n 0 4096 (value_is x m 4096 h) (value_is y n 4096 k)) (lit< tt) (omega arith)

-- ---- floats that are the same number compare equal
equal_cross : (x p y q a c : ℕ) → 0 < c → x * c ≡ a * p → y * c ≡ a * q → x * q ≡ y * p
equal_cross x p y q a c C h k =
    eq_of_mul-eq-mul_right c C (x * q) (y * p)
    (mul_right_comm x q c ∙ ap (λ (z : ℕ). z * q) h ∙ mul_right_comm a p q ∙ sym (mul_right_comm y p c ∙ ap (λ (z : ℕ). z * p) k))

equal_values : (x y : Float) (a c : ℕ) → 0 < c → HasValue x false a c → HasValue y false a c → eq x y ≡ true
unfolding eq
equal_values nan y a c C p q = absurd p
equal_values (inf s) y a c C p q = absurd p
equal_values (fin true m e) y a c C p q = absurd (true≢false p.0)
equal_values (fin false m e) nan a c C p q = absurd q
equal_values (fin false m e) (inf t) a c C p q = absurd q
equal_values (fin false m e) (fin true n k) a c C p q = absurd (true≢false q.0)
equal_values (fin false m e) (fin false n k) a c C p q =
    passed (and_i (eqb (m * up e * down k) (n * up k * down e)) true (eq→eqb (equal_cross (m * up e) (down e) (n * up k) (down k) a c C p.1 q.1)) tt)

differ : (b : Bool) → (T b → ⊥) → b ≡ false
differ true h = absurd (h tt)
differ false h = refl

-- ---- whole numbers and their 64ths
pub whole_64ths_exact : (n : ℕ) → n < 2 ^ 53 → T (exact64ths n)
whole_64ths_exact n few =
    and_i (stands_for (whole n) (over n 1)) _
    (is_same (number_of (whole n)) (over n 1) n 0 (n * 1) 0 1 (value_is (whole n) n 1 (whole_value n (le_of_lt few))) (is_over n 1 1 (lit< tt)) (lit< tt) (omega arith)) (by _ (omega arith))
  where
    by : (e : ℕ) → 64 ≡ e → T (stands_for (div binary64 (whole n) (whole e)) (over n e))
    by e h =
        subst (λ (e : ℕ). T (stands_for (div binary64 (whole n) (whole e)) (over n e))) h
        (is_same (number_of (sixty_fourths n)) (over n 64) n 0 (n * 1) 0 64 (value_is (sixty_fourths n) n 64 (sixty_fourths_value n few)) (is_over n 64 1 (lit< tt)) (lit< tt) (omega arith))

-- ---- a tick
module _ {speed amount : ℕ} (s : Between 1 fastest speed) (a : Between 1 longest_tick amount) where
  speed_value : HasValue (sixty_fourths speed) false speed 64
  speed_value = sixty_fourths_value speed (omega arith)

  amount_value : HasValue (sixty_fourths amount) false amount 64
  amount_value = sixty_fourths_value amount (omega arith)

  few : speed * amount < 2 ^ 53
  few = lt_of_le_of_lt (step_small s a) (lit< tt)

  -- the miles that it flies
  flown_value : Exactly (miles_flown speed amount) (speed * amount)
  flown_value =
      subst (λ (x : Float). Exactly x (speed * amount))
      (sym (mul_at binary64 (sixty_fourths speed) (sixty_fourths amount) speed 64 amount 64 (positive_of_value (sixty_fourths speed) speed 64 speed_value s.least)
      (positive_of_value (sixty_fourths amount) amount 64 amount_value a.least) (lit< tt) (lit< tt) speed_value amount_value))
      (parts_value (speed * amount) few)

  product_is : Is (product_of (number_of (sixty_fourths speed)) (number_of (sixty_fourths amount))) (speed * amount + 0 * 0) (speed * 0 + 0 * amount) 4096
  product_is =
      is_product (number_of (sixty_fourths speed)) (number_of (sixty_fourths amount)) speed 0 amount 0 64 64 (value_is (sixty_fourths speed) speed 64 speed_value)
      (value_is (sixty_fourths amount) amount 64 amount_value)

  flown_exact : T (exact_product (sixty_fourths speed) (sixty_fourths amount))
  flown_exact =
      is_same (number_of (miles_flown speed amount)) (product_of (number_of (sixty_fourths speed)) (number_of (sixty_fourths amount))) (speed * amount) 0
      (speed * amount + 0 * 0) (speed * 0 + 0 * amount) 4096 (value_is (miles_flown speed amount) (speed * amount) 4096 flown_value) product_is (lit< tt) (omega arith)

  -- from m / 4096 miles on a leg of k / 4096, with n / 4096 waited
  module _ (miles leg waited : Float) (k m n : ℕ) (r : LegIn4096ths leg k) (h : Exactly miles m) (w : Exactly waited n)
      (low : m ≤ k) (short : k ≤ 4096 * longest_own_leg_miles) (few-waited : n ≤ 4096 * most_waited) where
    abbrev d : ℕ
    d = m + speed * amount

    d_few : d < 2 ^ 52
    d_few = let small = step_small s a in omega arith

    sum_value : Exactly (flown_sum miles speed amount) d
    sum_value = subst (λ (x : Float). Exactly x d) (sym (sum_grid s a miles m h)) (parts_value d (let small = d_few in omega arith))

    -- the same with nothing rounded
    in_all_is : Is (flown_in_all miles speed amount) d 0 4096
    in_all_is =
        is_shifted (flown_in_all miles speed amount) (m + (speed * amount + 0 * 0)) (0 + (speed * 0 + 0 * amount)) d 0 4096 (omega arith)
        (is_sum (number_of miles) (product_of (over speed 64) (over amount 64)) m 0 (speed * amount + 0 * 0) (speed * 0 + 0 * amount) 4096 (value_is miles m 4096 h)
        (is_product (over speed 64) (over amount 64) speed 0 amount 0 64 64 (is_itself speed 64 (lit< tt)) (is_itself amount 64 (lit< tt))))

    -- the miles after the tick
    after_value : Exactly (advanced miles speed amount leg) (min k d)
    after_value = grid_tick s a miles leg k m r h

    -- the end of the leg
    at_end : eq (advanced miles speed amount leg) leg ≡ not (less (flown_in_all miles speed amount) (number_of leg))
    at_end = go (dec_le k d)
      where
        x : Float
        x = advanced miles speed amount leg

        go : Dec (k ≤ d) → eq x leg ≡ not (less (flown_in_all miles speed amount) (number_of leg))
        go (yes l) =
            let all : min k d ≡ k = omega arith in
            equal_values x leg k 4096 (lit< tt) (subst (Exactly x) all after_value) r.exact
            ∙ sym (ap not (not_less (flown_in_all miles speed amount) (number_of leg) d 0 k 0 4096 in_all_is (value_is leg k 4096 r.exact) (lit< tt) (omega arith)))
        go (no g) =
            let l : d < k = lt_of_not-le g in
            differ (eq x leg) (λ t. let e = same_parts x leg (min k d) k after_value r.exact t in omega arith)
            ∙ sym (ap not (is_less (flown_in_all miles speed amount) (number_of leg) d 0 k 0 4096 in_all_is (value_is leg k 4096 r.exact) (lit< tt) (omega arith)))

    -- the miles past the end
    past_value : Exactly (past_end miles speed amount leg) (d - k)
    unfolding past_end
    past_value =
        let some = step_pos s a in
        let small = d_few in
        subst (λ (x : Float). Exactly (beyond leg x) (d - k)) (sym (sum_grid s a miles m h)) (beyond_grid leg k d r (omega arith) (omega arith))

    -- where the miles waited stop
    stops_at : (most : ℕ) → min (4096 * most_waited) (n + (d - k)) ≡ min (most * 4096) (n + (d - k))
        → T (stands_for (waited_after waited (past_end miles speed amount leg)) (smaller_of (sum_of (number_of waited) (number_of (past_end miles speed amount leg))) (over most 1)))
    stops_at most e =
        let P = past_end miles speed amount leg in
        let all = n + (d - k) in
        is_same (number_of (waited_after waited P)) (smaller_of (sum_of (number_of waited) (number_of P)) (over most 1)) (min (4096 * most_waited) all) 0 (min (most * 4096) all) 0 4096
        (value_is (waited_after waited P) (min (4096 * most_waited) all) 4096 (waited_grid s a miles leg waited k m n r (let small = d_few in omega arith) h w))
        (is_smaller (sum_of (number_of waited) (number_of P)) (over most 1) all (most * 4096) 4096 (lit< tt)
        (is_sum (number_of waited) (number_of P) n 0 (d - k) 0 4096 (value_is waited n 4096 w) (value_is P (d - k) 4096 past_value)) (is_over most 1 4096 (lit< tt)))
        (lit< tt) (omega arith)

    pub tick_exact : ExactTick speed amount miles leg waited
    tick_exact =
        let small = step_small s a in
        let P = past_end miles speed amount leg in
        record {
          speed_64ths = whole_64ths_exact speed (omega arith);
          amount_64ths = whole_64ths_exact amount (omega arith);
          product = flown_exact;
          sum = sum_exact miles (miles_flown speed amount) m (speed * amount) h flown_value (omega arith);
          fused =
              is_same (number_of (flown_sum miles speed amount)) (flown_in_all miles speed amount) d 0 d 0 4096 (value_is (flown_sum miles speed amount) d 4096 sum_value) in_all_is (lit< tt) (omega arith);
          flown =
              is_same (number_of (advanced miles speed amount leg)) (smaller_of (flown_in_all miles speed amount) (number_of leg)) (min k d) 0 (min k d) 0 4096
              (value_is (advanced miles speed amount leg) (min k d) 4096 after_value)
              (is_smaller (flown_in_all miles speed amount) (number_of leg) d k 4096 (lit< tt) in_all_is (value_is leg k 4096 r.exact)) (lit< tt) (omega arith);
          arrived = at_end;
          past = difference_exact (flown_sum miles speed amount) leg d k sum_value r.exact (omega arith) (omega arith);
          waited_sum = sum_exact waited P n (d - k) w past_value (omega arith);
          stopped = stops_at _ (omega arith);
        }

-- ---- what is left of a leg of k / 4096 miles with m / 4096 flown, on a field with these legs
module _ (legs : Legs) (j i f : ℕ) (missed : Exactly legs.missed j) (middle : Exactly legs.intermediate i) (last : Exactly legs.final_approach f) where
  pub rest_exact : (miles leg : Float) (k m : ℕ) → Exactly leg k → Exactly miles m → m ≤ k → k + i + f < 2 ^ 53 → j + k < 2 ^ 53 → ExactRest legs miles leg
  rest_exact miles leg k m h g low few also =
      let left = left_grid miles leg k m h g low (omega arith) in
      let rest = sub binary64 leg miles in
      record {
        left = difference_exact leg miles k m h g (omega arith) (omega arith);
        after_miss_is = sum_exact legs.missed rest j (k - m) missed left (omega arith);
        with_intermediate = sum_exact rest legs.intermediate (k - m) i left middle (omega arith);
        with_both =
            sum_exact (add binary64 rest legs.intermediate) legs.final_approach (k - m + i) f (ahead_grid rest legs.intermediate (k - m) i left middle (omega arith)) last (omega arith);
        with_final = sum_exact rest legs.final_approach (k - m) f left last (omega arith);
      }
