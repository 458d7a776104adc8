-- One tick in whole numbers. A tick's step is speed * amount of the 4096ths of a mile, exactly, and what it adds is rounded once (`advanced_is`); on the grid of the 4096ths nothing is rounded
-- (`grid_tick`). Assumes nothing.
use mathlib.Core.Path.{◌≡◌, sym, ap, ◌∙◌, subst}
use Prim.Native.Nat.{ℕ, ◌+◌, ◌*◌, ◌^◌, ◌≤◌, ◌<◌, min}
use native.Mathlib.Nat.{le_refl, le_of_lt, lt_trans, lt_of_not-le, lt_of_le_of_lt, mul-one, mul-le-mul, mul-pos, mul-lt-mul_of_pos_right, mul-le-mul_right}
use native.Mathlib.Omega.{arith}
use native.Mathlib.Decide.{dec_le}
use mathlib.Core.Bool.{Bool, true, false, cond}
use lib.Dec.{T, lit<, lit≤}
use lib.Ieee.{Float, binary64, round, add, of_int, lt, le}
use lib.Ieee.Exact.{HasValue}
use lib.Ieee.Back.{round_whole}
use lib.Ieee.Order.{round_mono, le_of_values}
use lib.Ieee.Scale.{round_same}
use lib.Ieee.Positive.{positive_of_value, mul_at}
use Rattle.limits.specs.Limits.{longest_tick, fastest}
use Rattle.leg.specs.Progress.{whole, sixty_fourths, miles_flown, up_to, flown_sum, advanced}
use Rattle.leg.specs.Ticks.{Between, Exactly, LegIn4096ths}
use Rattle.leg.proofs.Floats.{Worth, value→worth, add_worth, div_at, dyadic, lt_of_values, lt_false, le_up}

-- ---- the grid: n / 4096
abbrev pub parts : ℕ → Float
parts n = round binary64 false n 4096

pub parts_value : (n : ℕ) → n < 2 ^ 53 → Exactly (parts n) n
parts_value n h = dyadic 12 n (lit≤ tt) h

parts_mono : (m n : ℕ) → m ≤ n → T (le (parts m) (parts n))
parts_mono m n h = round_mono binary64 m 4096 n 4096 (lit< tt) (lit< tt) (mul-le-mul_right 4096 h)

-- the sum of two on the grid, rounded once
pub add_grid : (x y : Float) (m n : ℕ) → Exactly x m → Exactly y n → add binary64 x y ≡ parts (m + n)
add_grid x y m n h k =
    let cross : (m * 4096 + n * 4096) * 4096 ≡ (m + n) * 16777216 = omega arith in
    add_worth binary64 x y m 4096 n 4096 (lit< tt) (lit< tt) (value→worth x m 4096 h) k ∙ round_same binary64 false (m * 4096 + n * 4096) 16777216 (m + n) 4096 (lit< tt) (lit< tt) cross

-- ---- whole numbers, and n / 64
pub whole_value : (n : ℕ) → n ≤ 2 ^ 53 → HasValue (whole n) false n 1
unfolding of_int
whole_value n h = round_whole binary64 false n h

pub sixty_fourths_is : (n : ℕ) → n < 2 ^ 53 → sixty_fourths n ≡ round binary64 false n 64
sixty_fourths_is n h =
    div_at binary64 (whole n) (whole 64) n 1 64 1 (lit< tt) (lit< tt) (lit< tt) (whole_value n (le_of_lt h)) (whole_value 64 (lit≤ tt))
    ∙ ap (λ (z : ℕ). round binary64 false z 64) (mul-one n)

pub sixty_fourths_value : (n : ℕ) → n < 2 ^ 53 → HasValue (sixty_fourths n) false n 64
sixty_fourths_value n h = subst (λ (x : Float). HasValue x false n 64) (sym (sixty_fourths_is n h)) (dyadic 6 n (lit≤ tt) h)

-- n / 64 miles are on the grid
pub sixty_fourths_exact : (n : ℕ) → 64 * n < 2 ^ 53 → Exactly (sixty_fourths n) (64 * n)
sixty_fourths_exact n h =
    let small : n < 2 ^ 53 = omega arith in
    subst (λ (x : Float). Exactly x (64 * n)) (sym (sixty_fourths_is n small ∙ round_same binary64 false n 64 (64 * n) 4096 (lit< tt) (lit< tt) (omega arith))) (parts_value (64 * n) h)

-- ---- the clamp
pub up_to_yes : (leg x : Float) → lt x leg ≡ true → up_to leg x ≡ x
up_to_yes leg x e = ap (λ (t : Bool). cond t x leg) e

pub up_to_no : (leg x : Float) → lt x leg ≡ false → up_to leg x ≡ leg
up_to_no leg x e = ap (λ (t : Bool). cond t x leg) e

-- n / 4096 miles, up to a leg of k / 4096
pub up_to_grid : (leg : Float) (k n : ℕ) → LegIn4096ths leg k → Exactly (up_to leg (parts n)) (min k n)
up_to_grid leg k n r = go (dec_le k n)
  where
    go : Dec (k ≤ n) → Exactly (up_to leg (parts n)) (min k n)
    go (yes h) =
        let least : k ≡ min k n = omega arith in
        let p = positive_of_value leg k 4096 r.exact r.some in
        let here : T (le leg (parts k)) = le_of_values leg (parts k) k 4096 k 4096 (lit< tt) (lit< tt) r.exact (parts_value k r.few) (le_refl (k * 4096)) in
        subst (λ (x : Float). Exactly x (min k n)) (sym (up_to_no leg (parts n) (lt_false (parts n) leg p (le_up leg (parts k) (parts n) p here (parts_mono k n h)))))
        (subst (Exactly leg) least r.exact)
    go (no g) =
        let h : n < k = lt_of_not-le g in
        let least : n ≡ min k n = omega arith in
        let v = parts_value n (lt_trans h r.few) in
        subst (λ (x : Float). Exactly x (min k n)) (sym (up_to_yes leg (parts n) (lt_of_values (parts n) leg n 4096 k 4096 (lit< tt) (lit< tt) v r.exact (mul-lt-mul_of_pos_right h (lit< tt)))))
        (subst (Exactly (parts n)) least v)

-- ---- one tick
module _ {speed amount : ℕ} (s : Between 1 fastest speed) (a : Between 1 longest_tick amount) where
  step_is : miles_flown speed amount ≡ parts (speed * amount)
  step_is =
      let sv = sixty_fourths_value speed (omega arith) in
      let av = sixty_fourths_value amount (omega arith) in
      mul_at binary64 (sixty_fourths speed) (sixty_fourths amount) speed 64 amount 64 (positive_of_value (sixty_fourths speed) speed 64 sv s.least)
      (positive_of_value (sixty_fourths amount) amount 64 av a.least) (lit< tt) (lit< tt) sv av

  pub step_pos : 0 < speed * amount
  step_pos = mul-pos s.least a.least

  pub step_small : speed * amount ≤ 32768
  step_small = mul-le-mul s.most a.most

  -- from b / c miles: the sum b / c + speed * amount / 4096 is rounded once
  pub sum_is : (miles : Float) (b c : ℕ) → 0 < c → Worth miles b c → flown_sum miles speed amount ≡ round binary64 false (b * 4096 + speed * amount * c) (c * 4096)
  sum_is miles b c C w =
      ap (add binary64 miles) step_is
      ∙ add_worth binary64 miles (parts (speed * amount)) b c (speed * amount) 4096 C (lit< tt) w (parts_value (speed * amount) (lt_of_le_of_lt step_small (lit< tt)))

  pub advanced_is : (miles leg : Float) (b c : ℕ) → 0 < c → Worth miles b c → advanced miles speed amount leg ≡ up_to leg (round binary64 false (b * 4096 + speed * amount * c) (c * 4096))
  unfolding advanced
  advanced_is miles leg b c C w = ap (up_to leg) (sum_is miles b c C w)

  -- from m / 4096 miles on a leg of k / 4096: nothing is rounded
  pub sum_grid : (miles : Float) (m : ℕ) → Exactly miles m → flown_sum miles speed amount ≡ parts (m + speed * amount)
  sum_grid miles m h = ap (add binary64 miles) step_is ∙ add_grid miles (parts (speed * amount)) m (speed * amount) h (parts_value (speed * amount) (lt_of_le_of_lt step_small (lit< tt)))

  pub grid_tick : (miles leg : Float) (k m : ℕ) → LegIn4096ths leg k → Exactly miles m → Exactly (advanced miles speed amount leg) (min k (m + speed * amount))
  unfolding advanced
  grid_tick miles leg k m r h = subst (λ (x : Float). Exactly x (min k (m + speed * amount))) (sym (ap (up_to leg) (sum_grid miles m h))) (up_to_grid leg k (m + speed * amount) r)
