-- The miles past the end of a leg, and their sum. On any leg that is finite and above zero the sum stays between 0 and the most (`waited_stays`); on the grid of the 4096ths nothing is rounded
-- (`beyond_grid`, `waited_grid`). Assumes nothing.
use mathlib.Core.Path.{◌≡◌, refl, sym, ap, ◌∙◌, subst}
use mathlib.Core.Logic.{◌⊎◌, inl, inr}
use Prim.Native.Nat.{ℕ, ◌+◌, ◌-◌, ◌*◌, ◌^◌, ◌≤◌, ◌<◌, min}
use native.Mathlib.Nat.{lt_of_not-le, mul-pos, mul-lt-mul_of_pos_right, mul-le-mul_right}
use native.Mathlib.Omega.{arith}
use native.Mathlib.Decide.{dec_le}
use mathlib.Core.Bool.{Bool, true, false, cond}
use lib.Dec.{T, lit<, lit≤}
use lib.Pow.{pow_pos}
use lib.Ieee.{Float, nan, inf, fin, binary64, round, add, sub, of_int, lt, le}
use lib.Ieee.Exact.{HasValue}
use lib.Ieee.Fits.{and_i, and_l, and_r}
use lib.Ieee.Order.{le_of_values}
use lib.Ieee.Scale.{finite, round_same, round_val, round_under}
use lib.Ieee.Positive.{num, den, den_pos, own_value, positive, positive_of_value}
use Rattle.limits.specs.Limits.{longest_tick, fastest, most_waited}
use Rattle.leg.specs.Progress.{whole, up_to, beyond, past_end, waited_after, waited_within}
use Rattle.leg.specs.Ticks.{Between, Exactly, LegIn4096ths}
use Rattle.leg.proofs.Floats.{Worth, value→worth, worth_of_le, add_worth, sub_values, lt_of_values, lt_false, lt→le}
use Rattle.leg.proofs.Grid.{whole_value, parts, parts_value, up_to_grid, step_pos, step_small, sum_is, add_grid, sum_grid}
use Rattle.leg.proofs.Bounds.{miles_worth, clamped, zero_least}

-- ---- numbers without a minus sign, an infinity included
abbrev pub Above : Float → Type 0
Above x = (x ≡ inf false) ⊎ ((n : ℕ) × (d : ℕ) × (0 < d) × HasValue x false n d)

pub rounded : (a c : ℕ) → 0 < c → Above (round binary64 false a c)
unfolding le of_int
rounded a c C = go (round binary64 false a c) refl
  where
    go : (x : Float) → round binary64 false a c ≡ x → Above (round binary64 false a c)
    go nan e = absurd (subst (λ (z : Float). T (le (whole 0) z)) e (zero_least a c C))
    go (inf true) e = absurd (subst (λ (z : Float). T (le (whole 0) z)) e (zero_least a c C))
    go (inf false) e = inl e
    go (fin s m k) e = inr (_, _, pow_pos 1074, round_val binary64 a c (round_under binary64 a c (subst (λ (z : Float). T (finite z)) (sym e) tt)))

-- ---- the miles past the end have no minus sign
inf_less : (leg : Float) → T (positive leg) → sub binary64 (inf false) leg ≡ inf false
unfolding sub
inf_less nan p = absurd p
inf_less (inf s) p = absurd p
inf_less (fin s n k) p = refl

past_above : (leg : Float) → T (positive leg) → (a c : ℕ) → 0 < c → Above (beyond leg (round binary64 false a c))
past_above leg p a c C = go (lt leg s) refl
  where
    s : Float
    s = round binary64 false a c

    over : lt leg s ≡ true → Above (sub binary64 s leg)
    over e = elim (rounded a c C) [
      | inl i ↦ inl (ap (λ (x : Float). sub binary64 x leg) i ∙ inf_less leg p)
      | inr v ↦
          let n = v.0 in
          let d = v.1 in
          let more = worth_of_le leg s (num leg) (den leg) n d (own_value leg p) (value→worth s n d v.3) (lt→le leg s e) in
          subst Above (sym (sub_values binary64 s leg n d (num leg) (den leg) v.2 (den_pos leg) v.3 (own_value leg p) more))
          (rounded (n * den leg - num leg * d) (d * den leg) (mul-pos v.2 (den_pos leg)))
    ]

    go : (b : Bool) → lt leg s ≡ b → Above (beyond leg s)
    go true e = subst Above (sym (ap (λ (t : Bool). cond t (sub binary64 s leg) (whole 0)) e)) (over e)
    go false e = subst Above (sym (ap (λ (t : Bool). cond t (sub binary64 s leg) (whole 0)) e)) (inr (0, 1, lit< tt, whole_value 0 (lit≤ tt)))

-- ---- the sum stays between 0 and the most
most_positive : T (positive (whole most_waited))
most_positive = positive_of_value (whole most_waited) most_waited 1 (whole_value most_waited (lit≤ tt)) (lit< tt)

add_inf : (x : Float) (a c : ℕ) → Worth x a c → add binary64 x (inf false) ≡ inf false
unfolding add
add_inf nan a c w = absurd w
add_inf (inf s) a c w = absurd w
add_inf (fin s m e) a c w = refl

inf_not_under : (x : Float) → lt (inf false) x ≡ false
unfolding lt
inf_not_under nan = refl
inf_not_under (inf t) = refl
inf_not_under (fin t n d) = refl

stays : (waited past : Float) → T (waited_within waited) → Above past → T (waited_within (waited_after waited past))
unfolding waited_after le of_int
stays waited past h above =
    let low = and_l (le (whole 0) waited) (le waited (whole most_waited)) h in
    let w = miles_worth waited (whole most_waited) most_positive low (and_r (le (whole 0) waited) (le waited (whole most_waited)) h) in
    let sum = add binary64 waited past in
    let kept : T (le (whole 0) (up_to (whole most_waited) sum)) × T (le (up_to (whole most_waited) sum) (whole most_waited)) =
    elim above [
      | inl i ↦
          let is : sum ≡ inf false = ap (add binary64 waited) i ∙ add_inf waited (num waited) (den waited) w in
          let low_end : T (le (whole 0) (inf false)) = tt in
          subst (λ (x : Float). T (le (whole 0) (up_to (whole most_waited) x)) × T (le (up_to (whole most_waited) x) (whole most_waited)))
          (sym is) (clamped false (whole most_waited) (inf false) (inf_not_under (whole most_waited)) most_positive low_end)
      | inr v ↦
          let n = v.0 in
          let d = v.1 in
          let a = num waited * d + n * den waited in
          let c = den waited * d in
          let C = mul-pos (den_pos waited) v.2 in
          subst (λ (x : Float). T (le (whole 0) (up_to (whole most_waited) x)) × T (le (up_to (whole most_waited) x) (whole most_waited)))
          (sym (add_worth binary64 waited past (num waited) (den waited) n d (den_pos waited) v.2 w v.3))
          (clamped (lt (round binary64 false a c) (whole most_waited)) (whole most_waited) (round binary64 false a c) refl most_positive (zero_least a c C))
    ] in
    and_i (le (whole 0) (up_to (whole most_waited) sum)) (le (up_to (whole most_waited) sum) (whole most_waited)) kept.0 kept.1

module _ {speed amount : ℕ} (s : Between 1 fastest speed) (a : Between 1 longest_tick amount) where
  pub waited_stays : (miles leg waited : Float) → T (positive leg) → T (le (whole 0) miles) → T (le miles leg)
      → T (waited_within waited) → T (waited_within (waited_after waited (past_end miles speed amount leg)))
  unfolding past_end
  waited_stays miles leg waited p low high h =
      let b = num miles * 4096 + speed * amount * den miles in
      let c = den miles * 4096 in
      stays waited (past_end miles speed amount leg) h
      (subst (λ (x : Float). Above (beyond leg x)) (sym (sum_is s a miles (num miles) (den miles) (den_pos miles) (miles_worth miles leg p low high)))
      (past_above leg p b c (mul-pos (den_pos miles) (lit< tt))))

-- ---- on the grid
-- what n / 4096 miles exceed a leg of k / 4096 by
pub beyond_grid : (leg : Float) (k n : ℕ) → LegIn4096ths leg k → 0 < n → n < 2 ^ 53 → Exactly (beyond leg (parts n)) (n - k)
unfolding of_int
beyond_grid leg k n r some few = go (dec_le n k)
  where
    here : Exactly (parts n) n
    here = parts_value n few

    by : {b : Bool} → lt leg (parts n) ≡ b → beyond leg (parts n) ≡ cond b (sub binary64 (parts n) leg) (whole 0)
    by e = ap (λ (t : Bool). cond t (sub binary64 (parts n) leg) (whole 0)) e

    go : Dec (n ≤ k) → Exactly (beyond leg (parts n)) (n - k)
    go (yes h) =
        let none : 0 ≡ n - k = omega arith in
        let under = le_of_values (parts n) leg n 4096 k 4096 (lit< tt) (lit< tt) here r.exact (mul-le-mul_right 4096 h) in
        subst (λ (x : Float). Exactly x (n - k)) (sym (by (lt_false leg (parts n) (positive_of_value (parts n) n 4096 here some) under))) (subst (Exactly (whole 0)) none (refl, refl))
    go (no g) =
        let h : k < n = lt_of_not-le g in
        let cross : (n * 4096 - k * 4096) * 4096 ≡ (n - k) * 16777216 = omega arith in
        let is : beyond leg (parts n) ≡ parts (n - k) =
        by (lt_of_values leg (parts n) k 4096 n 4096 (lit< tt) (lit< tt) r.exact here (mul-lt-mul_of_pos_right h (lit< tt)))
        ∙ sub_values binary64 (parts n) leg n 4096 k 4096 (lit< tt) (lit< tt) here r.exact (omega arith)
        ∙ round_same binary64 false (n * 4096 - k * 4096) 16777216 (n - k) 4096 (lit< tt) (lit< tt) cross in
        subst (λ (x : Float). Exactly x (n - k)) (sym is) (parts_value (n - k) (omega arith))

-- the most as a leg of 4096ths
most_exact : LegIn4096ths (whole most_waited) (4096 * most_waited)
unfolding of_int
most_exact = record { exact = (refl, refl); some = lit< tt; few = lit< tt }

-- from m / 4096 miles on a leg of k / 4096, with n / 4096 waited: nothing is rounded
pub waited_grid : {speed amount : ℕ} → Between 1 fastest speed → Between 1 longest_tick amount
    → (miles leg waited : Float) (k m n : ℕ) → LegIn4096ths leg k → m < 2 ^ 52 → Exactly miles m → Exactly waited n
    → Exactly (waited_after waited (past_end miles speed amount leg)) (min (4096 * most_waited) (n + (m + speed * amount - k)))
unfolding past_end waited_after
waited_grid {speed} {amount} s a miles leg waited k m n r few h w =
    let d = m + speed * amount in
    let small = step_small s a in
    let some = step_pos s a in
    let past : Exactly (past_end miles speed amount leg) (d - k) = subst (λ (x : Float). Exactly (beyond leg x) (d - k)) (sym (sum_grid s a miles m h))
    (beyond_grid leg k d r (omega arith) (omega arith)) in
    subst (λ (x : Float). Exactly (up_to (whole most_waited) x) (min (4096 * most_waited) (n + (d - k)))) (sym (add_grid waited (past_end miles speed amount leg) n (d - k) w past))
    (up_to_grid (whole most_waited) (4096 * most_waited) (n + (d - k)) most_exact)
