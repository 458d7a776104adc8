-- The own leg after a miss: between 1/64 of a mile and 128 miles on the grid of the 4096ths or off it (`leg_ahead`), since rounding keeps the order; on the grid nothing is rounded (`ahead_grid`).
-- And a leg that compares equal to another. Assumes nothing.
use mathlib.Core.Path.{◌≡◌, refl, sym, ap, ◌∙◌, subst}
use mathlib.Core.Logic.{inl, inr}
use Prim.Native.Nat.{ℕ, ◌+◌, ◌-◌, ◌*◌, ◌^◌, ◌≤◌, ◌<◌, zero-le}
use native.Mathlib.Nat.{le_trans, le_of_eq, zero-mul, mul-one, mul_comm, mul_assoc, mul-pos, mul-le-mul_right}
use native.Mathlib.Omega.{arith}
use mathlib.Core.Bool.{true, false}
use lib.Dec.{T, lit<, lit≤}
use lib.Ieee.{Float, nan, inf, fin, binary64, round, add, sub, of_int, le, eq}
use lib.Ieee.Exact.{HasValue}
use lib.Ieee.Fits.{and_i}
use lib.Ieee.Order.{round_mono, le_of_values}
use lib.Ieee.Scale.{round_same}
use lib.Ieee.Positive.{num, den, den_pos, own_value, positive}
use Rattle.limits.specs.Limits.{longest_leg_miles, longest_own_leg_miles}
use Rattle.leg.specs.Progress.{whole, sixty_fourths, legal_leg, legal_leg_after_miss}
use Rattle.leg.specs.Ticks.{Exactly}
use Rattle.leg.proofs.Floats.{value→worth, add_worth, sub_values, sub_worth, worth_of_le, le_up, eq_self}
use Rattle.leg.proofs.Grid.{whole_value, sixty_fourths_is, parts, parts_value, add_grid}
use Rattle.leg.proofs.Bounds.{at_least, at_most, least_value, leg_positive, leg_small, miles_worth, eq_value}
use Rattle.leg.proofs.Waited.{rounded}

-- ---- numbers of at most so many miles
pub record UpTo (most : ℕ) (x : Float) : Type 0 where
  pub n : ℕ
  pub d : ℕ
  pub some : 0 < d
  pub value : HasValue x false n d
  pub few : n ≤ most * d

pub whole_leg : (leg : Float) → T (legal_leg leg) → UpTo longest_leg_miles leg
whole_leg leg l =
    let p = leg_positive longest_leg_miles (lit< tt) leg l in
    let h = leg_small longest_leg_miles (lit< tt) leg l in
    record { n = num leg; d = den leg; some = den_pos leg; value = own_value leg p; few = omega arith }

-- ---- what is left of a leg
-- the miles are no more than the leg, as fractions
miles_under : (miles leg : Float) → T (positive leg) → T (le (whole 0) miles) → T (le miles leg) → num miles * den leg ≤ num leg * den miles
miles_under nan leg p h k = absurd (miles_worth nan leg p h k)
miles_under (inf s) leg p h k = absurd (miles_worth (inf s) leg p h k)
miles_under (fin false m e) leg p h k = worth_of_le (fin false m e) leg (num (fin false m e)) (den (fin false m e))
    (num leg) (den leg) (refl, refl) (value→worth leg (num leg) (den leg) (own_value leg p)) k
miles_under (fin true m e) leg p h k =
    let none : num (fin true m e) ≡ 0 = (miles_worth (fin true m e) leg p h k).1 in
    le_trans (le_of_eq (ap (λ (z : ℕ). z * den leg) none ∙ zero-mul (den leg))) zero-le

finite_under : (x : Float) → x ≡ inf false → T (le x (whole longest_leg_miles)) → ⊥
unfolding le of_int
finite_under x e h = subst (λ (z : Float). T (le z (whole longest_leg_miles))) e h

pub left_under : (miles leg : Float) → T (legal_leg leg) → T (le (whole 0) miles) → T (le miles leg) → UpTo longest_leg_miles (sub binary64 leg miles)
unfolding of_int
left_under miles leg l h k =
    let p = leg_positive longest_leg_miles (lit< tt) leg l in
    let A = num leg * den miles - num miles * den leg in
    let C = den leg * den miles in
    let C0 = mul-pos (den_pos leg) (den_pos miles) in
    let is : sub binary64 leg miles ≡ round binary64 false A C = sub_worth binary64 leg miles (num leg) (den leg) (num miles) (den miles)
    (den_pos leg) (den_pos miles) (own_value leg p) (miles_worth miles leg p h k) (miles_under miles leg p h k) in
    let small : num leg * 1 * den miles ≤ longest_leg_miles * den leg * den miles = mul-le-mul_right (den miles) (leg_small longest_leg_miles (lit< tt) leg l) in
    let cross : A * 1 ≤ longest_leg_miles * C = omega (arith, mul_assoc longest_leg_miles (den leg) (den miles), ap (λ (z : ℕ). z * den miles) (mul-one (num leg))) in
    let high : T (le (round binary64 false A C) (whole longest_leg_miles)) = round_mono binary64 A C longest_leg_miles 1 C0 (lit< tt) cross in
    subst (UpTo longest_leg_miles) (sym is)
    (elim (rounded A C C0) [
      | inl i ↦ absurd (finite_under (round binary64 false A C) i high)
      | inr v ↦
          let few = worth_of_le (round binary64 false A C) (whole longest_leg_miles) v.0 v.1 longest_leg_miles 1 v.3
          (value→worth (whole longest_leg_miles) longest_leg_miles 1 (whole_value longest_leg_miles (lit≤ tt))) high in
          record { n = v.0; d = v.1; some = v.2; value = v.3; few = omega arith }
    ])

-- ---- the sum with the missed leg
pub leg_ahead : (missed left : Float) → T (legal_leg missed) → UpTo longest_leg_miles left → T (legal_leg_after_miss (add binary64 missed left))
unfolding of_int
leg_ahead missed left l u =
    let p = leg_positive longest_leg_miles (lit< tt) missed l in
    let a = num missed in
    let c = den missed in
    let n = u.n in
    let d = u.d in
    let S = a * d + n * c in
    let D = c * d in
    let D0 = mul-pos (den_pos missed) u.some in
    let own = own_value missed p in
    let is : add binary64 missed left ≡ round binary64 false S D = add_worth binary64 missed left a c n d (den_pos missed) u.some (value→worth missed a c own) u.value in
    let low = worth_of_le (sixty_fourths 1) missed 1 64 a c (least_value longest_leg_miles (lit< tt) missed l) (value→worth missed a c own) (at_least longest_leg_miles (lit< tt) missed l) in
    let low-d : 1 * c * d ≤ a * 64 * d = mul-le-mul_right d low in
    let high-d : a * 1 * d ≤ longest_leg_miles * c * d = mul-le-mul_right d (leg_small longest_leg_miles (lit< tt) missed l) in
    let left-c : n * c ≤ longest_leg_miles * d * c = mul-le-mul_right c u.few in
    let least : 1 * D ≤ S * 64 = omega (arith, mul_assoc 1 c d, mul_assoc a 64 d, mul_comm 64 d, mul_assoc a d 64) in
    let most : S * 1 ≤ longest_own_leg_miles * D = omega (arith, mul_assoc longest_leg_miles c d, mul_assoc longest_leg_miles d c, mul_comm d c, ap (λ (z : ℕ). z * d) (mul-one a)) in
    subst (λ (x : Float). T (legal_leg_after_miss x)) (sym is)
    (and_i (le (sixty_fourths 1) (round binary64 false S D)) (le (round binary64 false S D) (whole longest_own_leg_miles))
    (subst (λ (x : Float). T (le x (round binary64 false S D))) (sym (sixty_fourths_is 1 (lit< tt))) (round_mono binary64 1 64 S D (lit< tt) D0 least))
    (round_mono binary64 S D longest_own_leg_miles 1 D0 (lit< tt) most))

-- ---- on the grid
-- m / 4096 miles flown of k / 4096, on a missed leg of j / 4096: nothing is rounded
pub ahead_grid : (missed left : Float) (j k : ℕ) → Exactly missed j → Exactly left k → j + k < 2 ^ 53 → Exactly (add binary64 missed left) (j + k)
ahead_grid missed left j k h g few = subst (λ (x : Float). Exactly x (j + k)) (sym (add_grid missed left j k h g)) (parts_value (j + k) few)

pub left_grid : (miles leg : Float) (k m : ℕ) → Exactly leg k → Exactly miles m → m ≤ k → k < 2 ^ 53 → Exactly (sub binary64 leg miles) (k - m)
left_grid miles leg k m h g under few =
    let cross : (k * 4096 - m * 4096) * 4096 ≡ (k - m) * 16777216 = omega arith in
    let is : sub binary64 leg miles ≡ parts (k - m) =
    sub_values binary64 leg miles k 4096 m 4096 (lit< tt) (lit< tt) h g (omega arith)
    ∙ round_same binary64 false (k * 4096 - m * 4096) 16777216 (k - m) 4096 (lit< tt) (lit< tt) cross in
    subst (λ (x : Float). Exactly x (k - m)) (sym is) (parts_value (k - m) (omega arith))

-- ---- a leg that compares equal to another, and a bound that is larger
pub equal_legal : (own leg : Float) → T (legal_leg leg) → T (eq own leg) → T (legal_leg own)
equal_legal own leg l e =
    let p = leg_positive longest_leg_miles (lit< tt) leg l in
    let v = eq_value own leg p e in
    let low = worth_of_le (sixty_fourths 1) leg 1 64 (num leg) (den leg) (least_value longest_leg_miles (lit< tt) leg l)
    (value→worth leg (num leg) (den leg) (own_value leg p)) (at_least longest_leg_miles (lit< tt) leg l) in
    and_i (le (sixty_fourths 1) own) (le own (whole longest_leg_miles))
    (le_of_values (sixty_fourths 1) own 1 64 (num leg) (den leg) (lit< tt) (den_pos leg) (least_value longest_leg_miles (lit< tt) leg l) v low)
    (le_of_values own (whole longest_leg_miles) (num leg) (den leg) longest_leg_miles 1 (den_pos leg) (lit< tt) v (whole_value longest_leg_miles (lit≤ tt)) (leg_small longest_leg_miles (lit< tt) leg l))

pub equal_self : (leg : Float) → T (legal_leg leg) → T (eq leg leg)
equal_self leg l = eq_self leg (leg_positive longest_leg_miles (lit< tt) leg l)

pub longer_legal : (leg : Float) → T (legal_leg leg) → T (legal_leg_after_miss leg)
longer_legal leg l =
    and_i (le (sixty_fourths 1) leg) (le leg (whole longest_own_leg_miles)) (at_least longest_leg_miles (lit< tt) leg l)
    (le_up leg (whole longest_leg_miles) (whole longest_own_leg_miles) (leg_positive longest_leg_miles (lit< tt) leg l) (at_most longest_leg_miles (lit< tt) leg l)
    (le_of_values (whole longest_leg_miles) (whole longest_own_leg_miles) longest_leg_miles 1 longest_own_leg_miles 1 (lit< tt) (lit< tt)
    (whole_value longest_leg_miles (lit≤ tt)) (whole_value longest_own_leg_miles (lit≤ tt)) (lit≤ tt)))
