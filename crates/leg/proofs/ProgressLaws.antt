-- What holds of progress along a leg, in whole numbers: speeds are 64ths of a mile a minute, tick amounts 64ths of a minute, so that a tick flies speed * amount of the 4096ths of a mile.
-- Each is said of a leg up to any bound that the numbers of an `f64` allow, and then of document 01's legs.
-- The definitions are those of `specs/`. Nothing here asks that a leg or the miles be a value that an `f64` has: it holds of all that the definitions allow. Assumes nothing.
use mathlib.Core.Path.{◌≡◌, refl, sym, subst}
use mathlib.Core.List.{List, [], ◌∷◌}
use Prim.Native.Nat.{ℕ, ◌+◌, ◌-◌, ◌*◌, ◌^◌, ◌≤◌, ◌<◌, min}
use native.Mathlib.Nat.{le_trans, le_of_eq, mul-add, zero-add, one-mul, mul-le-mul}
use native.Mathlib.Omega.{arith}
use lib.ListN.{replicate}
use lib.Dec.{T, lit<, lit≤}
use lib.Ieee.{Float, binary64, sub, of_int, le}
use lib.Ieee.Fits.{and_i, and_l, and_r}
use lib.Ieee.Order.{le_of_values}
use lib.Ieee.Positive.{num, den}
use Rattle.limits.specs.Limits.{longest_tick, fastest, longest_leg, longest_leg_miles, longest_own_leg_miles, most_waited, most_ticks}
use Rattle.leg.specs.declared.Progress.{Progress}
use Rattle.leg.specs.declared.Progress.TheVariants.{Waiting, Flying}
use Rattle.leg.specs.Progress.{whole, sixty_fourths, progress_after, waited_with, waited_within, flown_out, leg_after_miss, within_leg, leg_up_to, legal_leg, legal_leg_after_miss}
use Rattle.leg.specs.Ticks.{Between, TickAmounts, added_up, after_ticks, Exactly, LegIn4096ths, FlownExactly, finite_miles, flying}
use Rattle.leg.proofs.Floats.{eq_self, worth→finite}
use Rattle.leg.proofs.Grid.{whole_value, sixty_fourths_value, sixty_fourths_exact, grid_tick}
use Rattle.leg.proofs.Bounds.{leg_positive, zero_under, miles_worth, flying_within, end_kept}
use Rattle.leg.proofs.TicksToEnd.{arrives, added_same, all_same}
use Rattle.leg.proofs.Waited.{waited_stays, waited_grid}
use Rattle.leg.proofs.Missed.{whole_leg, left_under, leg_ahead, left_grid, ahead_grid}

-- ---- The beginning of a leg, and the legs of whole 4096ths and 64ths

-- 0 miles are exactly 0,
pub zero_exact : FlownExactly (Flying (whole 0)) 0
unfolding of_int
zero_exact = (refl, refl)

-- and within every leg of 1/64 of a mile or more,
pub zero_within_up_to : (most : ℕ) → most < 2 ^ 41 → (leg : Float) → T (leg_up_to most leg) → T (within_leg (Flying (whole 0)) leg)
unfolding le of_int
zero_within_up_to most few leg l = and_i (le (whole 0) (whole 0)) (le (whole 0) leg) tt (zero_under leg (leg_positive most few leg l))

-- so within every legal leg.
pub zero_within : (leg : Float) → T (legal_leg leg) → T (within_leg (Flying (whole 0)) leg)
zero_within = zero_within_up_to longest_leg_miles (lit< tt)

-- 0 miles waited are from 0 to the most.
pub zero_waited : T (waited_within (whole 0))
unfolding le of_int
zero_waited = tt

-- A leg of exactly k / 4096 miles is one from 1/64 of a mile to `most` miles where k is from 64 to 4096 times as many.
pub exact_up_to : (most : ℕ) → most < 2 ^ 41 → (leg : Float) (k : ℕ) → Exactly leg k → Between 64 (4096 * most) k → T (leg_up_to most leg)
exact_up_to most few leg k e r =
    and_i (le (sixty_fourths 1) leg) (le leg (whole most))
    (le_of_values (sixty_fourths 1) leg 1 64 k 4096 (lit< tt) (lit< tt) (sixty_fourths_value 1 (lit< tt)) e (omega arith))
    (le_of_values leg (whole most) k 4096 most 1 (lit< tt) (lit< tt) e (whole_value most (omega arith)) (omega arith))

-- A leg of 1 to 4096 64ths is exactly 64 times as many 4096ths,
pub sixty_fourths_in_4096ths : (k : ℕ) → Between 1 longest_leg k → LegIn4096ths (sixty_fourths k) (64 * k)
sixty_fourths_in_4096ths k r = record { exact = sixty_fourths_exact k (omega arith); some = omega arith; few = omega arith }

-- and legal.
pub sixty_fourths_legal : (k : ℕ) → Between 1 longest_leg k → T (legal_leg (sixty_fourths k))
sixty_fourths_legal k r = exact_up_to longest_leg_miles (lit< tt) (sixty_fourths k) (64 * k) (sixty_fourths_in_4096ths k r).exact (record { least = omega arith; most = omega arith })

-- ---- 1. On the grid: nothing is rounded

-- With a leg of k / 4096 miles and m / 4096 of them flown, a tick gives exactly min k (m + speed * amount) / 4096.
pub one_tick_exact_in_4096ths : (p : Progress) (leg : Float) (k m : ℕ) {speed amount : ℕ} → LegIn4096ths leg k → Between 1 fastest speed → Between 1 longest_tick amount → FlownExactly p m
    → FlownExactly (progress_after p speed amount leg) (min k (m + speed * amount))
one_tick_exact_in_4096ths Waiting leg k m r s a h = absurd h
one_tick_exact_in_4096ths (Flying miles) leg k m r s a h = grid_tick s a miles leg k m r h

-- With n / 4096 miles waited before it, exactly min (4096 * mostWaited) (n + (m + speed * amount - k)) / 4096 after it: what exceeds the leg is added.
pub one_tick_waited_in_4096ths : (p : Progress) (leg waited : Float) (k m n : ℕ) {speed amount : ℕ} → LegIn4096ths leg k
    → Between 1 fastest speed → Between 1 longest_tick amount → m < 2 ^ 52 → FlownExactly p m
    → Exactly waited n → Exactly (waited_with p waited speed amount leg) (min (4096 * most_waited) (n + (m + speed * amount - k)))
one_tick_waited_in_4096ths Waiting leg waited k m n r s a few h w = absurd h
one_tick_waited_in_4096ths (Flying miles) leg waited k m n r s a few h w = waited_grid s a miles leg waited k m n r few h w

-- Ticks one after the other, from m / 4096 miles: exactly min k (m + speed * their amounts added up) / 4096.
pub ticks_exact_in_4096ths : (p : Progress) (leg : Float) (k m : ℕ) {speed : ℕ} (amounts : List ℕ) → LegIn4096ths leg k → Between 1 fastest speed → TickAmounts amounts → m ≤ k → FlownExactly p m
    → FlownExactly (after_ticks p speed amounts leg) (min k (m + speed * added_up amounts))
ticks_exact_in_4096ths p leg k m {speed} [] r s a small h =
    let same : m ≡ min k (m + speed * 0) = omega arith in
    subst (FlownExactly p) same h
ticks_exact_in_4096ths p leg k m {speed} (amount ∷ amounts) r s a small h =
    let n = min k (m + speed * amount) in
    let same : min k (n + speed * added_up amounts) ≡ min k (m + speed * (amount + added_up amounts)) = omega (arith, mul-add speed amount (added_up amounts)) in
    let q = progress_after p speed amount leg in
    subst (FlownExactly (after_ticks q speed amounts leg)) same (ticks_exact_in_4096ths q leg k n amounts r s a.1 (omega arith) (one_tick_exact_in_4096ths p leg k m r s a.0 h))

-- From the beginning of the leg: exactly min k (speed * the amounts added up) / 4096.
pub leg_exact_in_4096ths : (leg : Float) (k : ℕ) {speed : ℕ} (amounts : List ℕ) → LegIn4096ths leg k → Between 1 fastest speed → TickAmounts amounts
    → FlownExactly (after_ticks (Flying (whole 0)) speed amounts leg) (min k (speed * added_up amounts))
leg_exact_in_4096ths leg k {speed} amounts r s a =
    let p = after_ticks (Flying (whole 0)) speed amounts leg in
    subst (λ (n : ℕ). FlownExactly p (min k n)) (zero-add (speed * added_up amounts)) (ticks_exact_in_4096ths (Flying (whole 0)) leg k 0 amounts r s a (omega arith) zero_exact)

-- The same with a leg of k / 64 miles, k from 1 to 4096: exactly min (64 k) (m + speed * amount) / 4096 after a tick,
pub one_tick_exact : (p : Progress) (k m : ℕ) {speed amount : ℕ} → Between 1 longest_leg k → Between 1 fastest speed → Between 1 longest_tick amount → FlownExactly p m
    → FlownExactly (progress_after p speed amount (sixty_fourths k)) (min (64 * k) (m + speed * amount))
one_tick_exact p k m r = one_tick_exact_in_4096ths p (sixty_fourths k) (64 * k) m (sixty_fourths_in_4096ths k r)

-- with min (4096 * mostWaited) (n + (m + speed * amount - 64 k)) / 4096 miles waited,
pub one_tick_waited : (p : Progress) (waited : Float) (k m n : ℕ) {speed amount : ℕ} → Between 1 longest_leg k
    → Between 1 fastest speed → Between 1 longest_tick amount → m ≤ 64 * k → FlownExactly p m → Exactly waited n
    → Exactly (waited_with p waited speed amount (sixty_fourths k)) (min (4096 * most_waited) (n + (m + speed * amount - 64 * k)))
one_tick_waited p waited k m n r s a few = one_tick_waited_in_4096ths p (sixty_fourths k) waited (64 * k) m n (sixty_fourths_in_4096ths k r) s a (omega arith)

-- min (64 k) (m + speed * their amounts added up) / 4096 after ticks one after the other,
pub ticks_exact : (p : Progress) (k m : ℕ) {speed : ℕ} (amounts : List ℕ) → Between 1 longest_leg k → Between 1 fastest speed → TickAmounts amounts → m ≤ 64 * k → FlownExactly p m
    → FlownExactly (after_ticks p speed amounts (sixty_fourths k)) (min (64 * k) (m + speed * added_up amounts))
ticks_exact p k m amounts r = ticks_exact_in_4096ths p (sixty_fourths k) (64 * k) m amounts (sixty_fourths_in_4096ths k r)

-- and min (64 k) (speed * the amounts added up) / 4096 from the beginning of the leg.
pub leg_exact : (k : ℕ) {speed : ℕ} (amounts : List ℕ) → Between 1 longest_leg k → Between 1 fastest speed → TickAmounts amounts
    → FlownExactly (after_ticks (Flying (whole 0)) speed amounts (sixty_fourths k)) (min (64 * k) (speed * added_up amounts))
leg_exact k amounts r = leg_exact_in_4096ths (sixty_fourths k) (64 * k) amounts (sixty_fourths_in_4096ths k r)

-- ---- 2. On every leg from 1/64 of a mile to `most` miles, on the grid or off it
module _ (most : ℕ) (few : most < 2 ^ 41) where
  -- Within the leg stays within the leg.
  pub within_kept_up_to : (p : Progress) (leg : Float) {speed amount : ℕ} → T (leg_up_to most leg) → Between 1 fastest speed → Between 1 longest_tick amount → T (within_leg p leg)
      → T (within_leg (progress_after p speed amount leg) leg)
  within_kept_up_to Waiting leg l s a w = tt
  within_kept_up_to (Flying miles) leg l s a w = flying_within miles leg (leg_positive most few leg l) s a w

  -- The miles waited stay between 0 and the most.
  pub waited_kept_up_to : (p : Progress) (leg waited : Float) {speed amount : ℕ} → T (leg_up_to most leg)
      → Between 1 fastest speed → Between 1 longest_tick amount → T (within_leg p leg) → T (waited_within waited)
      → T (waited_within (waited_with p waited speed amount leg))
  waited_kept_up_to Waiting leg waited l s a w h = h
  waited_kept_up_to (Flying miles) leg waited l s a w h = waited_stays s a miles leg waited (leg_positive most few leg l)
      (and_l (le (whole 0) miles) (le miles leg) w) (and_r (le (whole 0) miles) (le miles leg) w) h

  -- Flown out stays flown out.
  pub flown_out_kept_up_to : (p : Progress) (leg : Float) {speed amount : ℕ} → T (leg_up_to most leg) → Between 1 fastest speed → Between 1 longest_tick amount → T (flown_out p leg)
      → T (flown_out (progress_after p speed amount leg) leg)
  flown_out_kept_up_to Waiting leg l s a h = absurd h
  flown_out_kept_up_to (Flying miles) leg l s a h = rw (end_kept most few miles leg l s a h) (eq_self leg (leg_positive most few leg l))

  -- Miles within the leg are neither a NaN nor an infinity,
  pub within_finite_up_to : (p : Progress) (leg : Float) → T (leg_up_to most leg) → T (within_leg p leg) → T (finite_miles p)
  within_finite_up_to Waiting leg l w = tt
  within_finite_up_to (Flying miles) leg l w =
      worth→finite miles (num miles) (den miles) (miles_worth miles leg (leg_positive most few leg l) (and_l (le (whole 0) miles) (le miles leg) w) (and_r (le (whole 0) miles) (le miles leg) w))

  -- nor are they after a tick.
  pub finite_kept_up_to : (p : Progress) (leg : Float) {speed amount : ℕ} → T (leg_up_to most leg) → Between 1 fastest speed → Between 1 longest_tick amount → T (within_leg p leg)
      → T (finite_miles (progress_after p speed amount leg))
  finite_kept_up_to p leg {speed} {amount} l s a w = within_finite_up_to (progress_after p speed amount leg) leg l (within_kept_up_to p leg l s a w)

  -- From any miles within the leg, ticks that fly `most` miles or more between them leave it flown out,
  pub arrival_up_to : (miles leg : Float) {speed : ℕ} (amounts : List ℕ) → T (leg_up_to most leg) → Between 1 fastest speed → TickAmounts amounts → T (within_leg (Flying miles) leg)
      → most * 4096 ≤ speed * added_up amounts → T (flown_out (after_ticks (Flying miles) speed amounts leg) leg)
  arrival_up_to miles leg amounts l s a w h = arrives most few leg l s miles amounts a w h

  -- and so do 64 times as many ticks of 64, or more of them, at every speed.
  pub arrival_in_ticks_up_to : (miles leg : Float) {speed : ℕ} (n : ℕ) → T (leg_up_to most leg) → Between 1 fastest speed → T (within_leg (Flying miles) leg) → 64 * most ≤ n
      → T (flown_out (after_ticks (Flying miles) speed (replicate n longest_tick) leg) leg)
  arrival_in_ticks_up_to miles leg {speed} n l s w h =
      let slowest : most * 4096 ≤ n * longest_tick = omega arith in
      arrival_up_to miles leg (replicate n longest_tick) l s (all_same n (record { least = lit≤ tt; most = lit≤ tt })) w
      (subst (λ (z : ℕ). most * 4096 ≤ speed * z) (sym (added_same n longest_tick)) (le_trans (le_of_eq (sym (one-mul (most * 4096)))) (mul-le-mul s.least slowest)))

-- The same on every legal leg. Within the leg stays within the leg.
pub within_kept : (p : Progress) (leg : Float) {speed amount : ℕ} → T (legal_leg leg) → Between 1 fastest speed
    → Between 1 longest_tick amount → T (within_leg p leg) → T (within_leg (progress_after p speed amount leg) leg)
within_kept = within_kept_up_to longest_leg_miles (lit< tt)

-- The miles waited stay between 0 and the most.
pub waited_kept : (p : Progress) (leg waited : Float) {speed amount : ℕ} → T (legal_leg leg) → Between 1 fastest speed → Between 1 longest_tick amount → T (within_leg p leg) → T (waited_within waited)
    → T (waited_within (waited_with p waited speed amount leg))
waited_kept = waited_kept_up_to longest_leg_miles (lit< tt)

-- Flown out stays flown out.
pub flown_out_kept : (p : Progress) (leg : Float) {speed amount : ℕ} → T (legal_leg leg) → Between 1 fastest speed
    → Between 1 longest_tick amount → T (flown_out p leg) → T (flown_out (progress_after p speed amount leg) leg)
flown_out_kept = flown_out_kept_up_to longest_leg_miles (lit< tt)

-- Miles within the leg are neither a NaN nor an infinity,
pub within_finite : (p : Progress) (leg : Float) → T (legal_leg leg) → T (within_leg p leg) → T (finite_miles p)
within_finite = within_finite_up_to longest_leg_miles (lit< tt)

-- nor are they after a tick.
pub finite_kept : (p : Progress) (leg : Float) {speed amount : ℕ} → T (legal_leg leg) → Between 1 fastest speed
    → Between 1 longest_tick amount → T (within_leg p leg) → T (finite_miles (progress_after p speed amount leg))
finite_kept = finite_kept_up_to longest_leg_miles (lit< tt)

-- From any miles within the leg, ticks that fly 64 miles (262144 of the 4096ths) or more between them leave it flown out.
pub arrival : (miles leg : Float) {speed : ℕ} (amounts : List ℕ) → T (legal_leg leg) → Between 1 fastest speed
    → TickAmounts amounts → T (within_leg (Flying miles) leg) → 262144 ≤ speed * added_up amounts
    → T (flown_out (after_ticks (Flying miles) speed amounts leg) leg)
arrival = arrival_up_to longest_leg_miles (lit< tt)

-- So as many ticks of 64 as the leg has 64ths of a mile, or more of them, always do.
pub arrival_in_ticks : (miles leg : Float) {speed : ℕ} (n : ℕ) → T (legal_leg leg) → Between 1 fastest speed → T (within_leg (Flying miles) leg) → 64 * longest_leg_miles ≤ n
    → T (flown_out (after_ticks (Flying miles) speed (replicate n longest_tick) leg) leg)
arrival_in_ticks = arrival_in_ticks_up_to longest_leg_miles (lit< tt)

-- ---- 3. The own leg after a miss (02, 2.7)

-- From any miles within a legal leg of final, with a legal missed leg, it is from 1/64 of a mile to 128 miles, on the grid or off it: rounding keeps the order.
pub leg_after_miss_legal : (missed final : Float) (p : Progress) → T (legal_leg missed) → T (legal_leg final) → T (within_leg p final) → T (legal_leg_after_miss (leg_after_miss missed p final))
unfolding leg_after_miss
leg_after_miss_legal missed final Waiting l r w = leg_ahead missed final l (whole_leg final r)
leg_after_miss_legal missed final (Flying miles) l r w = leg_ahead missed (sub binary64 final miles) l
    (left_under miles final r (and_l (le (whole 0) miles) (le miles final) w) (and_r (le (whole 0) miles) (le miles final) w))

-- With a missed leg of j / 4096 miles and m / 4096 miles flown of k / 4096 it is exactly (j + (k - m)) / 4096 miles.
pub leg_after_miss_exact : (missed final : Float) (p : Progress) (j k m : ℕ) → Exactly missed j → Exactly final k
    → FlownExactly p m → m ≤ k → j + k < 2 ^ 53 → Exactly (leg_after_miss missed p final) (j + (k - m))
unfolding leg_after_miss
leg_after_miss_exact missed final Waiting j k m h g f under few = absurd f
leg_after_miss_exact missed final (Flying miles) j k m h g f under few = ahead_grid missed (sub binary64 final miles) j (k - m) h (left_grid miles final k m g f under (omega arith)) (omega arith)

-- On a leg of an aircraft's own `most_ticks` ticks of 64, or more of them, always leave it flown out.
pub arrival_in_most_ticks : (miles leg : Float) {speed : ℕ} (n : ℕ) → T (legal_leg_after_miss leg) → Between 1 fastest speed → T (within_leg (Flying miles) leg) → most_ticks ≤ n
    → T (flown_out (after_ticks (Flying miles) speed (replicate n longest_tick) leg) leg)
arrival_in_most_ticks = arrival_in_ticks_up_to longest_own_leg_miles (lit< tt)

-- ---- 4. On any leg at all

-- A tick makes nobody fly, and nobody wait.
pub flying_kept : (p : Progress) (speed amount : ℕ) (leg : Float) → flying (progress_after p speed amount leg) ≡ flying p
flying_kept Waiting speed amount leg = refl
flying_kept (Flying miles) speed amount leg = refl
