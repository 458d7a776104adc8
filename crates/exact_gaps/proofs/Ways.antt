-- The way to the threshold of one on the approach, from its account, is exact. Assumes nothing.
use mathlib.Core.Path.{◌≡◌, subst}
use mathlib.Core.Bool.{Bool}
use mathlib.Core.List.{List, [], ◌∷◌}
use Prim.Native.Nat.{ℕ, zero, suc, ◌+◌, ◌-◌, ◌*◌, ◌≤◌, min}
use native.Mathlib.Omega.{arith}
use lib.Dec.{T}
use lib.ListN.{length, get_or}
use lib.Ieee.{Float, binary64, add, eq}
use lib.Ieee.Fits.{and_l, and_r}
use Rattle.limits.specs.Limits.{longest_leg}
use Rattle.leg.specs.Progress.{sixty_fourths, remaining}
use Rattle.leg.specs.Ticks.{Between, Exactly, FlownExactly}
use Rattle.leg.specs.declared.Progress.{Progress}
use Rattle.leg.specs.declared.Progress.TheVariants.{Waiting, Flying}
use Rattle.leg.proofs.Grid.{sixty_fourths_exact}
use Rattle.leg.proofs.Missed.{left_grid, ahead_grid}
use Rattle.field.specs.declared.Aircraft.{Aircraft}
use Rattle.field.specs.Airspace.{nobody, leg_of, is_flying_zone}
use Rattle.field.specs.Lists.{every, Each}
use Rattle.field.proofs.TestLaws.{each_from}
use Rattle.fits.specs.Fits.{leg_fits}
use Rattle.demand.specs.Exact.{WholeLegs, in_miles, zone_leg_in64ths, Flight, Account}
use Rattle.gaps.specs.Gaps.{to_go}
use Rattle.exact_gaps.specs.ExactGaps.{way_from}
use Rattle.exact_gaps.proofs.Signed.{same_parts}

-- ---- one of a queue, by its place from 1
pub each_at : (P : Aircraft → Type 0) (qs : List Aircraft) (place : ℕ) → Each P qs → 1 ≤ place → place ≤ length qs → P (get_or (nobody ∷ qs) place nobody)
each_at P qs zero e low high = absurd (omega arith)
each_at P [] (suc i) e low high = absurd (omega arith)
each_at P (a ∷ qs) (suc zero) e low high = e.0
each_at P (a ∷ qs) (suc (suc i)) e low high = each_at P qs (suc i) e.1 (omega arith) (omega arith)

pub every_at : (p : Aircraft → Bool) (qs : List Aircraft) (place : ℕ) → T (every p qs) → 1 ≤ place → place ≤ length qs → T (p (get_or (nobody ∷ qs) place nobody))
every_at p qs zero e low high = absurd (omega arith)
every_at p [] (suc i) e low high = absurd (omega arith)
every_at p (a ∷ qs) (suc zero) e low high = and_l (p a) (every p qs) e
every_at p (a ∷ qs) (suc (suc i)) e low high = every_at p qs (suc i) (and_r (p a) (every p qs) e) (omega arith) (omega arith)

-- ---- what is left of a leg of k 64ths, of which the smaller of all and n 4096ths is flown
left_exact : (p : Progress) (leg : Float) (k j n : ℕ) → Between 1 longest_leg k → T (eq leg (sixty_fourths k)) → Exactly leg j → FlownExactly p (min j n)
    → Exactly (remaining p leg) (64 * k - min (64 * k) n)
left_exact Waiting leg k j n r e h f = absurd f
left_exact (Flying miles) leg k j n r e h f =
    let same : j ≡ 64 * k = same_parts leg (sixty_fourths k) j (64 * k) h (sixty_fourths_exact k (omega arith)) e in
    let here : Exactly leg (64 * k) = subst (Exactly leg) same h in
    let flown : Exactly miles (min (64 * k) n) = subst (λ (i : ℕ). Exactly miles (min i n)) same f in
    left_grid miles leg (64 * k) (min (64 * k) n) here flown (omega arith) (omega arith)

-- ---- the way from a zone of the approach
module _ (w : WholeLegs) (a : Aircraft) (s : Flight) where
  abbrev Way : ℕ → Type 0
  Way z = T (leg_fits (in_miles w) z a.leg) → Account s z a → Exactly (to_go (in_miles w) z (remaining a.progress a.leg)) (way_from w z (min (64 * zone_leg_in64ths w z) (a.speed * s.ticks)))

  final_exact : Exactly (sixty_fourths w.final_leg) (64 * w.final_leg)
  final_exact = sixty_fourths_exact w.final_leg (let h = w.final_fits in omega arith)

  middle_exact : Exactly (sixty_fourths w.intermediate_leg) (64 * w.intermediate_leg)
  middle_exact = sixty_fourths_exact w.intermediate_leg (let h = w.intermediate_fits in omega arith)

  from_base : (z : ℕ) → T (is_flying_zone z) → T (eq a.leg (sixty_fourths w.base_leg)) → Account s z a
      → Exactly (add binary64 (add binary64 (remaining a.progress a.leg) (sixty_fourths w.intermediate_leg)) (sixty_fourths w.final_leg))
      (64 * w.base_leg - min (64 * w.base_leg) (a.speed * s.ticks) + (64 * w.intermediate_leg + 64 * w.final_leg))
  from_base z f e k =
      let l = 64 * w.base_leg - min (64 * w.base_leg) (a.speed * s.ticks) in
      let bf = w.base_fits in
      let mf = w.intermediate_fits in
      let ff = w.final_fits in
      let left = left_exact a.progress a.leg w.base_leg s.leg (a.speed * s.ticks) w.base_fits e k.leg (k.miles f) in
      let more = ahead_grid (remaining a.progress a.leg) (sixty_fourths w.intermediate_leg) l (64 * w.intermediate_leg) left middle_exact (omega arith) in
      let all =
      ahead_grid (add binary64 (remaining a.progress a.leg) (sixty_fourths w.intermediate_leg))
      (sixty_fourths w.final_leg) (l + 64 * w.intermediate_leg) (64 * w.final_leg) more final_exact (omega arith) in
      let same : l + 64 * w.intermediate_leg + 64 * w.final_leg ≡ l + (64 * w.intermediate_leg + 64 * w.final_leg) = omega arith in
      subst (Exactly (add binary64 (add binary64 (remaining a.progress a.leg) (sixty_fourths w.intermediate_leg)) (sixty_fourths w.final_leg))) same all

  pub way_exact : (z : ℕ) → 9 ≤ z → z ≤ 12 → Way z
  unfolding to_go leg_fits leg_of is_flying_zone
  way_exact z low high = each_from 9 4 Way (from_base 9 tt, (from_base 10 tt, (middle, (last, tt)))) z low (omega arith)
    where
      middle : Way 11
      middle e k =
          let l = 64 * w.intermediate_leg - min (64 * w.intermediate_leg) (a.speed * s.ticks) in
          let mf = w.intermediate_fits in
          let ff = w.final_fits in
          ahead_grid (remaining a.progress a.leg) (sixty_fourths w.final_leg) l (64 * w.final_leg)
          (left_exact a.progress a.leg w.intermediate_leg s.leg (a.speed * s.ticks) w.intermediate_fits e k.leg (k.miles tt)) final_exact (omega arith)

      last : Way 12
      last e k =
          let l = 64 * w.final_leg - min (64 * w.final_leg) (a.speed * s.ticks) in
          let same : l ≡ l + 0 = omega arith in
          subst (Exactly (remaining a.progress a.leg)) same
          (left_exact a.progress a.leg w.final_leg s.leg (a.speed * s.ticks) w.final_fits e k.leg (k.miles tt))
