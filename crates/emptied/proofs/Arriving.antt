-- Ticks bring everyone to the end of its leg: so many of the longest, from any field within the bounds. Assumes nothing.
use mathlib.Core.Path.{◌≡◌, sym, subst}
use mathlib.Core.Bool.{Bool, true, not, ◌&&◌}
use mathlib.Core.List.{List, [], ◌∷◌}
use Prim.Native.Nat.{ℕ, zero, suc, ◌+◌, ◌≤◌, ◌<◌}
use native.Mathlib.Omega.{arith}
use lib.Dec.{T, leb, leb→le, le→leb}
use lib.Ieee.{Float}
use lib.Ieee.Fits.{and_i, and_l, and_r}
use lib.ListN.{replicate}
use Rattle.limits.specs.Limits.{longest_tick, most_ticks, fastest}
use Rattle.leg.specs.Progress.{within_leg, flown_out, legal_leg_after_miss}
use Rattle.leg.specs.Ticks.{Between, after_ticks}
use Rattle.leg.specs.declared.Progress.{Progress}
use Rattle.leg.specs.declared.Progress.TheVariants.{Waiting, Flying}
use Rattle.leg.proofs.ProgressLaws.{arrival_in_most_ticks}
use Rattle.field.specs.declared.Aircraft.{Aircraft}
use Rattle.field.specs.declared.Field.{Field}
use Rattle.field.specs.Airspace.{is_flying_zone, in_zone, leg_flown_out, zones_from, is_side, everywhere}
use Rattle.field.specs.Lists.{every}
use Rattle.field.proofs.TestLaws.{passed, if_true, every_from}
use Rattle.bounds.specs.Bounds.{within_bounds}
use Rattle.fits.specs.Fits.{is_waiting, fits_zone, legal_legs, bound_g}
use Rattle.tick.specs.Tick.{ticked_aircraft, ticked}
use Rattle.laws.proofs.BoundLaws.{within_each}
use Rattle.laws.proofs.Fits.{fits_parts, own_legal}
use Rattle.laws.proofs.TickLaws.{ticked_at, queue_ticked, every_then}
use Rattle.demand.specs.Demand.{all_flown_out}

-- after k ticks of the longest, an aircraft has flown its leg out
abbrev flown_after : ℕ → Aircraft → Bool
flown_after k a = flown_out (after_ticks a.progress a.speed (replicate k longest_tick) a.leg) a.leg

-- everyone who flies has
abbrev pub FlownAfter : ℕ → Field → Type 0
FlownAfter k f = (z : ℕ) → T (is_flying_zone z) → T (every (flown_after k) (in_zone f z))

-- of each of a list, what follows of each
each_then : {A : Type 0} (p q : A → Bool) → ((a : A) → T (p a) → T (q a)) → (l : List A) → T (every p l) → T (every q l)
each_then p q h [] t = tt
each_then p q h (a ∷ l) t = and_i (q a) (every q l) (h a (and_l (p a) (every p l) t)) (each_then p q h l (and_r (p a) (every p l) t))

-- of zones one after the other
each_zone_then : (p : ℕ → Bool) (k n : ℕ) → ((z : ℕ) → k ≤ z → z < k + n → T (p z)) → T (every p (zones_from k n))
each_zone_then p k zero h = tt
each_zone_then p k (suc n) h = and_i (p k) (every p (zones_from (suc k) n)) (h k (omega arith) (omega arith)) (each_zone_then p (suc k) n (λ z l u. h z (omega arith) (omega arith)))

-- ---- from any field within the bounds
arrives : (leg : Float) (p : Progress) {speed : ℕ} (k : ℕ) → T (legal_leg_after_miss leg) → Between 1 fastest speed → T (not (is_waiting p)) → T (within_leg p leg) → most_ticks ≤ k
    → T (flown_out (after_ticks p speed (replicate k longest_tick) leg) leg)
arrives leg Waiting k l s n w h = absurd n
arrives leg (Flying miles) k l s n w h = arrival_in_most_ticks miles leg k l s w h

flying_range : (z : ℕ) → T (is_flying_zone z) → (7 ≤ z) × (z ≤ 12)
unfolding is_flying_zone
flying_range z u = (leb→le 7 z (and_l (leb 7 z) (leb z 12) u), leb→le z 12 (and_r (leb 7 z) (leb z 12) u))

pub all_arrive : (f : Field) → T (within_bounds f) → (k : ℕ) → most_ticks ≤ k → FlownAfter k f
unfolding bound_g
all_arrive f t k h z u =
    let g = (within_each f t).bound_g_is in
    let rest = and_l (fit && is_side f.next) (legal_legs f.legs) g in
    let legal = and_r (fit && is_side f.next) (legal_legs f.legs) g in
    let flown = flying_range z u in
    let here = every_from (λ z. every (fits_zone f.legs z) (in_zone f z)) 1 13 (and_l fit (is_side f.next) rest) z (omega (arith, flown.0)) (omega (arith, flown.1)) in
    each_then (fits_zone f.legs z) (flown_after k)
    (λ a fits. let p = fits_parts f.legs z a fits in arrives a.leg a.progress k (own_legal f.legs legal z u a.leg p.own) p.speeds (p.flies (passed u)) (p.along (passed u)) h)
    (in_zone f z) here
  where
    fit : Bool
    fit = every (λ z. every (fits_zone f.legs z) (in_zone f z)) everywhere

-- ---- one tick less is left after a tick
pub after_tick : (f : Field) (k : ℕ) → FlownAfter (suc k) f → FlownAfter k (ticked f longest_tick)
unfolding ticked_aircraft
after_tick f k h z u =
    let flying : is_flying_zone z ≡ true = passed u in
    subst (λ (l : List Aircraft). T (every (flown_after k) l)) (sym (queue_ticked f longest_tick z))
    (every_then (flown_after (suc k)) (flown_after k) (ticked_at longest_tick z)
    (λ a t. subst (λ (b : Aircraft). T (flown_after k b)) (sym (if_true (ticked_aircraft longest_tick a) a flying)) t)
    (in_zone f z) (h z u))

-- ---- none is left: everyone has flown its leg out
pub all_flown : (f : Field) → FlownAfter 0 f → T (all_flown_out f)
unfolding all_flown_out leg_flown_out is_flying_zone
all_flown f h = each_zone_then (λ z. every leg_flown_out (in_zone f z)) 7 6 (λ z l u. h z (and_i (leb 7 z) (leb z 12) (le→leb 7 z l) (le→leb z 12 (omega arith))))
