-- Nothing is rounded on any field within the bounds whose aircraft have exact miles, and so on every field that requests and steps back reach from an empty one with
-- legs in whole 64ths. Assumes nothing.
use mathlib.Core.Path.{◌≡◌, sym, subst, subst⁻¹}
use mathlib.Core.Bool.{Bool, ◌&&◌}
use mathlib.Core.List.{List, [], ◌∷◌}
use Prim.Native.Nat.{ℕ, ◌+◌, ◌*◌, ◌^◌, ◌<◌, min}
use native.Mathlib.Omega.{arith}
use lib.Dec.{T, leb, leb→le, le→leb, lit<, lit≤}
use lib.Ieee.{Float}
use lib.Ieee.Fits.{and_i, and_l, and_r}
use Rattle.limits.specs.Limits.{longest_tick, longest_own_leg_miles}
use Rattle.leg.specs.Progress.{whole, sixty_fourths, legal_leg_after_miss}
use Rattle.leg.specs.Ticks.{Between, Exactly, LegIn4096ths, FlownExactly}
use Rattle.leg.specs.declared.Progress.{Progress}
use Rattle.leg.specs.declared.Progress.TheVariants.{Waiting, Flying}
use Rattle.leg.proofs.Floats.{value→worth, worth_of_le}
use Rattle.leg.proofs.Grid.{whole_value, sixty_fourths_value}
use Rattle.leg.proofs.Bounds.{at_least, at_most}
use Rattle.leg.proofs.ProgressLaws.{sixty_fourths_in_4096ths}
use Rattle.request.specs.Input.{within}
use Rattle.request.specs.declared.Request.{Request}
use Rattle.field.specs.declared.Aircraft.{Aircraft}
use Rattle.field.specs.declared.Legs.{Legs}
use Rattle.field.specs.declared.Field.{Field}
use Rattle.field.specs.Airspace.{everywhere, is_flying_zone, is_side, in_zone}
use Rattle.field.specs.Lists.{every, Each}
use Rattle.fits.specs.Fits.{fits_zone, bound_g, legal_legs}
use Rattle.bounds.specs.Bounds.{within_bounds}
use Rattle.laws.proofs.BoundLaws.{within_each}
use Rattle.laws.proofs.Fits.{fits_parts, all_fit, own_legal}
use Rattle.rules.specs.Start.{empty_start}
use Rattle.rules.specs.Play.{field_after, played}
use Rattle.demand.specs.Exact.{WholeLegs, in_miles, most_in4096ths, past_in, Flight, no_flight, flight_after, Account}
use Rattle.demand.proofs.Exact.{exactness}
use Rattle.gaps.specs.Gaps.{on_approach, way_of}
use Rattle.exact_gaps.specs.ExactGaps.{way_in4096ths}
use Rattle.exact_gaps.proofs.ExactGaps.{reached_within, legs_are, way_is, way_few}
use Rattle.history.specs.declared.History.{History}
use Rattle.history.specs.History.{history_at_start}
use Rattle.taken_back.specs.Calls.{Call, after_calls, history_of}
use Rattle.taken_back.proofs.Calls.{taken_back}
use Rattle.taken_back.proofs.Follows.{field_now}
use Rattle.taken_back.proofs.Starts.{starts}
use Rattle.proof_rounding.specs.NothingRounded.{ExactFlight, ExactLegs, NothingRoundedOn, NothingRounded}
use Rattle.proof_rounding.proofs.ExactOperations.{difference_exact, whole_64ths_exact, tick_exact, rest_exact}

-- ---- the legs
legs_exact : (w : WholeLegs) → ExactLegs w
legs_exact w =
    let m = w.missed_fits in
    let b = w.base_fits in
    let i = w.intermediate_fits in
    let f = w.final_fits in
    record {
      missed = whole_64ths_exact w.missed_leg (omega arith);
      base = whole_64ths_exact w.base_leg (omega arith);
      intermediate = whole_64ths_exact w.intermediate_leg (omega arith);
      final = whole_64ths_exact w.final_leg (omega arith);
    }

-- an own leg of k / 4096 miles that is from 1/64 of a mile to 128 miles
own_range : (leg : Float) (k : ℕ) → T (legal_leg_after_miss leg) → Exactly leg k → Between 64 (4096 * longest_own_leg_miles) k
own_range leg k l h =
    let low = worth_of_le (sixty_fourths 1) leg 1 64 k 4096 (sixty_fourths_value 1 (lit< tt)) (value→worth leg k 4096 h) (at_least longest_own_leg_miles (lit< tt) leg l) in
    let high =
    worth_of_le leg (whole longest_own_leg_miles) k 4096 longest_own_leg_miles 1 h (value→worth (whole longest_own_leg_miles) longest_own_leg_miles 1 (whole_value longest_own_leg_miles (lit≤ tt)))
    (at_most longest_own_leg_miles (lit< tt) leg l) in
    record { least = omega arith; most = omega arith }

each_with : {P Q : Aircraft → Type 0} (p : Aircraft → Bool) (l : List Aircraft) → ((a : Aircraft) → T (p a) → P a → Q a) → T (every p l) → Each P l → Each Q l
each_with p [] h t e = tt
each_with p (a ∷ l) h t e = (h a (and_l (p a) (every p l) t) e.0, each_with p l h (and_r (p a) (every p l) t) e.1)

-- ---- any field within the bounds with these legs on which everyone has exact miles, by its flight, and everyone on the approach an exact way
module _ (w : WholeLegs) (f : Field) (bounded : T (within_bounds f)) (same_legs : f.legs ≡ in_miles w) (s : ℕ → Flight)
    (accounts : (zone : ℕ) → T (within 1 13 zone) → Each (λ a. Account (s a.number) zone a) (in_zone f zone)) where
  legal : T (legal_legs f.legs)
  unfolding bound_g
  legal = and_r (every (λ z. every (fits_zone f.legs z) (in_zone f z)) everywhere && is_side f.next) (legal_legs f.legs) (within_each f bounded).bound_g_is

  flight_exact : (z : ℕ) → T (is_flying_zone z) → (a : Aircraft) → T (fits_zone f.legs z a) → Account (s a.number) z a → ExactFlight f.legs a a.progress
  flight_exact z u a t c = subst (λ (l : Legs). ExactFlight l a a.progress) (sym same_legs) (go a.progress (c.miles u))
    where
      go : (p : Progress) → FlownExactly p (min (s a.number).leg (a.speed * (s a.number).ticks)) → ExactFlight (in_miles w) a p
      go Waiting h = absurd h
      go (Flying miles) h =
          let k = (s a.number).leg in
          let fit = fits_parts f.legs z a t in
          let range = own_range a.leg k (own_legal f.legs legal z u a.leg fit.own) c.leg in
          let m = min k (a.speed * (s a.number).ticks) in
          let n = min most_in4096ths ((s a.number).before + past_in z k (a.speed * (s a.number).ticks)) in
          let long : LegIn4096ths a.leg k = record { exact = c.leg; some = omega arith; few = omega arith } in
          let mf = w.missed_fits in
          let nf = w.intermediate_fits in
          let ff = w.final_fits in (
            (λ amount fits.
                let may : Between 1 longest_tick amount = record { least = omega arith; most = omega arith } in
                tick_exact fit.speeds may miles a.leg a.waited k m n long h c.waited (omega arith) (omega arith) (omega arith)),
            rest_exact (in_miles w) (64 * w.missed_leg) (64 * w.intermediate_leg) (64 * w.final_leg) (sixty_fourths_in_4096ths w.missed_leg mf).exact
                (sixty_fourths_in_4096ths w.intermediate_leg nf).exact (sixty_fourths_in_4096ths w.final_leg ff).exact miles a.leg k m c.leg h (omega arith) (omega arith) (omega arith),
          )

  -- the way of each number on the approach, in 4096ths
  module _ (way : ℕ → ℕ) (ways : (n : ℕ) → T (on_approach f n) → Exactly (way_of f n) (way n)) (few : (n : ℕ) → way n < 2 ^ 53) where
    pub on_field : NothingRoundedOn f
    unfolding is_flying_zone
    on_field =
        record {
          flights =
              λ z u.
              let low = leb→le 7 z (and_l (leb 7 z) (leb z 12) u) in
              let high = leb→le z 12 (and_r (leb 7 z) (leb z 12) u) in
              each_with (fits_zone f.legs z) (in_zone f z) (flight_exact z u) (all_fit f (within_each f bounded).bound_g_is z (omega arith) (omega arith))
              (accounts z (and_i (leb 1 z) (leb z 13) (le→leb 1 z (omega arith)) (le→leb z 13 (omega arith))));
          gaps = λ l m onl onm. difference_exact (way_of f m) (way_of f l) (way m) (way l) (ways m onm) (ways l onl) (few m) (few l);
          spacing_64ths =
              λ spacing t.
              let most = leb→le spacing 512 (and_r (leb 1 spacing) (leb spacing 512) t) in
              whole_64ths_exact spacing (omega arith);
        }

-- ---- every field that is reached
after_requests : (w : WholeLegs) (f : Field) → T (empty_start f) → f.legs ≡ in_miles w → (rs : List Request) → NothingRoundedOn (field_after f rs)
after_requests w f t l rs =
    on_field w (field_after f rs) (reached_within w f t l rs) (legs_are w f t l rs) (λ n. flight_after w n no_flight (played f rs)) (exactness w f t l rs)
    (way_in4096ths w f rs) (way_is w f t l rs) (way_few w f t l rs)

after_calls_lem : (w : WholeLegs) (start : History) → T (history_at_start start) → start.now.field.legs ≡ in_miles w
    → (cs : List Call) → NothingRoundedOn (after_calls start cs).now.field
after_calls_lem w start t l cs =
    let f = start.now.field in
    let rs = history_of start cs in
    subst⁻¹ NothingRoundedOn (field_now f (after_calls start cs) rs (taken_back start t cs).follows) (after_requests w f (starts start t).empty l rs)

pub nothing_rounded : NothingRounded
nothing_rounded = record { legs = legs_exact; requests = after_requests; calls = after_calls_lem }
