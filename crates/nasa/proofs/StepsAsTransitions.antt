-- Every request on any field whose arrays have their places: where it is accepted it is the transition of its kind, and where it is refused, or is a tick, the
-- state stays. Assumes nothing.
use mathlib.Core.Path.{◌≡◌, refl, sym, ap, ◌∙◌, subst}
use mathlib.Core.Bool.{cond}
use mathlib.Core.List.{List, [], ◌∷◌, map}
use Prim.Native.Nat.{ℕ, suc}
use lib.Dec.{T, eqb, leb, le→leb}
use lib.Ieee.Fits.{and_i}
use Rattle.request.specs.declared.Request.{Request}
use Rattle.request.proofs.ByKind.{kind_known}
use Rattle.field.specs.declared.Aircraft as field
use Rattle.field.specs.declared.Field.{Field}
use Rattle.field.specs.Airspace.{in_zone, order_of}
use Rattle.edits.specs.Edits.{before}
use Rattle.tick.specs.Tick.{ticked}
use Rattle.rules.specs.Step.{number_of}
use Rattle.rules.specs.Reason.{has_places}
use Rattle.rules.proofs.Checks.{effect_at}
use Rattle.rules.proofs.StepLaws.{number_is, field_refused}
use Rattle.rules.proofs.Refusals.{passes}
use Rattle.field.proofs.TestLaws.{each_operation}
use Rattle.laws.proofs.TickLaws.{ticked_at, number_kept, fix_kept, queue_ticked}
use Rattle.nasa.specs.Definitions.{ScaAircraft}
use Rattle.nasa.specs.Rules.{zone_number}
use Rattle.nasa.specs.Stands.{seen, state_of, Is}
use Rattle.nasa.specs.Steps.{stays, transition_for, transition_of, StepsAs}
use Rattle.nasa.proofs.States.{same_state, as_seen}
use Rattle.nasa.proofs.DescendFinalTaxi.{leads, descend_is, final_is, taxi_is}
use Rattle.nasa.proofs.ApproachMergeTransitions.{approach_is, merge_is}
use Rattle.nasa.proofs.Holding.{hold_is}
use Rattle.nasa.proofs.LandExitTransitions.{land_is, exit_is}
use Rattle.nasa.proofs.MissTransition.{miss_is}
use Rattle.nasa.proofs.EntryTransitions.{entry_is_lem, lateral_is}

-- ---- a tick
seen_ticked : (f : Field) (amount z : ℕ) (xs : List field.Aircraft) → map (seen f z) (map (ticked_at amount z) xs) ≡ map (seen f z) xs
seen_ticked f amount z [] = refl
seen_ticked f amount z (x ∷ xs) =
    let order = order_of f.sequence in
    let y = ticked_at amount z x in
    ap (λ (n : ℕ). as_seen (cond (eqb z 13) 1 (suc (before n order))) y.fix ∷ map (seen f z) (map (ticked_at amount z) xs)) (number_kept amount z x)
    ∙ ap (λ (n : ℕ). as_seen (cond (eqb z 13) 1 (suc (before x.number order))) n ∷ map (seen f z) (map (ticked_at amount z) xs)) (fix_kept amount z x)
    ∙ ap (λ (l : List ScaAircraft). seen f z x ∷ l) (seen_ticked f amount z xs)

-- a tick leaves the state of any field
pub ticked_state : (f : Field) (amount : ℕ) → state_of (ticked f amount) ≡ state_of f
unfolding state_of ticked
ticked_state f amount =
    same_state (λ z. ap (map (seen f (zone_number z))) (queue_ticked f amount (zone_number z)) ∙ seen_ticked f amount (zone_number z) (in_zone f (zone_number z))) refl refl

tick_is : (f : Field) (r : Request) → r.kind ≡ 12 → number_of f r ≡ 0 → Is f r stays
tick_is f r k e = leads f r stays e (ticked_state f r.amount) (effect_at f r k) refl

-- ---- the kind by its number
of_kind : (f : Field) (h : T (has_places f)) (r : Request) → number_of f r ≡ 0 → Is f r (transition_of f r)
of_kind f h r e =
    let known = kind_known r (passes f r e).input in
    each_operation (λ k. r.kind ≡ k → Is f r (transition_of f r)) (
      at 1 (entry_is_lem f h r),
      at 2 (lateral_is f h r),
      at 3 (descend_is f h r),
      at 4 (approach_is f h r),
      at 5 (merge_is f h r),
      at 6 (final_is f h r),
      at 7 (land_is f h r),
      at 8 (taxi_is f h r),
      at 9 (exit_is f h r),
      at 10 (miss_is f h r),
      at 11 (hold_is f h r),
      at 12 (tick_is f r),
    ) r.kind (and_i (leb 1 r.kind) (leb r.kind 12) (le→leb 1 r.kind known.low) (le→leb r.kind 12 known.high)) refl
  where
    at : (k : ℕ) → (r.kind ≡ k → number_of f r ≡ 0 → Is f r (transition_for k f r)) → r.kind ≡ k → Is f r (transition_of f r)
    at k p q = subst (λ (j : ℕ). Is f r (transition_for j f r)) (sym q) (p q e)

-- ---- every request
pub steps_as : (f : Field) → T (has_places f) → (r : Request) → StepsAs f r
steps_as f h r =
    record {
      accepted = λ e. of_kind f h r (sym (number_is f r) ∙ e);
      refused = λ e. ap state_of (field_refused f r (λ q. e (number_is f r ∙ q)));
    }
