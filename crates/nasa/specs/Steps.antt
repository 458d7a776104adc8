-- Document 01's requests are the transitions of NASA's model: what is shown of one request on a field.
use Rattle.std.specs.Prelude.{◌≡◌, [], ◌∷◌, ℕ}
use Rattle.request.specs.declared.Request.{Request}
use Rattle.field.specs.declared.Field.{Field}
use Rattle.rules.specs.Step.{by_kind, step_of}
use Rattle.nasa.specs.Rules.{Transition, lateral_entry, holding_pattern_descend, merging, exit, final_segment, landing, taxing, sca_missed_approach, lowest_available_altitude}
use Rattle.nasa.specs.Stands.{side_named, state_of, side_before, entry_above, approach_initiation, Is}

-- the same state again
abbrev pub stays : Transition
stays s = s ∷ []

-- the transition of each kind, of a request: by the side that it names, or that of the zone where its aircraft is; a tick leaves the state
abbrev pub transition_for : ℕ → Field → Request → Transition
transition_for kind f r =
    by_kind kind
    (entry_above (side_named r.side))
    (lateral_entry (side_named r.side))
    (holding_pattern_descend (side_before f r))
    (approach_initiation f r)
    (merging (side_before f r))
    final_segment
    landing
    taxing
    exit
    sca_missed_approach
    (lowest_available_altitude (side_before f r))
    stays

-- the transition of a request, by its kind
abbrev pub transition_of : Field → Request → Transition
transition_of f r = transition_for r.kind f r

-- an accepted request is its transition, and a refused one leaves the state
pub record StepsAs (f : Field) (r : Request) : Type 0 where
  pub accepted : (step_of f r).answer.number ≡ 0 → Is f r (transition_of f r)
  pub refused : ((step_of f r).answer.number ≡ 0 → ⊥) → state_of (step_of f r).field ≡ state_of f
