-- The state of NASA's model that a field stands for: numbers, speeds, miles flown and waited, legs and desks are left out.
use Rattle.std.specs.Prelude.{◌≡◌, true, false, cond, [], ◌∷◌, map, ℕ, suc, eqb}
use Rattle.request.specs.Input.{within}
use Rattle.request.specs.declared.Request.{Request}
use Rattle.field.specs.declared.Aircraft as field
use Rattle.field.specs.declared.Field.{Field}
use Rattle.field.specs.Airspace.{in_zone, order_of, order_length}
use Rattle.field.specs.Airspace as airspace
use Rattle.edits.specs.Edits.{before}
use Rattle.order.specs.Model.{Side, right_side, left_side}
use Rattle.rules.specs.Kinds.{zone_before}
use Rattle.rules.specs.Step.{step_of}
use Rattle.nasa.specs.Definitions.{ScaAircraft, holding3, SCA}
use Rattle.nasa.specs.Rules.{Transition, in_turn, nobody_in, zone_number, vertical_entry, holding_pattern_descend, vertical_approach_initiation, lateral_approach_initiation}

-- the side with a number, right for 1 and left for 2 (01, "The boxes")
abbrev pub side_named : ℕ → Side
side_named n = elim (eqb n 1) [ true ↦ right_side | false ↦ left_side ]

-- the sequence number of one in zone z: its place in the landing sequence, from 1; and 1 on the runway, with which it has landed
abbrev pub seq_in : Field → ℕ → field.Aircraft → ℕ
seq_in f z a = cond (eqb z airspace.runway) 1 (suc (before a.number (order_of f.sequence)))

-- one in zone z, as the model has it
abbrev pub seen : Field → ℕ → field.Aircraft → ScaAircraft
seen f z a = record { seq = seq_in f z a; mahf = side_named a.fix }

-- the state that a field stands for: the queue of each zone; the next fix; and the sequence number after the last
unfoldable pub state_of : Field → SCA
state_of f =
    record {
      queue = λ z. map (seen f (zone_number z)) (in_zone f (zone_number z));
      nextmahf = side_named f.next;
      nextseq = suc (order_length f.sequence);
    }

-- the side of the zone where a request's aircraft is
abbrev pub side_before : Field → Request → Side
side_before f r = side_named (airspace.side_of (zone_before f r))

-- an entry to 3000 of a side (02, 2.5): where somebody is there, that one descends, and then the entry
abbrev pub entry_above : Side → Transition
entry_above side s = cond (nobody_in s (holding3 side)) (vertical_entry side s) (in_turn (holding_pattern_descend side) (vertical_entry side) s)

-- the approach initiation of a request's aircraft: that of a lateral entry from there, else that from 2000
abbrev pub approach_initiation : Field → Request → Transition
approach_initiation f r = cond (within 5 6 (zone_before f r)) (lateral_approach_initiation (side_before f r)) (vertical_approach_initiation (side_before f r))

-- a request is a transition on a field: that transition leads from the state before it to the state after it, and nowhere else
abbrev pub Is : Field → Request → Transition → Type 0
Is f r transition = transition (state_of f) ≡ state_of (step_of f r).field ∷ []
