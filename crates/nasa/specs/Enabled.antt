-- The other way round: where a transition of NASA's model leads on from the state of a field, the request for it is accepted as soon as its leg is flown out.
use Rattle.std.specs.Prelude.{◌≡◌, Bool, true, not, ◌&&◌, [], ◌∷◌, ℕ, T, eqb}
use Rattle.limits.specs.Limits.{fastest, desks}
use Rattle.request.specs.Input.{within}
use Rattle.request.specs.declared.Request.{Request}
use Rattle.field.specs.declared.Field.{Field}
use Rattle.field.specs.Airspace.{leg_flown_out}
use Rattle.questions.specs.Find.{place_of, aircraft_at}
use Rattle.rules.specs.Step.{step_of}
use Rattle.order.specs.Model.{Side, num}
use Rattle.nasa.specs.Definitions.{ScaZone, holding3, holding2, lez, maz, base, intermediate, final, runway, SCA}
use Rattle.nasa.specs.Rules.{Transition, zone_number, vertical_entry, lateral_entry, holding_pattern_descend, vertical_approach_initiation, lateral_approach_initiation}
use Rattle.nasa.specs.Rules.{merging, exit, final_segment, landing, taxing, sca_missed_approach, lowest_available_altitude}
use Rattle.nasa.specs.Stands.{state_of}

-- ---- the transitions by name

-- entries, of a side; and those of the first aircraft of a zone
pub data Name : Type 0 where
  vertically laterally : Side → Name
  descends initiates initiates_lateral merges holds : Side → Name
  exits goes_final lands taxies misses : Name

-- the transition of each name
abbrev pub transition : Name → Transition
transition (vertically s) = vertical_entry s
transition (laterally s) = lateral_entry s
transition (descends s) = holding_pattern_descend s
transition (initiates s) = vertical_approach_initiation s
transition (initiates_lateral s) = lateral_approach_initiation s
transition (merges s) = merging s
transition exits = exit
transition goes_final = final_segment
transition lands = landing
transition taxies = taxing
transition misses = sca_missed_approach
transition (holds s) = lowest_available_altitude s

-- ---- the request for each, on a field

-- who enters: a number, a speed, and the desk that asks (02, 2.10)
pub record Entrant : Type 0 where
  pub number : ℕ
  pub speed : ℕ
  pub desk : ℕ

-- an entry at a side
abbrev pub entry_request : Entrant → ℕ → Side → Request
entry_request new kind s = record { kind = kind; side = num s; number = new.number; amount = new.speed; desk = new.desk }

-- a move of the first aircraft of a zone, as its own desk asks it (02, 2.10)
abbrev pub head_request : Field → ℕ → ScaZone → Request
head_request f kind z =
    let a = aircraft_at f (zone_number z) 1 in
    record { kind = kind; side = 0; number = a.number; amount = 0; desk = a.desk }

-- an entry, and a move by whoever is first in the zone of the transition
abbrev pub request_for : Field → Entrant → Name → Request
request_for f new (vertically s) = entry_request new 1 s
request_for f new (laterally s) = entry_request new 2 s
request_for f new (descends s) = head_request f 3 (holding3 s)
request_for f new (initiates s) = head_request f 4 (holding2 s)
request_for f new (initiates_lateral s) = head_request f 4 (lez s)
request_for f new (merges s) = head_request f 5 (base s)
request_for f new exits = head_request f 9 intermediate
request_for f new goes_final = head_request f 6 intermediate
request_for f new lands = head_request f 7 final
request_for f new taxies = head_request f 8 runway
request_for f new misses = head_request f 10 final
request_for f new (holds s) = head_request f 11 (maz s)

-- ---- what the rules ask besides

-- of an entry: a number that is not 0 and that nobody has, a speed that document 01 allows, and desk 1 or 2 (02, 2.10)
abbrev pub may_come : Field → Entrant → Bool
may_come f new = not (eqb new.number 0) && eqb (place_of f new.number).zone 0 && within 1 fastest new.speed && within 1 desks new.desk

-- of a move: the leg of the first aircraft of a zone flown out
abbrev pub flown_out_in : Field → ScaZone → Bool
flown_out_in f z = leg_flown_out (aircraft_at f (zone_number z) 1)

-- what each transition has to wait for: who enters may come, and who merges, exits (02, 2.3), goes to final, lands or holds has flown its leg out
abbrev pub ready : Field → Entrant → Name → Bool
ready f new (vertically s) = may_come f new
ready f new (laterally s) = may_come f new
ready f new (descends s) = true
ready f new (initiates s) = true
ready f new (initiates_lateral s) = true
ready f new (merges s) = flown_out_in f (base s)
ready f new exits = flown_out_in f intermediate
ready f new goes_final = flown_out_in f intermediate
ready f new lands = flown_out_in f final
ready f new taxies = true
ready f new misses = true
ready f new (holds s) = flown_out_in f (maz s)

-- ---- the statement

-- the request for a transition is accepted, and leads to the state that the transition leads to
pub record LeadsTo (f : Field) (r : Request) (s : SCA) : Type 0 where
  pub accepted : (step_of f r).answer.number ≡ 0
  pub leads_to_is : state_of (step_of f r).field ≡ s

-- every transition that leads on from the state of a field is followed so, by any entrant, as soon as what the rules ask besides is given
abbrev pub Enabled : Field → Type 0
Enabled f = (name : Name) (s : SCA) → transition name (state_of f) ≡ s ∷ [] → (new : Entrant) → T (ready f new name) → LeadsTo f (request_for f new name) s
