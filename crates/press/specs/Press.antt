-- Who goes now (02, 2.6): what the button proposes on a field, and what one press of it does. Definitions only.
use Rattle.std.specs.Prelude.{cond, List, [], ◌∷◌, ◌++◌, map, ℕ, suc, ◌-◌, eqb}
use Rattle.limits.specs.Limits.{longest_tick}
use Rattle.request.specs.Input.{starting_zones}
use Rattle.request.specs.declared.Request.{Request}
use Rattle.field.specs.declared.Field.{Field}
use Rattle.field.specs.Airspace.{zones_from}
use Rattle.questions.specs.Counts.{present_on}
use Rattle.questions.specs.Find.{aircraft_at}
use Rattle.bounds.specs.Bounds.{within_bounds}
use Rattle.rules.specs.declared.Stepped.{Stepped}
use Rattle.rules.specs.Step.{number_of, number_and_zeros, step_of}
use Rattle.press.specs.declared.Proposal.{Proposal}
use Rattle.press.specs.declared.Proposal.TheVariants.{Refused, None, Play}
use Rattle.press.specs.declared.Pressed.{Pressed}

-- ---- the candidates

-- the kinds that the button proposes, in order: taxi, land, final, merge, hold, approach, descend; an exit and a miss are none of them
abbrev pub button_kinds : List ℕ
button_kinds = 8 ∷ 7 ∷ 6 ∷ 5 ∷ 11 ∷ 4 ∷ 3 ∷ []

-- the zones that a kind starts from, in the order of their numbers
abbrev pub zones_of_kind : ℕ → List ℕ
zones_of_kind kind = zones_from (starting_zones kind).0 (suc (starting_zones kind).1 - (starting_zones kind).0)

-- each kind with each of its zones, kind by kind
abbrev pub kinds_and_zones : List ℕ → List (ℕ × ℕ)
kinds_and_zones [] = []
kinds_and_zones (kind ∷ kinds) = map (λ z. (kind, z)) (zones_of_kind kind) ++ kinds_and_zones kinds

-- the candidates in the order in which they are tried: kinds before zones, and zones in number order
unfoldable pub candidates : List (ℕ × ℕ)
candidates = kinds_and_zones button_kinds

-- the request of a kind by the aircraft at the head of zone z, of its own desk (02, 2.10); where nobody is there it names number 0 and desk 0, and the
-- step refuses it
abbrev pub head_move : Field → ℕ × ℕ → Request
head_move f c =
    let a = aircraft_at f c.1 1 in
    record { kind = c.0; side = 0; number = a.number; amount = 0; desk = a.desk }

-- the longest tick, of desk 1 (02, 2.10)
abbrev pub long_tick : Request
long_tick = record { kind = 12; side = 0; number = 0; amount = longest_tick; desk = 1 }

-- ---- what is proposed

-- where no candidate is accepted: the longest tick if somebody is present, else none
abbrev pub tick_or_none : Field → Proposal
tick_or_none f = cond (eqb (present_on f) 0) None (Play long_tick)

-- the first of the candidates that the step accepts; one that it refuses, also by 25, is passed over
abbrev pub first_accepted : Field → List (ℕ × ℕ) → Proposal
first_accepted f [] = tick_or_none f
first_accepted f (c ∷ rest) = cond (eqb (number_of f (head_move f c)) 0) (Play (head_move f c)) (first_accepted f rest)

-- 10 is answered before anything is proposed
unfoldable pub proposal_of : Field → Proposal
proposal_of f = cond (within_bounds f) (first_accepted f candidates) Refused

-- ---- one press

-- what a press does by its proposal: where it refuses the field it answers 10 and zeros, where it says none it answers zeros, and both leave the field as it
-- is; any other press is the step of the request that it proposes
abbrev pub played_by : Field → Proposal → Stepped
played_by f Refused = record { answer = number_and_zeros 10; field = f }
played_by f None = record { answer = number_and_zeros 0; field = f }
played_by f (Play r) = step_of f r

-- the proposal, and what is played of it
abbrev pub pressed_by : Field → Proposal → Pressed
pressed_by f p = record { proposal = p; stepped = played_by f p }

-- one press on a field
unfoldable pub press_of : Field → Pressed
press_of f = pressed_by f (proposal_of f)
