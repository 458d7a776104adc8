-- Demand 3: what holds after every list of requests from an empty field (01, "Any list of requests").
use Rattle.std.specs.Prelude.{◌≡◌, Bool, not, ◌||◌, List, ℕ, ◌+◌, ◌≤◌, ◌<◌, T, eqb}
use Rattle.limits.specs.Limits.{most_moves}
use Rattle.request.specs.Input.{within}
use Rattle.request.specs.declared.Request.{Request}
use Rattle.field.specs.declared.Field.{Field}
use Rattle.field.specs.Airspace.{in_zone, leg_flown_out, zones_from}
use Rattle.questions.specs.Counts.{how_many, present_on, present_for, in_operation, in_area, per_fix}
use Rattle.field.specs.Lists.{every}
use Rattle.rules.specs.declared.Answer.{Answer}
use Rattle.rules.specs.Step.{step_of}
use Rattle.rules.specs.Start.{empty_start}
use Rattle.rules.specs.Play.{field_after, played, of_desk, accepted, adds_moves, let_in, taxied_off, exited_from, moves}

-- no answer in the list has the number
abbrev pub never_answers : ℕ → List (Request × Answer) → Bool
never_answers number ps = every (λ p. not (eqb p.1.number number)) ps

-- everyone in zones 7 to 12 is at the end of its own leg (01, "Any list of requests"; 02, 2.7)
unfoldable pub all_flown_out : Field → Bool
all_flown_out f = every (λ z. every leg_flown_out (in_zone f z)) (zones_from 7 6)

-- whether a kind is one of 3 to 8 and 11: every move but an exit and a miss
abbrev pub moves_on : ℕ → Bool
moves_on kind = within 3 8 kind || eqb kind 11

-- somebody can go on: a request of such a kind that the field accepts
pub record MovesOn (f : Field) : Type 0 where
  pub request : Request
  pub kind : T (moves_on request.kind)
  pub accepted : (step_of f request).answer.number ≡ 0

-- however a list goes on from the field, as long as it accepts no entry and no miss, it has at most n moves
abbrev pub AtMostMoves : ℕ → Field → Type 0
AtMostMoves n f = (more : List Request) → accepted adds_moves (played f more) ≡ 0 → moves (played f more) ≤ n

-- what holds of the answers to a list of requests and of the field f after it
pub record Demand3Of (answers : List (Request × Answer)) (f : Field) : Type 0 where
  -- no request is refused by 10 or by 25
  pub no_10 : T (never_answers 10 answers)
  pub no_25 : T (never_answers 25 answers)
  -- at most four are in the operation area, two in the area of a side, two with the same fix, and one in a holding
  pub operation : in_operation f ≤ 4
  pub areas : (side : ℕ) → T (within 1 2 side) → in_area f side ≤ 2
  pub fixes : (side : ℕ) → T (within 1 2 side) → per_fix f side ≤ 2
  pub holdings : (zone : ℕ) → T (within 1 4 zone) → how_many f zone ≤ 1
  -- everyone who was let in has taxied off, has exited, or is present
  pub balance : let_in answers ≡ taxied_off answers + exited_from answers + present_on f
  -- and so for each desk by itself, an aircraft counting for the desk that let it in (02, 2.10)
  pub balance_each : (desk : ℕ) → let_in (of_desk desk answers) ≡ taxied_off (of_desk desk answers) + exited_from (of_desk desk answers) + present_for f desk
  -- where somebody is present and all have flown their legs out, somebody can go on
  pub never_stuck : 0 < present_on f → T (all_flown_out f) → MovesOn f
  -- until somebody enters or misses there are at most 27 moves (02, 2.14; 01, "Any list of requests", has 29)
  pub few_moves : AtMostMoves most_moves f

-- demand 3: that holds of every list of requests, from every empty field that a list may start from
abbrev pub Demand3 : Type 0
Demand3 = (f : Field) → T (empty_start f) → (rs : List Request) → Demand3Of (played f rs) (field_after f rs)
