-- The button held down (02, 2.6): the requests that it plays, what it reports at the end, and the line of each move. Definitions only.
use Rattle.std.specs.Prelude.{cond, List, [], ◌∷◌, ◌++◌, ℕ, zero, suc, eqb, length}
use Rattle.limits.specs.Limits.{most_presses}
use Rattle.request.specs.Input.{is_tick, first_refused}
use Rattle.request.specs.declared.Request.{Request}
use Rattle.field.specs.declared.Field.{Field}
use Rattle.questions.specs.Counts.{present_on}
use Rattle.bounds.specs.Bounds.{within_bounds}
use Rattle.rules.specs.declared.Answer.{Answer}
use Rattle.rules.specs.Step.{step_of}
use Rattle.rules.specs.Play.{field_after, played}
use Rattle.text.specs.Text.{line_of}
use Rattle.press.specs.declared.Proposal.{Proposal}
use Rattle.press.specs.declared.Proposal.TheVariants.{Refused, None, Play}
use Rattle.press.specs.declared.Ending.{Ending}
use Rattle.press.specs.declared.Ending.TheVariants as ending
use Rattle.press.specs.declared.Held.{Held}
use Rattle.press.specs.Press.{proposal_of}

-- ---- the requests that are played

-- a press that proposes a request plays it, and then come the others; one that says none, or refuses the field, is the last and plays nothing
abbrev pub then_pressed : Proposal → (Request → List Request) → List Request
then_pressed Refused others = []
then_pressed None others = []
then_pressed (Play r) others = r ∷ others r

-- the requests of the presses on a field, one after the other, n of them at the most
unfoldable pub presses : ℕ → Field → List Request
presses zero f = []
presses (suc n) f = then_pressed (proposal_of f) (λ r. presses n (step_of f r).field)

-- those of the button held down: until it says none, or until so many presses have each played a request
unfoldable pub held_requests : Field → List Request
held_requests f = presses most_presses f

-- ---- what it reports

-- the number of each ending (02, 2.6): 10 where a bound is broken, before anything is proposed; 0 where it ends with none, and where it is spent
abbrev pub ending_number : Ending → ℕ
ending_number ending.Refused = 10
ending_number ending.None = 0
ending_number ending.Spent = 0

-- the number of the button held down on a field: 10 where that breaks a bound, else 0
abbrev pub number_held : Field → ℕ
number_held f = first_refused ((10, within_bounds f) ∷ [])

-- none if nobody is on the field, else spent
abbrev pub ending_on : Field → Ending
ending_on f = cond (eqb (present_on f) 0) ending.None ending.Spent

-- how it ends, how many requests were played, and the field; a field that breaks a bound is refused and stays as it is
unfoldable pub held_of : Field → Held
held_of f =
    record {
      ending = cond (within_bounds f) (ending_on (field_after f (held_requests f))) ending.Refused;
      played = length (held_requests f);
      field = field_after f (held_requests f);
    }

-- ---- the line of each move

-- of a press that played a move, its count, the kind, and the answer's aircraft, zone, fix, leader and along; a tick has no line
abbrev pub press_line : ℕ → Request × Answer → List ℕ
press_line press p =
    cond (is_tick p.0.kind) []
    (line_of (press ∷ p.0.kind ∷ p.1.aircraft ∷ p.1.zone ∷ p.1.fix ∷ p.1.leader ∷ p.1.along ∷ []))

-- the lines of presses one after the other, ticks counted too
abbrev pub press_lines : ℕ → List (Request × Answer) → List ℕ
press_lines press [] = []
press_lines press (p ∷ ps) = press_line press p ++ press_lines (suc press) ps

-- those of the button held down; presses count from 1
unfoldable pub held_lines : Field → List ℕ
held_lines f = press_lines 1 (played f (held_requests f))
