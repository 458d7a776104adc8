-- Numbers renamed one for one (02, 2.10): what that makes of a field, of a request, of an answer and of a step. Definitions only.
use Rattle.std.specs.Prelude.{◌≡◌, cond, map, ℕ, eqb}
use Rattle.request.specs.declared.Request.{Request}
use Rattle.field.specs.declared.Aircraft.{Aircraft}
use Rattle.field.specs.declared.Zone.{Zone}
use Rattle.field.specs.declared.Sequence.{Sequence}
use Rattle.field.specs.declared.Field.{Field}
use Rattle.rules.specs.declared.Answer.{Answer}
use Rattle.rules.specs.declared.Stepped.{Stepped}

-- what is asked of new numbers: no two numbers become one, and 0, which is nobody's number, stays 0; so no other number becomes 0 (02, 2.10). New numbers
-- for those of 16 bits are such, where every larger number stays
pub record Renaming (π : ℕ → ℕ) : Type 0 where
  pub apart : (m n : ℕ) → π m ≡ π n → m ≡ n
  pub zero : π 0 ≡ 0

-- two numbers exchanged, such as an aircraft's with one that nobody has: the plainest new numbers
abbrev pub exchanged : ℕ → ℕ → ℕ → ℕ
exchanged m n k = cond (eqb k m) n (cond (eqb k n) m k)

-- ---- the field

-- an aircraft with its new number; all else stays
abbrev pub renamed_aircraft : (ℕ → ℕ) → Aircraft → Aircraft
renamed_aircraft π a = record { number = π a.number; fix = a.fix; speed = a.speed; progress = a.progress; waited = a.waited; leg = a.leg; desk = a.desk }

-- a zone, every place of it; past the length of a zone within the bounds that changes nothing, since 0 stands there
abbrev pub renamed_zone : (ℕ → ℕ) → Zone → Zone
renamed_zone π q = record { aircraft = map (renamed_aircraft π) q.aircraft; length = q.length }

-- the landing sequence, every place of it, in the same way (02, 2.10)
abbrev pub renamed_sequence : (ℕ → ℕ) → Sequence → Sequence
renamed_sequence π s = record { numbers = map π s.numbers; length = s.length }

-- the field: every zone and the sequence; the next fix and the legs stay
abbrev pub renamed_field : (ℕ → ℕ) → Field → Field
renamed_field π f =
    record { zones = map (renamed_zone π) f.zones; sequence = renamed_sequence π f.sequence; next = f.next; legs = f.legs }

-- ---- requests and answers

-- a request, refused or not (02, 2.10): the number of its aircraft; that of a tick is 0 and stays so
abbrev pub renamed_request : (ℕ → ℕ) → Request → Request
renamed_request π r = record { kind = r.kind; side = r.side; number = π r.number; amount = r.amount; desk = r.desk }

-- an answer: the aircraft, its leader and the one in `along`, where 0 is none and stays so; 0 or the number of the refusal is no aircraft's, and stays
abbrev pub renamed_answer : (ℕ → ℕ) → Answer → Answer
renamed_answer π a =
    record { number = a.number; aircraft = π a.aircraft; zone = a.zone; fix = a.fix; leader = π a.leader; along = π a.along }

-- a step: its answer and its field
abbrev pub renamed_step : (ℕ → ℕ) → Stepped → Stepped
renamed_step π s = record { answer = renamed_answer π s.answer; field = renamed_field π s.field }

-- a request with its answer, as a played list has them
abbrev pub renamed_pair : (ℕ → ℕ) → Request × Answer → Request × Answer
renamed_pair π p = (renamed_request π p.0, renamed_answer π p.1)
