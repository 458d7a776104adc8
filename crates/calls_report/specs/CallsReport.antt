-- What the program `desks` prints: the answers to calls by two desks, each a request (02, 2.10) or a step back (02, 2.13), from the bytes that hold
-- them. Definitions only.
use Rattle.std.specs.Prelude.{ℕ, zero, suc, ◌+◌, ◌-◌, ◌/◌, ◌%◌, cond, List, [], ◌∷◌, ◌++◌, eqb, leb, length, get_or}
use Rattle.limits.specs.Limits.{most_requests}
use Rattle.request.specs.Input.{first_refused}
use Rattle.practice.specs.File.{number16, legs_of, legs_allowed}
use Rattle.questions.specs.Counts.{present_on}
use Rattle.rules.specs.declared.Answer.{Answer}
use Rattle.text.specs.Text.{space, line_of}
use Rattle.playing.specs.Playing.{legs_in_miles}
use Rattle.session.specs.Report.{answer_line}
use Rattle.history.specs.declared.History.{History}
use Rattle.history.specs.History.{start_of}
use Rattle.taken_back.specs.Calls.{Call, request, back, played_calls, after_calls}
use Rattle.authored.specs.Authored.{refused_line}

-- the call at a place of the bytes. The first of its eight bytes is 0 for a request, and any other for a step back; then come the desk, the kind, the
-- side, the number and the amount. Of a step back only the desk counts
unfoldable pub call_at : List ℕ → ℕ → Call
call_at input at =
    cond (eqb (get_or input at 0) 0)
    (request (record {
      kind = get_or input (at + 2) 0;
      side = get_or input (at + 3) 0;
      number = number16 input (at + 4);
      amount = number16 input (at + 6);
      desk = get_or input (at + 1) 0;
    }))
    (back (get_or input (at + 1) 0))

-- so many calls, from a place on
abbrev pub calls_from : List ℕ → ℕ → ℕ → List Call
calls_from input at zero = []
calls_from input at (suc n) = call_at input at ∷ calls_from input (at + 8) n

-- how many bytes there are behind the eight of the legs
abbrev pub call_bytes : List ℕ → ℕ
call_bytes input = length input - 8

-- the calls of an input: four legs, as body 1 of a practice file has them, and behind them eight bytes for each call
unfoldable pub calls_in : List ℕ → List Call
calls_in input = calls_from input 8 (call_bytes input / 8)

-- the number of an input: 7 where the legs are not all there, or one is not 1 to 4096 64ths; then 5 where what is behind them is not eight bytes for
-- each call, or more calls than a practice file has requests
unfoldable pub desks_number : List ℕ → ℕ
desks_number input =
    first_refused ((7, leb 8 (length input)) ∷ (7, legs_allowed (legs_of input)) ∷ (5, eqb (call_bytes input % 8) 0) ∷ (5, leb (call_bytes input / 8) most_requests) ∷ [])

-- a line for each call: its index, the first with this one, and its answer
abbrev pub call_lines : ℕ → List (Call × Answer) → List ℕ
call_lines index [] = []
call_lines index (p ∷ ps) = answer_line index p.1 ++ call_lines (suc index) ps

-- the last line: `end`, how many are present, and how many fields are kept
unfoldable pub last_line : History → List ℕ
last_line h = 101 ∷ 110 ∷ 100 ∷ space ∷ line_of (present_on h.now.field ∷ h.count ∷ [])

-- the report of calls on a field with its kept ones, the first with this index
unfoldable pub report_from : ℕ → History → List Call → List ℕ
report_from index h cs = call_lines index (played_calls h cs) ++ last_line (after_calls h cs)

-- what is printed for an input of these bytes: a refusal, or the report of its calls from the empty field with its legs, indexed from 0
unfoldable pub desks_of : List ℕ → List ℕ
desks_of input = cond (eqb (desks_number input) 0) (report_from 0 (start_of (legs_in_miles (legs_of input))) (calls_in input)) (refused_line (desks_number input))
