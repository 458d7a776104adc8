-- Document 01, "The practice file": what the program `play` prints. Definitions only.
use Rattle.std.specs.Prelude.{ℕ, suc, List, [], ◌∷◌, ◌++◌}
use Rattle.request.specs.declared.Request.{Request}
use Rattle.practice.specs.Practice.{Practice, refused, holds, practice_of}
use Rattle.field.specs.declared.Legs.{Legs}
use Rattle.rules.specs.declared.Answer.{Answer}
use Rattle.text.specs.Text.{space, line_of}
use Rattle.playing.specs.Playing.{legs_in_miles, answers_from, present_from}
use Rattle.session.specs.declared.tally.Tally.{Tally}
use Rattle.session.specs.Tally.{tally_of}

-- the line of an answer: index, number, aircraft, zone, fix, leader, along
unfoldable pub answer_line : ℕ → Answer → List ℕ
answer_line index a = line_of (index ∷ a.number ∷ a.aircraft ∷ a.zone ∷ a.fix ∷ a.leader ∷ a.along ∷ [])

-- the lines of requests and their answers, the first with this index
abbrev pub answer_lines : ℕ → List (Request × Answer) → List ℕ
answer_lines index [] = []
answer_lines index (p ∷ ps) = answer_line index p.1 ++ answer_lines (suc index) ps

-- the last line: `end`, the closing counts, and how many are present
unfoldable pub end_line : Tally → ℕ → List ℕ
end_line t present = 101 ∷ 110 ∷ 100 ∷ space ∷ line_of (t.entries ∷ t.taxis ∷ t.exits ∷ t.misses ∷ present ∷ [])

-- the report of requests from the empty field with these legs: their lines, with indexes from 1, and the last line
unfoldable pub session_report : Legs → List Request → List ℕ
session_report legs requests =
    answer_lines 1 (answers_from legs requests) ++ end_line (tally_of (answers_from legs requests)) (present_from legs requests)

-- the report of a refused file: `file` and its number, and nothing else
unfoldable pub refused_report : ℕ → List ℕ
refused_report number = 102 ∷ 105 ∷ 108 ∷ 101 ∷ space ∷ line_of (number ∷ [])

-- the report of what a file means
abbrev pub practice_report : Practice → List ℕ
practice_report (refused number) = refused_report number
practice_report (holds legs requests) = session_report (legs_in_miles legs) requests

-- the report of a file of these bytes
unfoldable pub report_of : List ℕ → List ℕ
report_of file = practice_report (practice_of file)
