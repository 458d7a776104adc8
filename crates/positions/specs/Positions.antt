-- What the program `track` prints: after each request of a practice file, who is where, in which order they land, and the miles that each has
-- waited at the ends of its legs (02, 2.2). Definitions only.
use Rattle.std.specs.Prelude.{ℕ, suc, ◌^◌, ◌≤◌, ◌<◌, List, [], ◌∷◌, ◌++◌, length, get_or}
use Rattle.request.specs.declared.Request.{Request}
use Rattle.practice.specs.Practice.{Practice, refused, holds, practice_of}
use Rattle.field.specs.declared.Aircraft.{Aircraft}
use Rattle.field.specs.declared.Field.{Field}
use Rattle.field.specs.declared.Sequence.{Sequence}
use Rattle.field.specs.Airspace.{everywhere, in_zone, order_of, order_length, empty_field}
use Rattle.rules.specs.Step.{step_of}
use Rattle.text.specs.Text.{decimal, space, newline}
use Rattle.miles.specs.Miles.{miles_text}
use Rattle.playing.specs.Playing.{legs_in_miles}
use Rattle.session.specs.Report.{refused_report}

-- a number after others of its line
abbrev pub another : ℕ → List ℕ
another n = space ∷ decimal n

-- one in a zone: the zone, its number, and the miles waited
unfoldable pub position_text : ℕ → Aircraft → List ℕ
position_text zone a = another zone ++ (another a.number ++ (space ∷ miles_text a.waited))

-- those of a queue, the head first
abbrev pub queue_text : ℕ → List Aircraft → List ℕ
queue_text zone [] = []
queue_text zone (a ∷ rest) = position_text zone a ++ queue_text zone rest

-- those in zones
abbrev pub zones_text : Field → List ℕ → List ℕ
zones_text f [] = []
zones_text f (z ∷ zs) = queue_text z (in_zone f z) ++ zones_text f zs

-- numbers after others of their line
abbrev pub numbers_text : List ℕ → List ℕ
numbers_text [] = []
numbers_text (n ∷ ns) = another n ++ numbers_text ns

-- the landing sequence: how many stand in it, and their numbers, first to land first
unfoldable pub sequence_text : Sequence → List ℕ
sequence_text s = another (order_length s) ++ numbers_text (order_of s)

-- the line of a field: the index of a request, the next fix, the sequence, and everyone by zone
unfoldable pub field_line : ℕ → Field → List ℕ
field_line index f = decimal index ++ (another f.next ++ (sequence_text f.sequence ++ (zones_text f everywhere ++ (newline ∷ []))))

-- a line for each request, the first with this index: the field after it, which the next one gets
abbrev pub lines_from : ℕ → Field → List Request → List ℕ
lines_from index f [] = []
lines_from index f (r ∷ rs) = field_line index (step_of f r).field ++ lines_from (suc index) (step_of f r).field rs

-- of what a file means: its requests have the indices of 01's report, and start from the empty field
abbrev pub practice_positions : Practice → List ℕ
practice_positions (refused number) = refused_report number
practice_positions (holds legs requests) = lines_from 1 (empty_field (legs_in_miles legs)) requests

-- of a file of these bytes
unfoldable pub positions_of : List ℕ → List ℕ
positions_of file = practice_positions (practice_of file)

-- ---- the caller's buffer

-- how many bytes it has
abbrev pub positions_room : ℕ
positions_room = 1048576

-- each of a list is a byte
abbrev pub AreBytes : List ℕ → Type 0
AreBytes xs = (i : ℕ) → get_or xs i 0 < 2 ^ 8

-- the report of every file fits it
abbrev pub PositionsFit : Type 0
PositionsFit = (file : List ℕ) → AreBytes file → length (positions_of file) ≤ positions_room
