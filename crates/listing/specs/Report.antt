-- What the program `classroom` prints (02, 2.12): the list of the field after a practice file, or the field that a list builds. Definitions only.
use Rattle.std.specs.Prelude.{ℕ, cond, List, [], ◌∷◌, ◌++◌, eqb, leb, length, take, drop}
use Rattle.practice.specs.File.{number16, legs_of, file_number}
use Rattle.text.specs.Text.{space, line_of}
use Rattle.playing.specs.Playing.{field_of_file}
use Rattle.session.specs.Report.{refused_report}
use Rattle.indexed.specs.Indexed.{with_index}
use Rattle.dialect.specs.declared.ListEntry.{ListEntry}
use Rattle.dialect.specs.declared.Listing.{Listing}
use Rattle.dialect_field.specs.declared.Built.{Built}
use Rattle.dialect.specs.Going.{list_of}
use Rattle.dialect_field.specs.Coming.{field_of_list}

-- a line for each of a list: number, location, place, fix
unfoldable pub entry_line : ListEntry → List ℕ
entry_line e = line_of (e.number ∷ e.location ∷ e.place ∷ e.fix ∷ [])

-- the lines of a list
abbrev pub entry_lines : List ListEntry → List ℕ
entry_lines [] = []
entry_lines (e ∷ es) = entry_line e ++ entry_lines es

-- a refusal: `refused` and its number
unfoldable pub refusal : ℕ → List ℕ
refusal number = 114 ∷ 101 ∷ 102 ∷ 117 ∷ 115 ∷ 101 ∷ 100 ∷ space ∷ line_of (number ∷ [])

-- the report of a list: a refusal, or a line for each
unfoldable pub list_report : Listing → List ℕ
list_report l = cond (eqb l.number 0) (entry_lines (take l.count l.entries)) (refusal l.number)

-- the list of the field after a practice file of these bytes; `file` and its number for a refused one
unfoldable pub listed_of : List ℕ → List ℕ
listed_of file = cond (eqb (file_number file) 0) (list_report (list_of (with_index (field_of_file file)))) (refused_report (file_number file))

-- the next fix: `next` and the side
unfoldable pub next_line : ℕ → List ℕ
next_line fix = 110 ∷ 101 ∷ 120 ∷ 116 ∷ space ∷ line_of (fix ∷ [])

-- the report of a field that a list built: a refusal, or its next fix and its list
unfoldable pub built_report : Built → List ℕ
built_report b = cond (eqb b.number 0) (next_line b.after.field.next ++ list_report (list_of b.after)) (refusal b.number)

-- the speed, two bytes behind the legs; 0, which is none, where they are not both there
unfoldable pub speed_in : List ℕ → ℕ
speed_in input = cond (leb 10 (length input)) (number16 input 8) 0

-- of bytes that hold the legs, as body 1 of a practice file has them, the speed and the entries; with fewer bytes than the legs have, a leg is
-- not there, which is refused 7
unfoldable pub built_of : List ℕ → List ℕ
built_of input = cond (leb 8 (length input)) (built_report (field_of_list (legs_of input) (speed_in input) (drop 10 input))) (refusal 7)

-- how many bytes the caller's buffer has
abbrev pub classroom_room : ℕ
classroom_room = 512
