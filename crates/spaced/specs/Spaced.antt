-- What the program `spacing` prints (02, 2.8): a line for each pair on the approach of the field after a practice file. Definitions only.
use Rattle.std.specs.Prelude.{ℕ, cond, List, [], ◌∷◌, ◌++◌, eqb, take, Float}
use Rattle.practice.specs.File.{file_number}
use Rattle.text.specs.Text.{decimal, space, newline, line_of}
use Rattle.playing.specs.Playing.{field_of_file}
use Rattle.session.specs.Report.{refused_report}
use Rattle.gaps.specs.declared.Spacing.{Spacing}
use Rattle.gaps.specs.declared.Spacing.TheVariants.{Close, Clear}
use Rattle.gaps.specs.declared.Pair.{Pair}
use Rattle.gaps.specs.declared.Spacings.{Spacings}
use Rattle.gaps.specs.Gaps.{legal_spacing, gaps_of}
use Rattle.miles.specs.Miles.{miles_text}

-- the end of a line: the gap in miles
unfoldable pub gap_text : Float → List ℕ
gap_text gap = miles_text gap ++ (newline ∷ [])

-- `close` or `clear`, and the gap
abbrev pub spacing_text : Spacing → List ℕ
spacing_text (Close gap) = 99 ∷ 108 ∷ 111 ∷ 115 ∷ 101 ∷ space ∷ gap_text gap
spacing_text (Clear gap) = 99 ∷ 108 ∷ 101 ∷ 97 ∷ 114 ∷ space ∷ gap_text gap

-- the line of a pair: leader, follower, `close` or `clear`, gap
unfoldable pub pair_line : Pair → List ℕ
pair_line p = decimal p.leader ++ (space ∷ decimal p.follower ++ (space ∷ spacing_text p.spacing))

-- the lines of pairs
abbrev pub pair_lines : List Pair → List ℕ
pair_lines [] = []
pair_lines (p ∷ ps) = pair_line p ++ pair_lines ps

-- a refusal: `spacing` and its number
unfoldable pub refused_spacing : ℕ → List ℕ
refused_spacing number = 115 ∷ 112 ∷ 97 ∷ 99 ∷ 105 ∷ 110 ∷ 103 ∷ space ∷ line_of (number ∷ [])

-- the report of an answer: a refusal, or a line for each pair
unfoldable pub spacings_report : Spacings → List ℕ
spacings_report s = cond (eqb s.number 0) (pair_lines (take s.count s.pairs)) (refused_spacing s.number)

-- the report of a practice file of these bytes: the spacing is judged first, then the file, then the field after its last request
unfoldable pub spaced_of : List ℕ → ℕ → List ℕ
spaced_of file spacing =
    cond (legal_spacing spacing)
    (cond (eqb (file_number file) 0) (spacings_report (gaps_of (field_of_file file) spacing)) (refused_report (file_number file)))
    (refused_spacing 4)

-- how many bytes the caller's buffer has
abbrev pub spaced_room : ℕ
spaced_room = 1024
