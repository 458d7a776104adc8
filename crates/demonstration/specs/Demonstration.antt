-- What the program `button` prints (02, 2.6): a practice file is played from the empty field, and then the button is held down. Definitions only.
use Rattle.std.specs.Prelude.{ℕ, List, [], ◌∷◌, ◌++◌}
use Rattle.practice.specs.Practice.{Practice, refused, holds, practice_of}
use Rattle.field.specs.declared.Field.{Field}
use Rattle.text.specs.Text.{space, line_of}
use Rattle.playing.specs.Playing.{legs_in_miles, field_from}
use Rattle.press.specs.declared.Ending.{Ending}
use Rattle.press.specs.declared.Ending.TheVariants.{Refused, None, Spent}
use Rattle.press.specs.HeldDown.{held_of, held_lines}
use Rattle.session.specs.Report.{refused_report}

-- how it ended, in a word and a space: `none`, or `spent`; `refused` of a field that breaks a bound, to which no file leads
abbrev pub end_word : Ending → List ℕ
end_word None = 110 ∷ 111 ∷ 110 ∷ 101 ∷ space ∷ []
end_word Spent = 115 ∷ 112 ∷ 101 ∷ 110 ∷ 116 ∷ space ∷ []
end_word Refused = 114 ∷ 101 ∷ 102 ∷ 117 ∷ 115 ∷ 101 ∷ 100 ∷ space ∷ []

-- the last line: that word, and how many requests were played
abbrev pub ending_line : Ending → ℕ → List ℕ
ending_line ending played = end_word ending ++ line_of (played ∷ [])

-- the lines of the moves, and the last line
unfoldable pub button_report : Field → List ℕ
button_report f = held_lines f ++ ending_line (held_of f).ending (held_of f).played

-- of what a file means: the button is held down on the field after its last request; a refused file has the report that `play` gives of it
abbrev pub practice_button : Practice → List ℕ
practice_button (refused number) = refused_report number
practice_button (holds legs requests) = button_report (field_from (legs_in_miles legs) requests)

-- of a file of these bytes
unfoldable pub button_of : List ℕ → List ℕ
button_of file = practice_button (practice_of file)
