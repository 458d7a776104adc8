-- What the program `author` prints (02, 2.11): the practice file of the legs and requests that its input holds, or a refusal. Definitions only.
use Rattle.std.specs.Prelude.{ℕ, cond, List, [], ◌∷◌, leb, eqb, length, drop}
use Rattle.limits.specs.Limits.{longest_file}
use Rattle.practice.specs.declared.FileLegs.{FileLegs}
use Rattle.practice.specs.File.{legs_of}
use Rattle.text.specs.Text.{space, line_of}
use Rattle.writer.specs.Writer.{file_of, writing_number}

-- how many bytes the caller's buffer has: as many as the longest practice file (01, "Turned away by the request or the file", 5)
abbrev pub file_room : ℕ
file_room = longest_file

-- the four legs that the input begins with, eight bytes as body 1 of a practice file has them (01, "The practice file")
abbrev pub legs_given : List ℕ → FileLegs
legs_given input = legs_of input

-- the bytes behind them, which are those of the requests
abbrev pub requests_given : List ℕ → List ℕ
requests_given input = drop 8 input

-- the number: 7 where the legs are not all there, else that of the writing
unfoldable pub authored_number : List ℕ → ℕ
authored_number input = cond (leb 8 (length input)) (writing_number (legs_given input) (requests_given input) file_room) 7

-- a refusal: `refused` and its number
unfoldable pub refused_line : ℕ → List ℕ
refused_line number = 114 ∷ 101 ∷ 102 ∷ 117 ∷ 115 ∷ 101 ∷ 100 ∷ space ∷ line_of (number ∷ [])

-- what is printed for an input of these bytes
unfoldable pub authored_of : List ℕ → List ℕ
authored_of input = cond (eqb (authored_number input) 0) (file_of (legs_given input) (requests_given input)) (refused_line (authored_number input))
