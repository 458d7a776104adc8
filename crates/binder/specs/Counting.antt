-- What the report of a binder counts (02, 2.1): the answers of all files that play, by kind and number, and the files by their number.
-- Definitions only.
use Rattle.std.specs.Prelude.{ℕ, ◌+◌, ◌≡◌, List, [], ◌∷◌, ◌++◌, Bool, true, cond, ◌&&◌, eqb, length}
use Rattle.request.specs.Input.{within}
use Rattle.request.specs.declared.Request.{Request}
use Rattle.practice.specs.File.{file_number}
use Rattle.field.specs.Lists.{Each}
use Rattle.questions.specs.Counts.{total}
use Rattle.rules.specs.declared.Answer.{Answer}
use Rattle.rules.specs.Play.{accepted}
use Rattle.playing.specs.Playing.{requests_of_file, answers_of}

-- ---- what is counted

-- the requests of all files that play, in order; a refused file adds none (02, 2.1)
abbrev pub requests_in : List (List ℕ) → List Request
requests_in [] = []
requests_in (file ∷ files) = requests_of_file file ++ requests_in files

-- the answers of all files that play, in order, each with its request (02, 2.1)
abbrev pub answers_in : List (List ℕ) → List (Request × Answer)
answers_in [] = []
answers_in (file ∷ files) = answers_of file ++ answers_in files

-- ---- the table of numbers by kind

-- the row of a kind: its own for 1 to 12, and row 0 for all others together (02, 2.1)
abbrev pub row_of : ℕ → ℕ
row_of kind = cond (within 1 12 kind) kind 0

-- the rows, the shared one last (02, 2.1)
unfoldable pub rows : List ℕ
rows = 1 ∷ 2 ∷ 3 ∷ 4 ∷ 5 ∷ 6 ∷ 7 ∷ 8 ∷ 9 ∷ 10 ∷ 11 ∷ 12 ∷ 0 ∷ []

-- the columns: the numbers that a request of a practice file can be answered with, 0 to 4 and 10 to 25 (02, 2.1); a file is played as desk 1, so that 26
-- and 31 never come (02, 2.10)
unfoldable pub columns : List ℕ
columns = 0 ∷ 1 ∷ 2 ∷ 3 ∷ 4 ∷ 10 ∷ 11 ∷ 12 ∷ 13 ∷ 14 ∷ 15 ∷ 16 ∷ 17 ∷ 18 ∷ 19 ∷ 20 ∷ 21 ∷ 22 ∷ 23 ∷ 24 ∷ 25 ∷ []

-- whether a request is of the row and answered with the number (02, 2.1)
abbrev pub is_answered : ℕ → ℕ → Request × Answer → Bool
is_answered row number p = eqb (row_of p.0.kind) row && eqb p.1.number number

-- how often the number was answered to requests of the row (02, 2.1)
abbrev pub answered : ℕ → ℕ → List (Request × Answer) → ℕ
answered row number [] = 0
answered row number (p ∷ ps) = cond (is_answered row number p) 1 0 + answered row number ps

-- all entries of the table added up (02, 2.1)
unfoldable pub table_sum : List (Request × Answer) → ℕ
table_sum ps = total (λ row. total (λ number. answered row number ps) columns) rows

-- how many aircraft landed: the accepted requests of kind 7 (02, 2.1)
abbrev pub landings : List (Request × Answer) → ℕ
landings = accepted (λ kind. eqb kind 7)

-- ---- the files

-- how many files have the number: 0 for those that play, and 5 to 7 for those refused so (02, 2.1)
abbrev pub files_numbered : ℕ → List (List ℕ) → ℕ
files_numbered number [] = 0
files_numbered number (file ∷ files) = cond (eqb (file_number file) number) 1 0 + files_numbered number files

-- ---- each once

-- how often a number is listed
abbrev pub listed : List ℕ → ℕ → ℕ
listed ns m = total (λ n. cond (eqb m n) 1 0) ns

-- the place of an answer is the row of its kind and the column of its number: the table has each of the two once, the answer is counted there, and nowhere else
pub record InOnePlace (p : Request × Answer) : Type 0 where
  pub one_row : listed rows (row_of p.0.kind) ≡ 1
  pub one_column : listed columns p.1.number ≡ 1
  pub there : is_answered (row_of p.0.kind) p.1.number p ≡ true
  pub no_other_row : (row number : ℕ) → is_answered row number p ≡ true → row ≡ row_of p.0.kind
  pub no_other_column : (row number : ℕ) → is_answered row number p ≡ true → number ≡ p.1.number

-- of some files: every answer of those that play is counted exactly once, and so is every file (02, 2.1)
pub record CountedOnceOf (files : List (List ℕ)) : Type 0 where
  -- each answer has one place in the table
  pub one_place : Each InOnePlace (answers_in files)
  -- the table's entries add up to the answers, one for each request of the files that play
  pub answers : table_sum (answers_in files) ≡ length (answers_in files)
  pub requests : length (answers_in files) ≡ length (requests_in files)
  -- the files that play and those refused 5, 6 and 7 are all files
  pub whole : files_numbered 0 files + files_numbered 5 files + files_numbered 6 files + files_numbered 7 files ≡ length files

-- that is so of any files
abbrev pub CountedOnce : Type 0
CountedOnce = (files : List (List ℕ)) → CountedOnceOf files
