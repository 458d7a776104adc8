-- The report of a binder, byte for byte (02, 2.1). Definitions only.
use Rattle.std.specs.Prelude.{ℕ, List, [], ◌∷◌, ◌++◌, map, cond, eqb}
use Rattle.request.specs.declared.Request.{Request}
use Rattle.rules.specs.declared.Answer.{Answer}
use Rattle.rules.specs.Play.{moves}
use Rattle.text.specs.Text.{space, decimal, line_of}
use Rattle.contents.specs.Contents.{binder_number, files_of}
use Rattle.binder.specs.Counting.{answers_in, rows, columns, answered, landings, files_numbered}

-- `files` and how many files play (02, 2.1)
unfoldable pub files_line : ℕ → List ℕ
files_line n = 102 ∷ 105 ∷ 108 ∷ 101 ∷ 115 ∷ space ∷ line_of (n ∷ [])

-- `refused`, the number, and how many files were refused with it (02, 2.1)
unfoldable pub refused_files_line : ℕ → ℕ → List ℕ
refused_files_line number n = 114 ∷ 101 ∷ 102 ∷ 117 ∷ 115 ∷ 101 ∷ 100 ∷ space ∷ line_of (number ∷ n ∷ [])

-- `kind`, and the numbers that head the columns (02, 2.1)
unfoldable pub heading_line : List ℕ
heading_line = 107 ∷ 105 ∷ 110 ∷ 100 ∷ space ∷ line_of columns

-- a row of the table: the kind, or `other` for row 0, a space, and how often each number was answered (02, 2.1)
unfoldable pub row_line : ℕ → List ℕ → List ℕ
row_line row counts = cond (eqb row 0) (111 ∷ 116 ∷ 104 ∷ 101 ∷ 114 ∷ []) (decimal row) ++ (space ∷ line_of counts)

-- the listed rows, one after the other (02, 2.1)
abbrev pub row_lines : List ℕ → List (Request × Answer) → List ℕ
row_lines [] ps = []
row_lines (row ∷ rest) ps = row_line row (map (λ number. answered row number ps) columns) ++ row_lines rest ps

-- `moves` and the accepted requests of kinds 3 to 11 (02, 2.1)
unfoldable pub moves_line : ℕ → List ℕ
moves_line n = 109 ∷ 111 ∷ 118 ∷ 101 ∷ 115 ∷ space ∷ line_of (n ∷ [])

-- `landings` and the accepted requests of kind 7 (02, 2.1)
unfoldable pub landings_line : ℕ → List ℕ
landings_line n = 108 ∷ 97 ∷ 110 ∷ 100 ∷ 105 ∷ 110 ∷ 103 ∷ 115 ∷ space ∷ line_of (n ∷ [])

-- the report of a refused binder: `binder`, its number, no more (02, 2.1)
unfoldable pub refused_binder : ℕ → List ℕ
refused_binder number = 98 ∷ 105 ∷ 110 ∷ 100 ∷ 101 ∷ 114 ∷ space ∷ line_of (number ∷ [])

-- the report of files: how many play and how many are refused, the table, moves and landings (02, 2.1)
unfoldable pub files_report : List (List ℕ) → List ℕ
files_report files =
    files_line (files_numbered 0 files)
    ++ refused_files_line 5 (files_numbered 5 files)
    ++ refused_files_line 6 (files_numbered 6 files)
    ++ refused_files_line 7 (files_numbered 7 files)
    ++ heading_line
    ++ row_lines rows (answers_in files)
    ++ moves_line (moves (answers_in files))
    ++ landings_line (landings (answers_in files))

-- the report of a binder of these bytes (02, 2.1)
unfoldable pub week_of : List ℕ → List ℕ
week_of bytes = cond (eqb (binder_number bytes) 0) (files_report (files_of bytes)) (refused_binder (binder_number bytes))
