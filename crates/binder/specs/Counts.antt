-- The counts that the report of a binder is made from, as the loops keep them: answer by answer, and file by file. Definitions only.
use Rattle.std.specs.Prelude.{ℕ, zero, suc, ◌+◌, ◌*◌, ◌≤◌, ◌≡◌, List, [], ◌∷◌, ◌++◌, Bool, true, cond, eqb, length, map, get_or, set, replicate}
use Rattle.request.specs.Input.{within}
use Rattle.practice.specs.File.{file_number}
use Rattle.practice.specs.Sections.{stretch}
use Rattle.questions.specs.Counts.{total}
use Rattle.playing.specs.Playing.{answers_of}
use Rattle.playing.specs.Log.{log_entry, of_kinds}
use Rattle.week_table.specs.Table.{cell_of}
use Rattle.binder.specs.declared.counts.Counts.{Counts}
use Rattle.binder.specs.Counting.{rows, columns}
use Rattle.binder.specs.Week.{files_line, refused_files_line, heading_line, row_line, moves_line, landings_line}

-- ---- the table

-- whether a number heads a column
unfoldable pub is_column : ℕ → Bool
is_column number = eqb (total (λ n. cond (eqb number n) 1 0) columns) 1

-- the row in a place, as `rows` lists them
abbrev pub row_at : ℕ → ℕ
row_at row = get_or rows row 0

-- ---- the counts

-- the counts before the first file
unfoldable pub empty_counts : Counts
empty_counts = record { played = 0; refused5 = 0; refused6 = 0; refused7 = 0; moves = 0; landings = 0; cells = replicate 273 0 }

-- the counts with one more request, of this kind and answered with this number
unfoldable pub with_answer : Counts → ℕ → ℕ → Counts
with_answer c kind number =
    record {
      played = c.played;
      refused5 = c.refused5;
      refused6 = c.refused6;
      refused7 = c.refused7;
      moves = c.moves + of_kinds (within 3 11) kind number;
      landings = c.landings + of_kinds (λ k. eqb k 7) kind number;
      cells = set c.cells (cell_of kind number) (get_or c.cells (cell_of kind number) 0 + 1);
    }

-- the counts with each entry of a log counted, by its kind and its answer's number
abbrev pub with_answers : Counts → List (List ℕ) → Counts
with_answers c [] = c
with_answers c (entry ∷ entries) = with_answers (with_answer c (get_or entry 0 0) (get_or entry 1 0)) entries

-- the counts with one more file, of this number
unfoldable pub with_number : Counts → ℕ → Counts
with_number c number =
    record {
      played = c.played + cond (eqb number 0) 1 0;
      refused5 = c.refused5 + cond (eqb number 5) 1 0;
      refused6 = c.refused6 + cond (eqb number 6) 1 0;
      refused7 = c.refused7 + cond (eqb number 7) 1 0;
      moves = c.moves;
      landings = c.landings;
      cells = c.cells;
    }

-- the counts with one more file of these bytes
unfoldable pub with_file : Counts → List ℕ → Counts
with_file c file = with_answers (with_number c (file_number file)) (map log_entry (answers_of file))

-- the counts with a list of files
abbrev pub with_files : Counts → List (List ℕ) → Counts
with_files c [] = c
with_files c (file ∷ files) = with_files (with_file c file) files

-- what files add up to
unfoldable pub counts_of : List (List ℕ) → Counts
counts_of files = with_files empty_counts files

-- ---- the lines

-- the lines of the first n rows of a table
abbrev pub rows_to : List ℕ → ℕ → List ℕ
rows_to cells zero = []
rows_to cells (suc n) = rows_to cells n ++ row_line (row_at n) (stretch cells (21 * n) 21)

-- the whole report of these counts
unfoldable pub week_lines : Counts → List ℕ
week_lines c =
    files_line c.played
    ++ refused_files_line 5 c.refused5
    ++ refused_files_line 6 c.refused6
    ++ refused_files_line 7 c.refused7
    ++ heading_line
    ++ rows_to c.cells 13
    ++ moves_line c.moves
    ++ landings_line c.landings

-- ---- what the loops need

-- the table has its 273 places, and every count is at most a bound
pub record Small (bound : ℕ) (c : Counts) : Type 0 where
  pub places : length c.cells ≡ 273
  pub played : c.played ≤ bound
  pub refused5 : c.refused5 ≤ bound
  pub refused6 : c.refused6 ≤ bound
  pub refused7 : c.refused7 ≤ bound
  pub moves : c.moves ≤ bound
  pub landings : c.landings ≤ bound
  pub cells : (i : ℕ) → get_or c.cells i 0 ≤ bound

-- the number of an entry's answer heads a column
abbrev pub Columned : List ℕ → Type 0
Columned entry = is_column (get_or entry 1 0) ≡ true
