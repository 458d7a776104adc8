-- What the counts of files come to: the files by number, the moves and landings, and each place of the table. Assumes nothing.
use mathlib.Core.Path.{◌≡◌, refl, sym, ap, ◌∙◌, subst}
use mathlib.Core.Bool.{Bool, true, false, not, cond, ◌&&◌}
use mathlib.Core.List.{List, [], ◌∷◌, ◌++◌}
use Prim.Native.Nat.{ℕ, ◌+◌, ◌-◌, ◌*◌, ◌≤◌, ◌<◌}
use native.Mathlib.Omega.{arith}
use lib.Dec.{T, eqb}
use lib.ListN.{length, get_or, set, length-set, length-replicate}
use lib.Seq.{get_or-set_same, get_or-set_other}
use borrow.Author.Tests.{eq-eqb, ne_eqb, eqb-true, eqb-false}
use Rattle.request.specs.Input.{within}
use Rattle.request.specs.declared.Request.{Request}
use Rattle.request.proofs.InputTests.{within_low, within_high}
use Rattle.field.specs.Lists.{every}
use Rattle.field.specs.Airspace.{zones_from}
use Rattle.field.proofs.TestLaws.{every_from}
use Rattle.practice.specs.File.{file_number}
use Rattle.rules.specs.declared.Answer.{Answer}
use Rattle.rules.specs.Play.{accepted, moves}
use Rattle.playing.specs.Playing.{answers_of}
use Rattle.playing.specs.Log.{log_entry}
use Rattle.std.proofs.Common.{map}
use Rattle.binder.specs.declared.counts.Counts.{Counts}
use Rattle.binder.specs.Counting.{answers_in, row_of, rows, columns, is_answered, answered, landings, files_numbered, listed}
use Rattle.week_table.specs.Table.{row_place, column_place, cell_of}
use Rattle.binder.specs.Counts.{row_at, empty_counts, with_answer, with_answers, with_number, with_file, with_files, counts_of}
use Rattle.binder.proofs.CountedOnce.{Headed, headed_file}
use Rattle.binder.proofs.Cells.{listed_low, column_low}

-- ---- which place a row and a column have

-- the number that heads a column
abbrev pub column_at : ℕ → ℕ
column_at column = get_or columns column 0

-- two tests that agree
same_test : (a b : Bool) → T (cond a b (not b)) → a ≡ b
same_test true true t = refl
same_test true false t = absurd t
same_test false true t = absurd t
same_test false false t = refl

-- whether a row of the report and a place tell the same of a row, and so for a column
abbrev rows_agree : ℕ → ℕ → ℕ → Bool
rows_agree r p n = cond (eqb r (row_at n)) (eqb p n) (not (eqb p n))

abbrev columns_agree : ℕ → ℕ → Bool
columns_agree n k = cond (eqb n (column_at k)) (eqb (column_place n) k) (not (eqb (column_place n) k))

row_test : (kind row : ℕ) → row < 13 → eqb (row_of kind) (row_at row) ≡ eqb (row_place kind) row
unfolding rows
row_test kind row h = go (within 1 12 kind) refl
  where
    go : (b : Bool) → within 1 12 kind ≡ b → eqb (cond b kind 0) (row_at row) ≡ eqb (cond b (kind - 1) 12) row
    go true e =
        same_test (eqb kind (row_at row)) (eqb (kind - 1) row)
        (every_from (rows_agree kind (kind - 1)) 0 13
        (every_from (λ k. every (rows_agree k (k - 1)) (zones_from 0 13)) 1 12 tt kind (within_low 1 12 kind e) (let l = within_high 1 12 kind e in omega arith))
        row (omega arith) (omega arith))
    go false e = same_test (eqb 0 (row_at row)) (eqb 12 row) (every_from (rows_agree 0 12) 0 13 tt row (omega arith) (omega arith))

column_test : (number column : ℕ) → listed columns number ≡ 1 → column < 21 → eqb number (column_at column) ≡ eqb (column_place number) column
unfolding columns
column_test number column e h =
    let low = listed_low columns 25 number tt e in
    let every-column = every_from (λ n. cond (eqb (listed columns n) 1) (every (columns_agree n) (zones_from 0 21)) true) 0 26 tt number (omega arith) (omega arith) in
    same_test (eqb number (column_at column)) (eqb (column_place number) column)
    (every_from (columns_agree number) 0 21 (subst (λ (b : Bool). T (cond b (every (columns_agree number) (zones_from 0 21)) true)) (eq-eqb (listed columns number) 1 e) every-column)
    column (omega arith) (omega arith))

-- two places are one where both the rows and the columns are
place_test : (r k row column : ℕ) → k ≤ 20 → column < 21 → eqb (21 * row + column) (21 * r + k) ≡ (eqb r row && eqb k column)
place_test r k row column l h = go (eqb r row) (eqb k column) refl refl
  where
    go : (a b : Bool) → eqb r row ≡ a → eqb k column ≡ b → eqb (21 * row + column) (21 * r + k) ≡ (a && b)
    go true true e f =
        let p = eqb-true r row e in
        let q = eqb-true k column f in
        eq-eqb (21 * row + column) (21 * r + k) (omega arith)
    go true false e f =
        let p = eqb-true r row e in
        ne_eqb (21 * row + column) (21 * r + k) (λ g. eqb-false k column f (omega arith))
    go false b e f = ne_eqb (21 * row + column) (21 * r + k) (λ g. eqb-false r row e (omega arith))

cell_test : (p : Request × Answer) (row column : ℕ) → listed columns p.1.number ≡ 1 → row < 13 → column < 21
    → eqb (21 * row + column) (cell_of p.0.kind p.1.number) ≡ is_answered (row_at row) (column_at column) p
unfolding cell_of
cell_test p row column e h g =
    place_test (row_place p.0.kind) (column_place p.1.number) row column (column_low p.1.number e) g
    ∙ sym (ap (λ (b : Bool). b && eqb (column_place p.1.number) column) (row_test p.0.kind row h))
    ∙ sym (ap (λ (b : Bool). eqb (row_of p.0.kind) (row_at row) && b) (column_test p.1.number column e g))

-- ---- answer by answer

-- what a list of answers adds
record Added (c d : Counts) (ps : List (Request × Answer)) : Type 0 where
  played : d.played ≡ c.played
  refused5 : d.refused5 ≡ c.refused5
  refused6 : d.refused6 ≡ c.refused6
  refused7 : d.refused7 ≡ c.refused7
  moved : d.moves ≡ c.moves + moves ps
  landed : d.landings ≡ c.landings + landings ps
  places : length d.cells ≡ length c.cells
  cells : (row column : ℕ) → row < 13 → column < 21 → get_or d.cells (21 * row + column) 0 ≡ get_or c.cells (21 * row + column) 0 + answered (row_at row) (column_at column) ps

one_counted : (c : Counts) (p : Request × Answer) (row column : ℕ) → listed columns p.1.number ≡ 1 → length c.cells ≡ 273 → row < 13 → column < 21
    → let cell = cell_of p.0.kind p.1.number in
    get_or (set c.cells cell (get_or c.cells cell 0 + 1)) (21 * row + column) 0 ≡ get_or c.cells (21 * row + column) 0 + cond (is_answered (row_at row) (column_at column) p) 1 0
one_counted c p row column e n h g = go (eqb at cell) refl
  where
    at : ℕ
    at = 21 * row + column

    cell : ℕ
    cell = cell_of p.0.kind p.1.number

    one : ℕ
    one = get_or c.cells cell 0 + 1

    go : (b : Bool) → eqb at cell ≡ b → get_or (set c.cells cell one) at 0 ≡ get_or c.cells at 0 + cond (is_answered (row_at row) (column_at column) p) 1 0
    go true f =
        let same = eqb-true at cell f in
        let t : cond {A = ℕ} (is_answered (row_at row) (column_at column) p) 1 0 ≡ 1 = ap (λ (b : Bool). cond b 1 0) (sym (cell_test p row column e h g) ∙ f) in
        let k = ap (λ (j : ℕ). get_or (set c.cells cell one) j 0) same ∙ get_or-set_same c.cells cell one 0 (omega arith) in
        let m = ap (λ (j : ℕ). get_or c.cells j 0) same in
        omega arith
    go false f =
        let t : cond {A = ℕ} (is_answered (row_at row) (column_at column) p) 1 0 ≡ 0 = ap (λ (b : Bool). cond b 1 0) (sym (cell_test p row column e h g) ∙ f) in
        let k = get_or-set_other c.cells cell at one 0 (eqb-false at cell f) in
        omega arith

answers_added : (c : Counts) (ps : List (Request × Answer)) → Headed ps → length c.cells ≡ 273 → Added c (with_answers c (map log_entry ps)) ps
unfolding with_answer
answers_added c [] h n =
    record {
      played = refl;
      refused5 = refl;
      refused6 = refl;
      refused7 = refl;
      moved = omega arith;
      landed = omega arith;
      places = refl;
      cells = λ row column l g. omega arith;
    }
answers_added c (p ∷ ps) h n =
    let cell = cell_of p.0.kind p.1.number in
    let one = get_or c.cells cell 0 + 1 in
    let size = length-set c.cells cell one in
    let a = answers_added (with_answer c p.0.kind p.1.number) ps h.1 (size ∙ n) in
    record {
      played = a.played;
      refused5 = a.refused5;
      refused6 = a.refused6;
      refused7 = a.refused7;
      moved = omega (arith, a.moved);
      landed = omega (arith, a.landed);
      places = a.places ∙ size;
      cells = λ row column l g. let rest = a.cells row column l g in let here = one_counted c p row column h.0 n l g in omega arith;
    }

-- ---- file by file

accepted_append : (kinds : ℕ → Bool) (ps qs : List (Request × Answer)) → accepted kinds (ps ++ qs) ≡ accepted kinds ps + accepted kinds qs
accepted_append kinds [] qs = omega arith
accepted_append kinds (p ∷ ps) qs = let rest = accepted_append kinds ps qs in omega arith

answered_append : (row number : ℕ) (ps qs : List (Request × Answer)) → answered row number (ps ++ qs) ≡ answered row number ps + answered row number qs
answered_append row number [] qs = omega arith
answered_append row number (p ∷ ps) qs = let rest = answered_append row number ps qs in omega arith

-- what a file adds to the counts with its number
file_added : (c : Counts) (file : List ℕ) → length c.cells ≡ 273 → Added (with_number c (file_number file)) (with_file c file) (answers_of file)
unfolding with_file with_number
file_added c file n =
    answers_added (with_number c (file_number file)) (answers_of file) (headed_file file) n

-- what a list of files adds
pub record Summed (c d : Counts) (files : List (List ℕ)) : Type 0 where
  pub played : d.played ≡ c.played + files_numbered 0 files
  pub refused5 : d.refused5 ≡ c.refused5 + files_numbered 5 files
  pub refused6 : d.refused6 ≡ c.refused6 + files_numbered 6 files
  pub refused7 : d.refused7 ≡ c.refused7 + files_numbered 7 files
  pub moved : d.moves ≡ c.moves + moves (answers_in files)
  pub landed : d.landings ≡ c.landings + landings (answers_in files)
  pub places : length d.cells ≡ 273
  pub cells : (row column : ℕ) → row < 13 → column < 21
      → get_or d.cells (21 * row + column) 0 ≡ get_or c.cells (21 * row + column) 0 + answered (row_at row) (column_at column) (answers_in files)

files_summed : (c : Counts) (files : List (List ℕ)) → length c.cells ≡ 273 → Summed c (with_files c files) files
unfolding with_number
files_summed c [] n =
    record {
      played = omega arith;
      refused5 = omega arith;
      refused6 = omega arith;
      refused7 = omega arith;
      moved = omega arith;
      landed = omega arith;
      places = n;
      cells = λ row column l g. omega arith;
    }
files_summed c (file ∷ files) n =
    let a = file_added c file n in
    let s = files_summed (with_file c file) files (a.places ∙ n) in
    let ps = answers_of file in
    let qs = answers_in files in
    let m = accepted_append (within 3 11) ps qs in
    let d = accepted_append (λ kind. eqb kind 7) ps qs in
    record {
      played = omega (arith, a.played, s.played);
      refused5 = omega (arith, a.refused5, s.refused5);
      refused6 = omega (arith, a.refused6, s.refused6);
      refused7 = omega (arith, a.refused7, s.refused7);
      moved = omega (arith, a.moved, s.moved);
      landed = omega (arith, a.landed, s.landed);
      places = s.places;
      cells = λ row column l g.
          let here = a.cells row column l g in
          let rest = s.cells row column l g in
          let both = answered_append (row_at row) (column_at column) ps qs in
          omega arith;
    }

pub counts_summed : (files : List (List ℕ)) → Summed empty_counts (counts_of files) files
unfolding counts_of empty_counts
counts_summed files = files_summed empty_counts files (length-replicate {A = ℕ} 273 0)
