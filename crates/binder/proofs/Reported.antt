-- The report made of the counts is the report of the files. Assumes nothing.
use mathlib.Core.Path.{◌≡◌, refl, sym, ap, ◌∙◌}
use mathlib.Core.Bool.{Bool, cond}
use mathlib.Core.List.{List, [], ◌∷◌, ◌++◌, map, append_assoc, append-nil}
use Prim.Native.Nat.{ℕ, zero, suc, ◌+◌, ◌*◌, ◌≤◌, ◌<◌}
use native.Mathlib.Omega.{arith}
use lib.ListN.{length, get_or, take, drop}
use lib.Seq.{drop-cons}
use borrow.Author.Tests.{eq-eqb, ne_eqb}
use Rattle.request.specs.declared.Request.{Request}
use Rattle.practice.specs.Sections.{stretch}
use Rattle.rules.specs.declared.Answer.{Answer}
use Rattle.rules.specs.Play.{moves}
use Rattle.contents.specs.Contents.{binder_number, files_of}
use Rattle.binder.specs.Counting.{answers_in, rows, columns, answered, landings, files_numbered}
use Rattle.binder.specs.Week.{files_line, refused_files_line, heading_line, row_line, row_lines, moves_line, landings_line, refused_binder, files_report, week_of}
use Rattle.binder.specs.Counts.{row_at, empty_counts, counts_of, rows_to, week_lines}
use Rattle.binder.proofs.Adding.{small_none}
use Rattle.binder.proofs.Sums.{Summed, counts_summed}

-- a stretch of a list that holds, place by place, what a function gives for another list
stretch_map : (f : ℕ → ℕ) (ns l : List ℕ) (at : ℕ) → at + length ns ≤ length l → ((k : ℕ) → k < length ns → get_or l (at + k) 0 ≡ f (get_or ns k 0)) → take (length ns) (drop at l) ≡ map f ns
stretch_map f [] l at h w = refl
stretch_map f (n ∷ ns) l at h w =
    let first : get_or l at 0 ≡ f n = ap (λ (j : ℕ). get_or l j 0) {x = at} {y = at + 0} (omega arith) ∙ w 0 (omega arith) in
    let rest = stretch_map f ns l (suc at) (omega arith) (λ k g. ap (λ (j : ℕ). get_or l j 0) {x = suc at + k} {y = at + suc k} (omega arith) ∙ w (suc k) (omega arith)) in
    ap (take (suc (length ns))) (drop-cons l at 0 (omega arith)) ∙ ap (λ (m : ℕ). m ∷ take (length ns) (drop (suc at) l)) first ∙ ap (λ (xs : List ℕ). f n ∷ xs) rest

twenty_one : length columns ≡ 21
unfolding columns
twenty_one = refl

thirteen : length rows ≡ 13
unfolding rows
thirteen = refl

-- a place of the table before the first file
zero_cell : (i : ℕ) → get_or empty_counts.cells i 0 ≡ 0
zero_cell i = let h = small_none.cells i in omega arith

module _ (files : List (List ℕ)) where
  abbrev summed : Summed empty_counts (counts_of files) files
  summed = counts_summed files

  abbrev answers : List (Request × Answer)
  answers = answers_in files

  -- a row of the table
  row_counts : (row : ℕ) → row < 13 → stretch (counts_of files).cells (21 * row) 21 ≡ map (λ number. answered (row_at row) number answers) columns
  row_counts row h =
      let size = twenty_one in
      let places = summed.places in
      ap (λ (n : ℕ). take n (drop (21 * row) (counts_of files).cells)) (sym size)
      ∙ stretch_map (λ number. answered (row_at row) number answers) columns (counts_of files).cells (21 * row) (omega arith)
      (λ k g. let cell = summed.cells row k h (omega arith) in let z = zero_cell (21 * row + k) in omega arith)

  -- none is left after thirteen
  no_rows : [] ≡ drop 13 rows
  unfolding rows
  no_rows = refl

  -- the first rows, and those that are left
  rows_so_far : (row : ℕ) → row ≤ 13 → rows_to (counts_of files).cells row ++ row_lines (drop row rows) answers ≡ row_lines rows answers
  rows_so_far zero h = refl
  rows_so_far (suc row) h =
      let n = thirteen in
      let first = rows_to (counts_of files).cells row in
      let rest = row_lines (drop (suc row) rows) answers in
      append_assoc first (row_line (row_at row) (stretch (counts_of files).cells (21 * row) 21)) rest
      ∙ ap (λ (counts : List ℕ). first ++ (row_line (row_at row) counts ++ rest)) (row_counts row (omega arith))
      ∙ sym (ap (λ (rs : List ℕ). first ++ row_lines rs answers) (drop-cons rows row 0 (omega arith)))
      ∙ rows_so_far row (omega arith)

  all_rows : rows_to (counts_of files).cells 13 ≡ row_lines rows answers
  all_rows = sym (append-nil (rows_to (counts_of files).cells 13)) ∙ none_left ∙ rows_so_far 13 (omega arith)
    where
      none_left : rows_to (counts_of files).cells 13 ++ [] ≡ rows_to (counts_of files).cells 13 ++ row_lines (drop 13 rows) answers
      none_left = ap (λ (rs : List ℕ). rows_to (counts_of files).cells 13 ++ row_lines rs answers) no_rows

  -- the lines of the counts are those of the files
  pub lines_are_report : week_lines (counts_of files) ≡ files_report files
  unfolding week_lines files_report empty_counts
  lines_are_report =
      let c = counts_of files in
      let p : c.played ≡ files_numbered 0 files = omega (arith, summed.played) in
      let r5 : c.refused5 ≡ files_numbered 5 files = omega (arith, summed.refused5) in
      let r6 : c.refused6 ≡ files_numbered 6 files = omega (arith, summed.refused6) in
      let r7 : c.refused7 ≡ files_numbered 7 files = omega (arith, summed.refused7) in
      let m : c.moves ≡ moves answers = omega (arith, summed.moved) in
      let l : c.landings ≡ landings answers = omega (arith, summed.landed) in
      let t = all_rows in
      λ i.
      files_line (p i) ++ refused_files_line 5 (r5 i) ++ refused_files_line 6 (r6 i) ++ refused_files_line 7 (r7 i) ++ heading_line ++ t i ++ moves_line (m i) ++ landings_line (l i)

-- the report of a binder, accepted or refused
module _ (bytes : List ℕ) where
  abbrev week_by : Bool → List ℕ
  week_by t = cond t (files_report (files_of bytes)) (refused_binder (binder_number bytes))

  pub week_accepted : binder_number bytes ≡ 0 → week_of bytes ≡ week_lines (counts_of (files_of bytes))
  unfolding week_of
  week_accepted e = ap week_by (eq-eqb (binder_number bytes) 0 e) ∙ sym (lines_are_report (files_of bytes))

  pub week_refused : (binder_number bytes ≡ 0 → ⊥) → week_of bytes ≡ refused_binder (binder_number bytes)
  unfolding week_of
  week_refused n = ap week_by (ne_eqb (binder_number bytes) 0 n)
