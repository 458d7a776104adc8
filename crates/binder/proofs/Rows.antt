-- The lines of the table's rows, and how long the lines of a report are. Assumes nothing.
use mathlib.Core.Path.{◌≡◌, refl, sym, ap, ◌∙◌}
use mathlib.Core.Bool.{Bool, cond}
use mathlib.Core.List.{List, [], ◌∷◌, ◌++◌}
use Prim.Native.Nat.{ℕ, zero, suc, ◌+◌, ◌*◌, ◌/◌, ◌^◌, ◌≤◌, ◌<◌}
use native.Mathlib.Omega.{arith}
use lib.Dec.{eqb}
use lib.ListN.{length, get_or, take, drop, length-append, length-drop}
use lib.Seq.{append_snoc, length-take-le}
use Rattle.std.specs.Simd.{first_chunks}
use Rattle.std.proofs.lemmas.List.{drop-drop}
use Rattle.practice.specs.Sections.{stretch}
use borrow.Author.Tests.{eqb-true, ne_eqb}
use Rattle.field.proofs.TestLaws.{passed, every_from}
use Rattle.text.specs.Text.{digits_up_to, decimal, space, line_of}
use Rattle.text.specs.Buffer.{room}
use Rattle.text.proofs.Texts.{decimal_short, line_length, line_short}
use Rattle.binder.specs.declared.counts.Counts.{Counts}
use Rattle.binder.specs.Counting.{rows, columns}
use Rattle.binder.specs.Week.{files_line, refused_files_line, heading_line, row_line, moves_line, landings_line, refused_binder}
use Rattle.binder.specs.Counts.{row_at, rows_to, week_lines}

-- the rows are those of kinds 1 to 12, and the last is row 0
row_kind : (row : ℕ) → row < 12 → row_at row ≡ row + 1
unfolding rows
row_kind row h = eqb-true (row_at row) (row + 1) (passed (every_from (λ r. eqb (row_at r) (r + 1)) 0 12 tt row (omega arith) (omega arith)))

-- the i-th chunk of a list
chunk_at : (n k : ℕ) (xs : List ℕ) (i : ℕ) → i < k → get_or (first_chunks n k xs) i [] ≡ take n (drop (n * i) xs)
chunk_at n zero xs i h = absurd (omega arith)
chunk_at n (suc k) xs zero h = ap (λ (m : ℕ). take n (drop m xs)) {x = 0} {y = n * 0} (omega arith)
chunk_at n (suc k) xs (suc i) h =
    let more : n + n * i ≡ n * suc i = omega arith in
    chunk_at n k (drop n xs) i (omega arith) ∙ ap (take n) (drop-drop (n * i) n xs) ∙ ap (λ (m : ℕ). take n (drop m xs)) more

-- a row of the table is a stretch of its places
module _ (cells : List ℕ) (rows : List (List ℕ)) (places : length cells ≡ 273) (e : rows ≡ first_chunks 21 (length cells / 21) cells) (row : ℕ) (h : row < 13) where
  pub row_here : get_or rows row [] ≡ stretch cells (21 * row) 21
  row_here =
      let k : length cells / 21 ≡ 13 = omega arith in
      ap (λ (rs : List (List ℕ)). get_or rs row []) e ∙ ap (λ (n : ℕ). get_or (first_chunks 21 n cells) row []) k ∙ chunk_at 21 13 cells row h

  pub row_size : length (get_or rows row []) ≡ 21
  row_size = ap length row_here ∙ length-take-le 21 (drop (21 * row) cells) (simp length-drop (omega arith))

module _ (row : ℕ) (counts : List ℕ) where
  module _ (h : row < 12) where
    pub kind_row : row_line (row_at row) counts ≡ decimal (row + 1) ++ (space ∷ []) ++ line_of counts
    unfolding row_line
    kind_row =
        let not_last : eqb (row + 1) 0 ≡ _ = ne_eqb (row + 1) 0 (λ e. omega arith) in
        ap (λ (k : ℕ). row_line k counts) (row_kind row h)
        ∙ ap (λ (b : Bool). cond b (111 ∷ 116 ∷ 104 ∷ 101 ∷ 114 ∷ []) (decimal (row + 1)) ++ (space ∷ line_of counts)) not_last
        ∙ sym (append_snoc (decimal (row + 1)) space (line_of counts))

    pub kind-row-short : length counts ≡ 21 → ((i : ℕ) → get_or counts i 0 < 2 ^ 64) → length (row_line (row_at row) counts) ≤ 450
    kind-row-short n w =
        let e = ap length kind_row in
        let a = length-append (decimal (row + 1) ++ (space ∷ [])) (line_of counts) in
        let b = length-append (decimal (row + 1)) (space ∷ []) in
        let d = decimal_short 1 (row + 1) (omega arith) in
        let l = line_short counts w in
        omega arith

  module _ (h : row ≡ 12) where
    pub other_row : row_line (row_at row) counts ≡ (111 ∷ 116 ∷ 104 ∷ 101 ∷ 114 ∷ space ∷ []) ++ line_of counts
    unfolding row_line rows
    other_row = ap (λ (r : ℕ). row_line (row_at r) counts) h

    pub other-row-short : length counts ≡ 21 → ((i : ℕ) → get_or counts i 0 < 2 ^ 64) → length (row_line (row_at row) counts) ≤ 450
    other-row-short n w =
        let e = ap length other_row in
        let l = line_short counts w in
        omega arith

-- ---- how long the whole report is
module _ (n : ℕ) (h : n < 2 ^ 64) where
  number_short : length (line_of (n ∷ [])) ≤ 21
  number_short = line_length n [] 19 (omega arith)

  files_short : length (files_line n) ≤ 27
  unfolding files_line
  files_short = let l = number_short in omega arith

  refused_short : (number : ℕ) → number < 10 → length (refused_files_line number n) ≤ 31
  unfolding refused_files_line
  refused_short number g = let l = number_short in let k = line_length number (n ∷ []) 0 (omega arith) in omega arith

  moves_short : length (moves_line n) ≤ 27
  unfolding moves_line
  moves_short = let l = number_short in omega arith

  landings_short : length (landings_line n) ≤ 30
  unfolding landings_line
  landings_short = let l = number_short in omega arith

  pub binder_short : length (refused_binder n) ≤ 28
  unfolding refused_binder
  binder_short = let l = number_short in omega arith

heading_length : length heading_line ≡ 63
unfolding heading_line columns decimal digits_up_to
heading_length = refl

-- the counts of a report have 64 bits
pub record Counted64 (c : Counts) : Type 0 where
  pub played : c.played < 2 ^ 64
  pub refused5 : c.refused5 < 2 ^ 64
  pub refused6 : c.refused6 < 2 ^ 64
  pub refused7 : c.refused7 < 2 ^ 64
  pub moves : c.moves < 2 ^ 64
  pub landings : c.landings < 2 ^ 64

pub week_short : (c : Counts) → Counted64 c → length (rows_to c.cells 13) ≤ 5850 → length (week_lines c) ≤ room
unfolding week_lines
week_short c w h =
    let l1 = files_line c.played in
    let l2 = l1 ++ refused_files_line 5 c.refused5 in
    let l3 = l2 ++ refused_files_line 6 c.refused6 in
    let l4 = l3 ++ refused_files_line 7 c.refused7 in
    let l5 = l4 ++ heading_line in
    let l6 = l5 ++ rows_to c.cells 13 in
    let l7 = l6 ++ moves_line c.moves in
    let a1 = length-append l1 (refused_files_line 5 c.refused5) in
    let a2 = length-append l2 (refused_files_line 6 c.refused6) in
    let a3 = length-append l3 (refused_files_line 7 c.refused7) in
    let a4 = length-append l4 heading_line in
    let a5 = length-append l5 (rows_to c.cells 13) in
    let a6 = length-append l6 (moves_line c.moves) in
    let a7 = length-append l7 (landings_line c.landings) in
    let f = files_short c.played w.played in
    let r5 = refused_short c.refused5 w.refused5 5 (omega arith) in
    let r6 = refused_short c.refused6 w.refused6 6 (omega arith) in
    let r7 = refused_short c.refused7 w.refused7 7 (omega arith) in
    let m = moves_short c.moves w.moves in
    let l = landings_short c.landings w.landings in
    let k = heading_length in
    omega arith
