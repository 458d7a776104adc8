-- The counts with one more answer, with the first answers of a log and with one more file: what they are, and how far they grow. Assumes
-- nothing.
use mathlib.Core.Path.{◌≡◌, refl, sym, ap, ◌∙◌, subst, subst⁻¹}
use mathlib.Core.Bool.{Bool, true, false}
use mathlib.Core.List.{List, [], ◌∷◌, ◌++◌}
use Prim.Native.Nat.{ℕ, zero, suc, ◌+◌, ◌-◌, ◌*◌, ◌/◌, ◌≤◌, ◌<◌}
use native.Mathlib.Numerals.{add-one}
use native.Mathlib.Omega.{arith}
use lib.Dec.{eqb}
use lib.ListN.{length, get_or, set, take, drop, drop_of_length-le, replicate, length-set, length-replicate}
use lib.Seq.{drop-cons, get_or-set_same, get_or-set_other}
use borrow.Author.Tests.{eq-eqb, eqb-true, eqb-false}
use Rattle.request.specs.Input.{within}
use Rattle.request.specs.declared.Request.{Request}
use Rattle.practice.specs.File.{file_number}
use Rattle.rules.specs.declared.Answer.{Answer}
use Rattle.playing.specs.declared.Played.{Played}
use Rattle.playing.specs.Playing.{answers_of, played_of}
use Rattle.playing.specs.Log.{log_entry, log_of}
use Rattle.playing.proofs.LogEntries.{log_entries}
use Rattle.std.specs.Simd.{first_chunks}
use Rattle.std.proofs.Common.{map}
use Rattle.field.specs.Lists.{Each}
use Rattle.playing.proofs.PlayedFiles.{answers_count}
use Rattle.contents.specs.Contents.{file_count, file_at, files_from, files_of}
use Rattle.binder.specs.declared.counts.Counts.{Counts}
use Rattle.binder.specs.Counting.{columns, listed}
use Rattle.week_table.specs.Table.{cell_of}
use Rattle.binder.specs.Counts.{Small, Columned, is_column, empty_counts, with_answer, with_answers, with_number, with_file, with_files, counts_of}
use Rattle.binder.proofs.CountedOnce.{Headed, headed_file}
use Rattle.week_table.proofs.KindRows.{one_low, of_few}
use Rattle.binder.proofs.Cells.{cell_low}

-- one place of a table grows by one
pub one_larger : (cells : List ℕ) (cell bound : ℕ) → cell < length cells → ((k : ℕ) → get_or cells k 0 ≤ bound) → (k : ℕ) → get_or (set cells cell (get_or cells cell 0 + 1)) k 0 ≤ suc bound
one_larger cells cell bound h w k = go (eqb k cell) refl
  where
    go : (b : Bool) → eqb k cell ≡ b → get_or (set cells cell (get_or cells cell 0 + 1)) k 0 ≤ suc bound
    go true e =
        let same = eqb-true k cell e in
        let g = ap (λ (j : ℕ). get_or (set cells cell (get_or cells cell 0 + 1)) j 0) same ∙ get_or-set_same cells cell (get_or cells cell 0 + 1) 0 h in
        let l = w cell in
        omega arith
    go false e = let g = get_or-set_other cells cell k (get_or cells cell 0 + 1) 0 (eqb-false k cell e) in let l = w k in omega arith

-- ---- the bounds

-- counts within a bound are within a higher one
pub small_up : {b d : ℕ} {c : Counts} → b ≤ d → Small b c → Small d c
small_up h s =
    record {
      places = s.places;
      played = omega (arith, s.played);
      refused5 = omega (arith, s.refused5);
      refused6 = omega (arith, s.refused6);
      refused7 = omega (arith, s.refused7);
      moves = omega (arith, s.moves);
      landings = omega (arith, s.landings);
      cells = λ i. let k = s.cells i in omega arith;
    }

pub small_none : Small 0 empty_counts
unfolding empty_counts
small_none =
    record {
      places = length-replicate {A = ℕ} 273 0;
      played = omega arith;
      refused5 = omega arith;
      refused6 = omega arith;
      refused7 = omega arith;
      moves = omega arith;
      landings = omega arith;
      cells = λ i. zeros 273 i;
    }
  where
    zeros : (n i : ℕ) → get_or (replicate n 0) i 0 ≤ 0
    zeros zero i = omega arith
    zeros (suc n) zero = omega arith
    zeros (suc n) (suc i) = zeros n i

-- one file more, and one answer more
pub small_number : {b : ℕ} (c : Counts) (number : ℕ) → Small b c → Small (suc b) (with_number c number)
unfolding with_number
small_number c number s =
    record {
      places = s.places;
      played = let l = one_low (eqb number 0) in omega (arith, s.played);
      refused5 = let l = one_low (eqb number 5) in omega (arith, s.refused5);
      refused6 = let l = one_low (eqb number 6) in omega (arith, s.refused6);
      refused7 = let l = one_low (eqb number 7) in omega (arith, s.refused7);
      moves = omega (arith, s.moves);
      landings = omega (arith, s.landings);
      cells = λ i. let k = s.cells i in omega arith;
    }

pub small_answer : {b : ℕ} (c : Counts) (kind number : ℕ) → is_column number ≡ true → Small b c → Small (suc b) (with_answer c kind number)
unfolding with_answer
small_answer {b} c kind number e s =
    let h = cell_low kind number e in
    let n = s.places in
    record {
      places = length-set c.cells (cell_of kind number) (get_or c.cells (cell_of kind number) 0 + 1) ∙ n;
      played = omega (arith, s.played);
      refused5 = omega (arith, s.refused5);
      refused6 = omega (arith, s.refused6);
      refused7 = omega (arith, s.refused7);
      moves = let l = of_few (within 3 11) kind number in omega (arith, s.moves);
      landings = let l = of_few (λ k. eqb k 7) kind number in omega (arith, s.landings);
      cells = one_larger c.cells (cell_of kind number) b (omega arith) s.cells;
    }

pub small_counted : {b n : ℕ} (c : Counts) (entries : List (List ℕ)) → Each Columned entries → b + length entries ≤ n → Small b c → Small n (with_answers c entries)
small_counted c [] w h s = small_up (omega arith) s
small_counted c (entry ∷ entries) w h s = small_counted (with_answer c (get_or entry 0 0) (get_or entry 1 0)) entries w.1 (omega arith) (small_answer c (get_or entry 0 0) (get_or entry 1 0) w.0 s)

-- ---- the entries from the i-th on
module _ (entries : List (List ℕ)) (i : ℕ) (d : List ℕ) (h : i < length entries) where
  pub columned_here : Each Columned (drop i entries) → Columned (get_or entries i d) × Each Columned (drop (i + 1) entries)
  columned_here w = rw (add-one) (subst (Each Columned) (drop-cons entries i d h) w)

  pub answers_here : (c : Counts) → with_answers (with_answer c (get_or (get_or entries i d) 0 0) (get_or (get_or entries i d) 1 0)) (drop (i + 1) entries) ≡ with_answers c (drop i entries)
  answers_here c = rw (add-one) (sym (ap (with_answers c) (drop-cons entries i d h)))

pub no_answers : (c : Counts) (entries : List (List ℕ)) (i : ℕ) → length entries ≤ i → with_answers c (drop i entries) ≡ c
no_answers c entries i h = ap (with_answers c) (drop_of_length-le entries h)

-- ---- the log of a file

-- every number of a file's log heads a column
log_columned : (ps : List (Request × Answer)) → Headed ps → Each Columned (map log_entry ps)
unfolding is_column
log_columned [] h = tt
log_columned (p ∷ ps) h = (eq-eqb (listed columns p.1.number) 1 h.0, log_columned ps h.1)

module _ (file rest : List ℕ) {p : Played} {log : List ℕ} (q : p ≡ played_of file) (l : log ≡ log_of (answers_of file) ++ rest) where
  -- the entries of a file that was played
  pub file_entries : first_chunks 7 (length (take (7 * p.requests) log) / 7) (take (7 * p.requests) log) ≡ map log_entry (answers_of file)
  file_entries = log_entries (answers_of file) rest log p.requests l (ap (λ (u : Played). u.requests) q ∙ answers_count file)

  pub file_columned : {entries : List (List ℕ)} → entries ≡ first_chunks 7 (length (take (7 * p.requests) log) / 7) (take (7 * p.requests) log) → Each Columned entries
  file_columned e = subst⁻¹ (Each Columned) (e ∙ file_entries) (log_columned (answers_of file) (headed_file file))

  -- it is counted by its number and by its entries
  pub file_counted : (c : Counts) {d e : Counts} {entries : List (List ℕ)} → entries ≡ first_chunks 7 (length (take (7 * p.requests) log) / 7) (take (7 * p.requests) log)
      → d ≡ with_number c p.number → e ≡ with_answers d entries → e ≡ with_file c file
  unfolding with_file played_of
  file_counted c {d} {e} {entries} k n a =
      let number : p.number ≡ file_number file = ap (λ (u : Played). u.number) q in
      a ∙ ap (with_answers d) (k ∙ file_entries) ∙ ap (λ (u : Counts). with_answers u (map log_entry (answers_of file))) (n ∙ ap (with_number c) number)

-- ---- file by file
module _ (bytes : List ℕ) where
  -- when what is left is counted, all is counted
  pub record Counting (count : ℕ) (c : Counts) (i : ℕ) : Type 0 where
    pub whole : with_files c (files_from bytes i (count - i)) ≡ counts_of (files_of bytes)
    pub small : Small (4097 * i) c

  pub counting_none : (count : ℕ) → count ≡ file_count bytes → Counting count empty_counts 0
  unfolding counts_of files_of
  counting_none count e =
      let z : count - 0 ≡ file_count bytes = omega arith in
      record { whole = ap (λ (n : ℕ). with_files empty_counts (files_from bytes 0 n)) z; small = small_none }

  module _ {count : ℕ} {c : Counts} {i : ℕ} (k : Counting count c i) where
    pub counting_more : {d : Counts} → i < count → d ≡ with_file c (file_at bytes i) → Small (4097 * (i + 1)) d → Counting count d (i + 1)
    counting_more {d} h e s =
        let n : count - i ≡ suc (count - (i + 1)) = omega arith in
        record {
          whole = ap (λ (u : Counts). with_files u (files_from bytes (i + 1) (count - (i + 1)))) e
              ∙ ap (λ (j : ℕ). with_files (with_file c (file_at bytes i)) (files_from bytes j (count - (i + 1)))) (add-one i)
              ∙ sym (ap (λ (m : ℕ). with_files c (files_from bytes i m)) n)
              ∙ k.whole;
          small = s;
        }

    pub counting_all : count ≤ i → c ≡ counts_of (files_of bytes)
    counting_all h = let z : count - i ≡ 0 = omega arith in sym (ap (λ (m : ℕ). with_files c (files_from bytes i m)) z) ∙ k.whole
