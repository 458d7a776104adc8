-- The list of a binder's files: how many it has, its i-th, and that one after the other they are the bytes after the table. Assumes nothing.
use mathlib.Core.Path.{◌≡◌, refl, sym, ap, ◌∙◌}
use mathlib.Core.List.{List, [], ◌++◌, flatten}
use mathlib.Core.Bool.{Bool, true, cond}
use Prim.Native.Nat.{ℕ, zero, suc, ◌+◌, ◌≤◌, ◌<◌}
use native.Mathlib.Omega.{arith}
use lib.Dec.{eqb}
use lib.ListN.{length, get_or, take, drop, take-append-drop, drop_of_length-le}
use lib.Seq.{drop-drop}
use borrow.Author.Tests.{lt-ltb, eqb-true, ne_eqb}
use Rattle.request.proofs.InputTests.{both_left, both_right}
use Rattle.practice.specs.Sections.{stretch}
use Rattle.contents.specs.Contents.{entry_count, offset_at, length_at, table_end, back_to_back, files_placed, binder_number, file_count, file_at, files_from, files_of}
use Rattle.contents.proofs.AcceptedBinder.{accepted, count_of}

module _ (bytes : List ℕ) where
  -- the bytes of a file that the binder holds
  pub file_held : (i : ℕ) → i < file_count bytes → file_at bytes i ≡ stretch bytes (offset_at bytes i) (length_at bytes i)
  file_held i h = ap (λ (b : Bool). stretch bytes (cond b (offset_at bytes i) 0) (cond b (length_at bytes i) 0)) (lt-ltb i (file_count bytes) h)

  -- the i-th file and the bytes after it
  one_file : (at i : ℕ) → i < file_count bytes → offset_at bytes i ≡ at → file_at bytes i ++ drop (at + length_at bytes i) bytes ≡ drop at bytes
  one_file at i h o =
      ap (λ (l : List ℕ). l ++ drop (at + length_at bytes i) bytes) (file_held i h ∙ ap (λ (n : ℕ). stretch bytes n (length_at bytes i)) o)
      ∙ ap (λ (l : List ℕ). take (length_at bytes i) (drop at bytes) ++ l) (sym (drop-drop (length_at bytes i) at bytes))
      ∙ take-append-drop (length_at bytes i) (drop at bytes)

  -- the n files from the i-th on, and the bytes from where the first of them begins
  from_there : (n at i : ℕ) → n + i ≤ file_count bytes → back_to_back bytes at i n ≡ true → flatten (files_from bytes i n) ≡ drop at bytes
  unfolding flatten
  from_there zero at i h e = let l = eqb-true at (length bytes) e in sym (drop_of_length-le bytes {i = at} (omega arith))
  from_there (suc n) at i h e =
      let first = eqb (offset_at bytes i) at in
      let rest = back_to_back bytes (at + length_at bytes i) (suc i) n in
      ap (λ (l : List ℕ). file_at bytes i ++ l) (from_there n (at + length_at bytes i) (suc i) (omega arith) (both_right first rest e))
      ∙ one_file at i (omega arith) (eqb-true (offset_at bytes i) at (both_left first rest e))

  pub files_joined : binder_number bytes ≡ 0 → flatten (files_of bytes) ≡ drop (table_end bytes) bytes
  unfolding files_of files_placed
  files_joined e =
      let n = count_of bytes e in
      ap (λ (k : ℕ). flatten (files_from bytes 0 k)) n ∙ from_there (entry_count bytes) (table_end bytes) 0 (omega arith) (accepted bytes e).placed

  -- a refused binder has no files
  pub files_none : (binder_number bytes ≡ 0 → ⊥) → files_of bytes ≡ []
  unfolding files_of file_count
  files_none e = simp (ne_eqb (binder_number bytes) 0 e)

  from_count : (n i : ℕ) → length (files_from bytes i n) ≡ n
  from_count zero i = refl
  from_count (suc n) i = ap suc (from_count n (suc i))

  pub files_count : length (files_of bytes) ≡ file_count bytes
  unfolding files_of
  files_count = from_count (file_count bytes) 0

  from_at : (n i k : ℕ) → k < n → get_or (files_from bytes i n) k [] ≡ file_at bytes (k + i)
  from_at zero i k h = absurd (omega arith)
  from_at (suc n) i zero h = let e : i ≡ 0 + i = omega arith in ap (file_at bytes) e
  from_at (suc n) i (suc k) h =
      let e : k + suc i ≡ suc k + i = omega arith in
      from_at n (suc i) k (omega arith) ∙ ap (file_at bytes) e

  pub files_at : (i : ℕ) → i < file_count bytes → get_or (files_of bytes) i [] ≡ file_at bytes i
  unfolding files_of
  files_at i h = let e : i + 0 ≡ i = omega arith in from_at (file_count bytes) 0 i h ∙ ap (file_at bytes) e
