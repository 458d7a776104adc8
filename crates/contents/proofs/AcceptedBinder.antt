-- What is known of a binder that is accepted, and of a file that it holds. Assumes nothing.
use mathlib.Core.Path.{◌≡◌, refl, ap}
use mathlib.Core.List.{List}
use mathlib.Core.Bool.{Bool, true, false, cond, ◌&&◌}
use Prim.Native.Nat.{ℕ, ◌+◌, ◌≤◌, ◌<◌}
use native.Mathlib.Omega.{arith}
use lib.Dec.{eqb}
use lib.ListN.{length}
use borrow.Author.Tests.{eq-eqb, eqb-true}
use Rattle.request.proofs.InputTests.{both_left, both_right}
use Rattle.contents.specs.Contents.{entry_count, entry_place, offset_at, length_at, table_end, table_allowed, files_placed, binder_number, file_count}
use Rattle.contents.proofs.Table.{TableKnown, table_known}
use Rattle.contents.proofs.FilesPlaced.{file_within}

-- an accepted binder passes both tests
pub record AcceptedBinder (bytes : List ℕ) : Type 0 where
  pub table : TableKnown bytes
  pub placed : files_placed bytes ≡ true

pub accepted : (bytes : List ℕ) → binder_number bytes ≡ 0 → AcceptedBinder bytes
unfolding binder_number
accepted bytes e =
    let both = passed (table_allowed bytes && files_placed bytes) e in
    record {
      table = table_known bytes (both_left (table_allowed bytes) (files_placed bytes) both);
      placed = both_right (table_allowed bytes) (files_placed bytes) both;
    }
  where
    passed : (t : Bool) → cond {A = ℕ} t 0 30 ≡ 0 → t ≡ true
    passed true h = refl
    passed false h = absurd (omega arith)

-- it holds as many files as its table says
pub count_of : (bytes : List ℕ) → binder_number bytes ≡ 0 → file_count bytes ≡ entry_count bytes
unfolding file_count
count_of bytes e = ap (λ (t : Bool). cond t (entry_count bytes) 0) (eq-eqb (binder_number bytes) 0 e)

-- a binder that holds a file is accepted
pub holds_one : (bytes : List ℕ) (i : ℕ) → i < file_count bytes → binder_number bytes ≡ 0
unfolding file_count
holds_one bytes i h = eqb-true (binder_number bytes) 0 (passed (eqb (binder_number bytes) 0) h)
  where
    passed : (t : Bool) → i < cond t (entry_count bytes) 0 → t ≡ true
    passed true h = refl
    passed false h = absurd (omega arith)

-- the i-th file's entry is in the binder, and so is the file
pub record Held (bytes : List ℕ) (i : ℕ) : Type 0 where
  pub entry : entry_place i + 8 ≤ length bytes
  pub whole : offset_at bytes i + length_at bytes i ≤ length bytes

pub held : (bytes : List ℕ) (i : ℕ) → i < file_count bytes → Held bytes i
unfolding files_placed
held bytes i h =
    let e = holds_one bytes i h in
    let n = count_of bytes e in
    let a = accepted bytes e in
    let k = a.table in
    let z : i + 0 ≡ i = omega arith in
    record {
      entry = omega arith;
      whole = rw z at (file_within bytes (entry_count bytes) (table_end bytes) 0 i a.placed (omega arith));
    }

-- no binder holds more than 64 files
pub count_high : (bytes : List ℕ) → file_count bytes ≤ 64
unfolding file_count
count_high bytes = by (eqb (binder_number bytes) 0) refl
  where
    by : (t : Bool) → eqb (binder_number bytes) 0 ≡ t → cond t (entry_count bytes) 0 ≤ 64
    by true e = (accepted bytes (eqb-true (binder_number bytes) 0 e)).table.high
    by false e = omega arith
