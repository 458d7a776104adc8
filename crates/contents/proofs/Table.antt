-- The test of a binder's table by its parts, and what is known of a table that passes. Assumes nothing.
use mathlib.Core.Path.{◌≡◌}
use mathlib.Core.List.{List}
use mathlib.Core.Bool.{true, ◌&&◌}
use Prim.Native.Nat.{ℕ, ◌≤◌}
use lib.Dec.{leb}
use lib.ListN.{length}
use borrow.Author.Tests.{leb-true}
use Rattle.request.specs.Input.{within}
use Rattle.request.proofs.InputTests.{both_left, both_right, within_low, within_high}
use Rattle.contents.specs.Contents.{entry_count, table_end, table_allowed}

pub record TableKnown (bytes : List ℕ) : Type 0 where
  pub size : length bytes ≤ 65536
  pub low : 1 ≤ entry_count bytes
  pub high : entry_count bytes ≤ 64
  pub fits : table_end bytes ≤ length bytes

pub table_known : (bytes : List ℕ) → table_allowed bytes ≡ true → TableKnown bytes
unfolding table_allowed
table_known bytes e =
    let n = entry_count bytes in
    let s = leb (length bytes) 65536 in
    let w = within 1 64 n in
    let f = leb (table_end bytes) (length bytes) in
    let sw = both_left (s && w) f e in
    record {
      size = leb-true (length bytes) 65536 (both_left s w sw);
      low = within_low 1 64 n (both_right s w sw);
      high = within_high 1 64 n (both_right s w sw);
      fits = leb-true (table_end bytes) (length bytes) (both_right (s && w) f e);
    }
