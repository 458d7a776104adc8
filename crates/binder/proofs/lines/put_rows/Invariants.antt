-- `binder::lines::put_rows` meets its contract. The loop's invariant: the rows before this one are put. Assumes nothing.
use mathlib.Core.List.{List}
use Prim.Native.Nat.{ℕ, ◌*◌, ◌≤◌}
use lib.ListN.{length}
use Rattle.text.specs.Buffer.{Put}
use Rattle.binder.specs.Counts.{rows_to}
use Rattle.binder.proofs.lines.put_rows.Given as goal

pub record Rows (out₀ : List ℕ) (at : ℕ) (cells : List ℕ) (out : List ℕ) (end row : ℕ) : Type 0 where
  pub lines : Put out₀ at (rows_to cells row) out end
  pub short : length (rows_to cells row) ≤ 450 * row

abbrev pub invariant-loop-row : goal.invariant-loop-row
invariant-loop-row l = Rows l.initial.out l.at l.cells l.out l.end l.row
