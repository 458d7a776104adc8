-- `dialect_field::coming::all_placed` meets its contract. The loop's invariant is `Placed`. Assumes nothing.
use Rattle.dialect_field.proofs.Walks.{Placed}
use Rattle.dialect_field.proofs.coming.all_placed.Given as goal

abbrev pub invariant-loop-i : goal.invariant-loop-i
invariant-loop-i l = Placed l.entries l.i
