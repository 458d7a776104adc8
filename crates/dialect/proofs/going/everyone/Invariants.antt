-- `dialect::going::everyone` meets its contract. The loop's invariant: those of the sequence that are passed are in the array, and the rest of the
-- sequence gives the rest of the list. Assumes nothing.
use Rattle.std.proofs.Common.{◌≤◌, length}
use Rattle.dialect.proofs.Taken.{Taken}
use Rattle.dialect.proofs.going.everyone.Given as goal

abbrev pub invariant-loop-i : goal.invariant-loop-i
invariant-loop-i l = (length l.order ≤ 4) × Taken l.fn.f l.order l.entries l.i
