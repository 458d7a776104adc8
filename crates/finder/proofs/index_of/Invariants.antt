-- `finder::index_of` meets its contract: the loop has put those of the zones before the next among five unused places. Assumes nothing.
use Rattle.std.proofs.Common.{◌+◌}
use Rattle.finder.proofs.Walk.{Walked}
use Rattle.finder.proofs.index_of.Given as goal

abbrev pub invariant-loop-i : goal.invariant-loop-i
invariant-loop-i l = Walked l.fn.f (l.i + 1) l.index.entries
