-- `finder::with_entry` meets its contract: the places that the loop has passed are written, and an entry goes on. Assumes nothing.
use Rattle.finder.proofs.Putting.{Putting}
use Rattle.finder.proofs.with_entry.Given as goal

abbrev pub invariant-loop-entry : goal.invariant-loop-entry
invariant-loop-entry l = Putting l.initial.moved l.initial.entry-items l.entry-items l.moved l.entry-index
