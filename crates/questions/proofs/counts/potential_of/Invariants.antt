-- `questions::counts::potential_of` meets its contract. The loop's invariant: what is added up before a zone. Assumes nothing.
use Prim.Native.Nat.{◌+◌}
use Rattle.questions.specs.Counts.{counted_for}
use Rattle.questions.proofs.Totals.{Added}
use Rattle.questions.proofs.counts.potential_of.Given as goal

abbrev pub invariant-loop-i : goal.invariant-loop-i
invariant-loop-i l = Added (counted_for l.fn.f l.side) 1 12 l.n (l.i + 1)
