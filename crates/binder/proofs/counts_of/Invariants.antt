-- `binder::counts_of` meets its contract. The loop's invariant is `Counting`: the files before the i-th are counted. Assumes nothing.
use Rattle.binder.proofs.Adding.{Counting}
use Rattle.binder.proofs.counts_of.Given as goal

abbrev pub invariant-loop-i : goal.invariant-loop-i
invariant-loop-i l = Counting l.binder l.i-end l.c l.i
