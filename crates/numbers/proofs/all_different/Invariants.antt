-- `numbers::all_different` meets its contract: what the loop has passed is not listed again. Assumes nothing.
use Rattle.field.specs.Lists.{all_different}
use Rattle.field.proofs.Arrays.{Walked}
use Rattle.numbers.proofs.all_different.Given as goal

abbrev pub invariant-loop-i : goal.invariant-loop-i
invariant-loop-i l = Walked all_different l.numbers 0 l.i
