-- `numbers::apart` meets its contract. The loop's invariant: those it has passed change nothing. Assumes nothing.
use mathlib.Core.List.{List}
use Rattle.field.specs.declared.Aircraft.{Aircraft}
use Rattle.field.proofs.Arrays.{Walked}
use Rattle.numbers.specs.Numbers.{numbers_of, apart}
use Rattle.numbers.proofs.NumbersOf.{numbers}
use Rattle.numbers.proofs.apart.Given as goal

abbrev pub invariant-loop-i : goal.invariant-loop-i
invariant-loop-i l = Walked (λ (xs : List Aircraft). apart (numbers xs) (numbers_of l.behind)) l.queue 0 l.i
