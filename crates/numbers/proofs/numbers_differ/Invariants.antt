-- `numbers::numbers_differ` meets its contract. The loop's invariant: the zones that it has passed change nothing. Assumes nothing.
use mathlib.Core.List.{List, []}
use Rattle.field.specs.declared.Zone.{Zone}
use Rattle.field.proofs.Arrays.{Walked}
use Rattle.numbers.specs.Numbers.{numbers_of, apart}
use Rattle.numbers.proofs.numbers_differ.Given as goal

abbrev pub invariant-loop-i : goal.invariant-loop-i
invariant-loop-i l = Walked (λ (qs : List Zone). apart (numbers_of qs) []) l.fn.f.zones 0 l.i
