-- `positions::lines::put_sequence` meets its contract. The loop's invariant: the numbers from the loop's place on are left to put. Assumes nothing.
use lib.ListN.{drop}
use Rattle.text.proofs.Texts.{Left}
use Rattle.positions.specs.Positions.{numbers_text}
use Rattle.positions.proofs.lines.put_sequence.Given as goal

abbrev pub invariant-loop-n : goal.invariant-loop-n
invariant-loop-n l = Left l.initial.out l.initial.next (numbers_text l.order) l.out l.next (numbers_text (drop l.n-index l.order))
