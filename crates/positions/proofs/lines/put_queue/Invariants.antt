-- `positions::lines::put_queue` meets its contract. The loop's invariant: those from the loop's place on are left to put. Assumes nothing.
use lib.ListN.{drop}
use Rattle.field.specs.Airspace.{queue_of}
use Rattle.text.proofs.Texts.{Left}
use Rattle.positions.specs.Positions.{queue_text}
use Rattle.positions.proofs.lines.put_queue.Given as goal

abbrev pub invariant-loop-a : goal.invariant-loop-a
invariant-loop-a l = Left l.initial.out l.at (queue_text l.zone (queue_of l.fn.q)) l.out l.next (queue_text l.zone (drop l.a-index (queue_of l.fn.q)))
