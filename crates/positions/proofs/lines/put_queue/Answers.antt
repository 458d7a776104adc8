-- `positions::lines::put_queue` meets its contract. The loop's invariant: those from the loop's place on are left to put. Assumes nothing.
use native.Mathlib.Omega.{arith}
use Rattle.text.proofs.Texts.{left_all, left_none}
use Rattle.positions.proofs.QueueLines.{queue_more, queue_past}
use Rattle.positions.proofs.lines.put_queue.Goals as goal

pub loop-a-init : goal.loop-a-init
loop-a-init c = left_all _ _ _

pub loop-a-preserved : goal.loop-a-preserved
loop-a-preserved c = queue_more _ _ _ _ _ c.queue-a-items.ensures (omega arith) c.loop-a.invariant c.put_position-next.ensures

pub returns : goal.returns
returns c = left_none c.loop-a.invariant (queue_past _ _ _ _ c.queue-a-items.ensures (omega arith))
