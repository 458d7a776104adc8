-- `positions::lines::put_sequence` meets its contract. The loop's invariant: the numbers from the loop's place on are left to put. Assumes nothing.
use mathlib.Core.Path.{subst}
use mathlib.Core.List.{List, ◌++◌}
use Prim.Native.Nat.{ℕ}
use native.Mathlib.Omega.{arith}
use lib.ListN.{length}
use Rattle.field.specs.Airspace.{order_length}
use Rattle.text.specs.Buffer.{Put}
use Rattle.text.proofs.Texts.{put_more, left_none}
use Rattle.positions.specs.Positions.{another, numbers_text, sequence_text}
use Rattle.positions.proofs.QueueLines.{order_more, order_past}
use Rattle.positions.proofs.lines.put_sequence.Goals as goal

pub loop-n-preserved : goal.loop-n-preserved
loop-n-preserved c = order_more c.loop-n.n-index c.order-order.result.now (omega arith) c.loop-n.invariant c.put_another-next-in-loop-n.ensures

pub returns : goal.returns
unfolding sequence_text order_length
returns c =
    subst (λ (os : List ℕ). Put c.args.out.now c.args.at (another (length os) ++ numbers_text os) c.loop-n.out c.loop-n.next) c.order-order.ensures
    (put_more c.put_another-next.ensures (left_none c.loop-n.invariant (order_past c.loop-n.n-index c.order-order.result.now (omega arith))))
