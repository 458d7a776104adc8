-- `dialect_field::coming::all_placed` meets its contract. The loop's invariant is `Placed`. Assumes nothing.
use Rattle.std.proofs.Common.{arith, refl, sym}
use Rattle.field.proofs.TestParts.{holds, fails}
use Rattle.dialect_field.proofs.Walks.{placed_more, placed_stop, placed_all}
use Rattle.dialect_field.proofs.coming.all_placed.Goals as goal

pub loop-i-init : goal.loop-i-init
loop-i-init c = refl

pub returns-then-not-is_placed : goal.returns-then-not-is_placed
returns-then-not-is_placed c =
    sym (placed_stop c.args.entries.now c.loop-i.i c.loop-i-test.true c.loop-i.invariant _ c.entry_in.ensures (fails c.is_placed.ensures c.if-not-is_placed.true-raw))

pub loop-i-preserved : goal.loop-i-preserved
loop-i-preserved c =
    placed_more c.args.entries.now c.loop-i.i c.loop-i-test.true c.loop-i.invariant _ c.entry_in.ensures (holds c.is_placed.ensures c.if-not-is_placed.false-raw)

pub returns : goal.returns
returns c = sym (placed_all c.args.entries.now c.loop-i.i (omega arith) c.loop-i.invariant)
