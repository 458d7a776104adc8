-- `encoding::put_each` meets its contract: those from the one at hand on are its bytes and those of the rest. Assumes nothing.
use Rattle.text.proofs.Texts.{left_more}
use Rattle.encoding.proofs.EachPut.{each_from}
use Rattle.encoding.proofs.put_each.Goals as goal

pub loop-one-preserved : goal.loop-one-preserved
loop-one-preserved g c =
    left_more _ _ c.loop-one.invariant (each_from g.T.Stored.bytes c.args.several.now c.loop-one.one-index _ c.loop-one-test.true c.one-item.is) c.put-end.ensures
