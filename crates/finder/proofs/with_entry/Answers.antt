-- `finder::with_entry` meets its contract: the places that the loop has passed are written, and an entry goes on. Assumes nothing.
use Rattle.std.proofs.Common.{◌∙◌, arith}
use lib.Seq.{set-get_or}
use Rattle.finder.proofs.Putting.{putting_more, putting_stop}
use Rattle.finder.proofs.with_entry.Goals as goal

pub loop-entry-preserved : goal.loop-entry-preserved
loop-entry-preserved c =
    let l = c.loop-entry in
    let h = c.loop-entry-test.true in
    putting_more l.invariant _ (omega arith) c.first_of.ensures c.second_of-moved.ensures

pub returns-then-moved-eq0 : goal.returns-then-moved-eq0
returns-then-moved-eq0 c = set-get_or _ _ _ ∙ putting_stop c.loop-entry.invariant c.if-moved-eq0.true
