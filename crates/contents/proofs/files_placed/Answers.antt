-- `contents::files_placed` meets its contract: the loop has passed the files before the i-th. Assumes nothing.
use native.Mathlib.Omega.{arith}
use Rattle.contents.proofs.FilesPlaced.{passed_none, passed_more}
use Rattle.contents.proofs.files_placed.Goals as goal

pub loop-i-init : goal.loop-i-init
loop-i-init c = passed_none c.args.binder.now c.entry_count-count.result c.entry_count-count.ensures

pub loop-i-preserved : goal.loop-i-preserved
loop-i-preserved c =
    passed_more c.args.binder.now c.loop-i.invariant c.number32-in-loop-i.result
    c.loop-i-test.true (let o = c.number32.ensures in omega arith) c.number32-in-loop-i.ensures
