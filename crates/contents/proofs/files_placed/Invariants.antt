-- `contents::files_placed` meets its contract: the loop has passed the files before the i-th. Assumes nothing.
use Rattle.contents.proofs.FilesPlaced.{FilesPassed}
use Rattle.contents.proofs.files_placed.Given as goal

abbrev pub invariant-loop-i : goal.invariant-loop-i
invariant-loop-i l = FilesPassed l.binder l.count l.end l.i
