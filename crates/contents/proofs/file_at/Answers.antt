-- `contents::file_at` meets its contract: whether the binder holds the file is as the branches found it. Assumes nothing.
use Prim.Native.Nat.{◌<◌}
use native.Mathlib.Omega.{arith}
use Rattle.contents.specs.Contents.{file_count}
use Rattle.contents.proofs.AcceptedBinder.{Held, held}
use Rattle.contents.proofs.file_at.Goals.{Else-file_count-i}
use Rattle.contents.proofs.file_at.Goals as goal

below : (c : Else-file_count-i) → let a = c.args in a.i < file_count a.binder.now
below c = let e = c.file_count.ensures in omega arith

known : (c : Else-file_count-i) → let a = c.args in Held a.binder.now a.i
known c = held _ _ (below c)

pub overflow_mul-at : goal.overflow_mul-at
overflow_mul-at c = let k = known (goal.at.overflow_mul-at c).Else-file_count-i in omega arith

pub overflow_add-at : goal.overflow_add-at
overflow_add-at c = let k = known (goal.at.overflow_add-at c).Else-file_count-i in omega arith

pub overflow_add-at-2 : goal.overflow_add-at-2
overflow_add-at-2 c = let k = known (goal.at.overflow_add-at-2 c).Else-file_count-i in omega arith

pub slice_bounds-result-end-2 : goal.slice_bounds-result-end-2
slice_bounds-result-end-2 c = let k = known (goal.at.slice_bounds-result-end-2 c).Else-file_count-i in omega arith
