-- `practice::section` meets its contract: the file's number and the kind are as the branches found them. Assumes nothing.
use mathlib.Core.Path.{◌≡◌}
use mathlib.Core.Bool.{false}
use Prim.Native.Nat.{◌+◌, ◌≤◌}
use native.Mathlib.Omega.{arith}
use lib.Dec.{eqb}
use lib.ListN.{length}
use Rattle.practice.specs.File.{file_number}
use Rattle.practice.proofs.AcceptedFile.{accepted, long_enough}
use Rattle.practice.proofs.BranchTests.{was_refused, was_accepted}
use Rattle.practice.proofs.section.Goals.{Then-is_err, Else-is_err}
use Rattle.practice.proofs.section.Goals as goal

refused : (c : Then-is_err) → eqb (file_number c.args.file.now) 0 ≡ false
refused c = was_refused c.check_file.result c.check_file.ensures c.is_err.ensures.value c.if-is_err.true

long : (c : Else-is_err) → 34 ≤ length c.args.file.now
long c = long_enough _ (accepted _ (was_accepted c.check_file.result c.check_file.ensures c.is_err.ensures.value c.if-is_err.false)).contents

pub returns-then-is_err-clause-ref_ptr_value : goal.returns-then-is_err-clause-ref_ptr_value
returns-then-is_err-clause-ref_ptr_value c = let p = c.args.file.ref_ptr in let start : p.1 ≡ 0 + p.1 = omega arith in simp (refused c) (λ i. (p.0, start i))

pub returns-then-is_err-clause-result_len : goal.returns-then-is_err-clause-result_len
returns-then-is_err-clause-result_len c = simp (refused c)

pub returns-then-is_err-clause-result_value : goal.returns-then-is_err-clause-result_value
returns-then-is_err-clause-result_value c = simp (refused c)

pub slice_bounds-result-end-in-1 : goal.slice_bounds-result-end-in-1
slice_bounds-result-end-in-1 c = let h = long (goal.at.slice_bounds-result-end-in-1 c).Else-is_err in omega arith

pub slice_bounds-result-count-in-2 : goal.slice_bounds-result-count-in-2
slice_bounds-result-count-in-2 c = let h = long (goal.at.slice_bounds-result-count-in-2 c).Else-is_err in omega arith

pub slice_bounds-result-start-in-2 : goal.slice_bounds-result-start-in-2
slice_bounds-result-start-in-2 c = let h = long (goal.at.slice_bounds-result-start-in-2 c).Else-is_err in omega arith
