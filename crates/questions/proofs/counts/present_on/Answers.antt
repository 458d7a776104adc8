-- `questions::counts::present_on` meets its contract: thirteen zones are the twelve of the operation area and the runway. Assumes nothing.
use mathlib.Core.Path.{◌≡◌, subst⁻¹}
use Prim.Native.Nat.{ℕ, ◌+◌, ◌≤◌}
use native.Mathlib.Omega.{arith}
use Rattle.field.specs.declared.Field.{Field}
use Rattle.questions.specs.Counts.{how_many, present_on, in_operation}
use Rattle.field.proofs.FieldKnown.{field_known}
use Rattle.questions.proofs.Totals.{how_many_fits, total_fits}
use Rattle.questions.proofs.counts.present_on.Goals as goal

-- all are those in the operation area and those on the runway
runway-beside : (f : Field) → in_operation f + how_many f 13 ≡ present_on f
unfolding in_operation present_on
runway-beside f = omega arith

pub overflow_add-result : goal.overflow_add-result
unfolding in_operation
overflow_add-result c =
    let few = how_many_fits (field_known c.args.f c.well_formed.0) in
    let runway : c.how_many.result ≤ 4 = subst⁻¹ (λ (n : ℕ). n ≤ 4) c.how_many.ensures (few _) in
    record { fits = omega (arith, c.in_operation.ensures, total_fits (how_many c.args.f) few 1 12) }

pub returns : goal.returns
returns c = let all = runway-beside c.args.f in omega (arith, c.in_operation.ensures, c.how_many.ensures)
