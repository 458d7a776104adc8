-- `questions::counts::in_area` meets its contract: the four numbers are at most four each, and their sum is the definition's. Assumes nothing.
use Prim.Native.Nat.{◌+◌}
use native.Mathlib.Omega.{arith}
use Rattle.questions.specs.Counts.{in_area}
use Rattle.field.proofs.FieldKnown.{field_known}
use Rattle.questions.proofs.Totals.{how_many_fits}
use Rattle.questions.proofs.counts.in_area.Goals as goal

pub overflow_add-result : goal.overflow_add-result
overflow_add-result c =
    let few = how_many_fits (field_known c.args.f c.well_formed.0) in
    let s = c.args.side in
    record { fits = omega (arith, c.how_many.ensures, c.how_many-2.ensures, few s, few (2 + s)) }

pub overflow_add-result-2 : goal.overflow_add-result-2
overflow_add-result-2 c =
    let few = how_many_fits (field_known c.args.f c.well_formed.0) in
    let s = c.args.side in
    record {
      fits =
          omega
          (arith, c.how_many.ensures, c.how_many-2.ensures, c.how_many-3.ensures, few s, few (2 + s), few (4 + s));
    }

pub overflow_add-result-3 : goal.overflow_add-result-3
overflow_add-result-3 c =
    let few = how_many_fits (field_known c.args.f c.well_formed.0) in
    let s = c.args.side in
    let first = c.how_many.ensures in
    let second = c.how_many-2.ensures in
    let third = c.how_many-3.ensures in
    record { fits = omega (arith, first, second, third, c.how_many-4.ensures, few s, few (2 + s), few (4 + s), few (6 + s)) }

pub returns : goal.returns
unfolding in_area
returns c =
    let first = c.how_many.ensures in
    let second = c.how_many-2.ensures in
    omega (arith, first, second, c.how_many-3.ensures, c.how_many-4.ensures)
