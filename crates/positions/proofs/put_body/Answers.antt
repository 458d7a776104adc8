-- `positions::put_body` meets its contract. The loop's invariant is `Fields`: the lines from request i on, from the field reached, are left to put. Assumes nothing.
use mathlib.Core.Path.{◌≡◌, sym, ◌∙◌, subst}
use Prim.Native.Nat.{◌<◌}
use native.Mathlib.Omega.{arith}
use lib.ListN.{length}
use Rattle.std.specs.Prelude.{None, Some}
use Rattle.practice.specs.Requests.{requests_of, reading_at}
use Rattle.field.specs.declared.Field.{Field}
use Rattle.text.specs.Buffer.{Put}
use Rattle.playing.proofs.Playing.{here}
use Rattle.positions.specs.Positions.{lines_from}
use Rattle.positions.proofs.Fields.{fields_none, fields_more, fields_all}
use Rattle.positions.proofs.put_body.Goals.{In-Some, In_default}
use Rattle.positions.proofs.put_body.Goals as goal

reading : (c : In-Some) → reading_at ((requests_of c.args.body.now)) c.loop-r.i ≡ Some (c.in-Some.r)
reading c = sym c.request_at.ensures ∙ c.in-Some.is

below : (c : In-Some) → c.loop-r.i < length ((requests_of c.args.body.now))
below c = here ((requests_of c.args.body.now)) c.loop-r.i (c.in-Some.r) (reading c)

no-reading : (c : In_default) → reading_at ((requests_of c.args.body.now)) c.loop-r.i ≡ None
no-reading c = sym c.request_at.ensures ∙ c.in_default.is

pub loop-r-init : goal.loop-r-init
loop-r-init c = fields_none _ _ _

pub overflow_add-i : goal.overflow_add-i
overflow_add-i c =
    let h = below (goal.at.overflow_add-i c).In-Some in
    omega (arith, c.requires)

pub loop-r-smaller : goal.loop-r-smaller
loop-r-smaller c =
    let h = below (goal.at.loop-r-smaller c).In-Some in
    omega arith

pub loop-r-preserved : goal.loop-r-preserved
loop-r-preserved c =
    fields_more ((requests_of c.args.body.now)) (c.in-Some.r) c.step-s.result c.loop-r.invariant (reading (goal.at.loop-r-preserved c).In-Some) c.step-s.ensures c.put_field-at.ensures

pub shape_of-out : goal.shape_of-out
shape_of-out c = c.loop-r.invariant.left.same

pub returns : goal.returns
returns c =
    subst (λ (f : Field). Put c.args.out.now 0 (lines_from 1 f ((requests_of c.args.body.now))) c.loop-r.out c.loop-r.at)
    c.empty_field-f.ensures (fields_all ((requests_of c.args.body.now)) c.loop-r.invariant (no-reading (goal.at.returns c).In_default))
