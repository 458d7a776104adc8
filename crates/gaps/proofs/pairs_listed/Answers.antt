-- `gaps::pairs_listed` meets its contract. The loop's invariant: the pairs among those passed are in the array, and the rest of the sequence gives the
-- rest of the pairs. Assumes nothing.
use Rattle.std.proofs.Common.{arith, sym, ap, ◌∙◌, ℕ, ◌<◌, ◌≡◌, ◌≤◌, length}
use Rattle.std.specs.Slice.Iter.{windows_rest}
use Rattle.std.proofs.Math.ListN.{take}
use Rattle.field.proofs.FieldKnown.{field_known}
use Rattle.field.proofs.Shapes.{order_fits}
use Rattle.gaps.proofs.Pairs.{found_same, found_more, found_all}
use Rattle.gaps.proofs.pairs_listed.Goals.{In-Some, After-pair_of}
use Rattle.gaps.proofs.pairs_listed.Goals as goal

two_left : (c : In-Some) → 2 ≤ length (windows_rest c.loop-neighbours.neighbours-iterator)
two_left c = omega (arith, c.loop-neighbours.invariant.0, c.in-Some.ensures.steps.1.0)

two : (c : In-Some) → c.in-Some.neighbours.now ≡ take 2 (windows_rest c.loop-neighbours.neighbours-iterator)
two c = c.in-Some.ensures.steps.1.1 ∙ ap (λ (n : ℕ). take n (windows_rest c.loop-neighbours.neighbours-iterator)) c.loop-neighbours.invariant.0

room : (c : After-pair_of) → c.loop-neighbours.count < 3
room c =
    let fits = order_fits c.args.f.sequence (field_known c.args.f c.well_formed.0).numbers in
    omega (arith, c.loop-neighbours.invariant.0, c.in-Some.ensures.steps.1.0, c.loop-neighbours.invariant.1.few)

pub offset_bounds-pairs-count : goal.offset_bounds-pairs-count
offset_bounds-pairs-count c = let h = room (goal.at.offset_bounds-pairs-count c).After-pair_of in record { fits = omega arith }

pub bounds-pairs-count : goal.bounds-pairs-count
bounds-pairs-count c = room (goal.at.bounds-pairs-count c).After-pair_of

pub loop-neighbours-preserved-then-both_on_approach : goal.loop-neighbours-preserved-then-both_on_approach
loop-neighbours-preserved-then-both_on_approach c =
    let s = c.in-Some.ensures.steps in
    let l = c.loop-neighbours in
    let at = goal.at.loop-neighbours-preserved-then-both_on_approach c in (
      s.0 ∙ l.invariant.0,
      found_more c.args.f c.args.spacing (two_left at.In-Some) (two at.In-Some) s.1.2 l.invariant.1 (sym c.both_on_approach.ensures ∙ c.if-both_on_approach.true) (room at.After-pair_of)
          c.pair_of.ensures,
    )

pub loop-neighbours-preserved : goal.loop-neighbours-preserved
loop-neighbours-preserved c =
    let s = c.in-Some.ensures.steps in
    let l = c.loop-neighbours in
    let at = (goal.at.loop-neighbours-preserved c).In-Some in
    (s.0 ∙ l.invariant.0, found_same c.args.f c.args.spacing (two_left at) (two at) s.1.2 l.invariant.1 (sym c.both_on_approach.ensures ∙ c.if-both_on_approach.false))

pub returns : goal.returns
returns c =
    let l = c.loop-neighbours in
    found_all c.args.f c.args.spacing (omega (arith, l.invariant.0, c.in-None.ensures.steps.1.0)) l.invariant.1
