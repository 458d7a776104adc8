-- `questions::counts::potential_of` meets its contract. The loop's invariant: what is added up before a zone. Assumes nothing.
use mathlib.Core.Path.{◌≡◌, ap, ◌∙◌}
use mathlib.Core.Bool.{cond}
use Prim.Native.Nat.{ℕ, ◌+◌, ◌≤◌, ◌<◌}
use native.Mathlib.Omega.{arith}
use lib.ListN.{length, get_or, take, length-take}
use lib.Seq.{get_or-take}
use Rattle.field.specs.declared.Zone.{Zone}
use Rattle.field.specs.declared.Field.{Field}
use Rattle.field.specs.Lists.{is_in}
use Rattle.field.specs.Airspace.{queue_of, queue_length, in_zone, area}
use Rattle.field.proofs.FieldKnown.{field_known}
use Rattle.field.proofs.Shapes.{zone_at}
use Rattle.questions.specs.Counts.{have_fix, how_many, how_many_with_fix, counted_for, potential_of}
use Rattle.questions.proofs.Totals.{added_more, added_all, counted_fits}
use Rattle.questions.proofs.counts.potential_of.Goals.{After-counted_in-n}
use Rattle.questions.proofs.counts.potential_of.Goals as goal

-- how many of the queue at index i of the array count for a side
counted : (f : Field) (side n i : ℕ) (d : Zone) → i < length (take n f.zones)
    → cond (is_in (i + 1) (area side)) (queue_length (get_or (take n f.zones) i d)) (have_fix side (queue_of (get_or (take n f.zones) i d))) ≡ counted_for f side (i + 1)
unfolding counted_for how_many how_many_with_fix in_zone queue_length
counted f side n i d h = ap (λ (q : Zone). cond (is_in (i + 1) (area side)) (length (queue_of q)) (have_fix side (queue_of q)))
    (get_or-take n f.zones i d (omega (arith, length-take n f.zones)) ∙ zone_at f i d (omega (arith, length-take n f.zones)))

same : (c : After-counted_in-n) → c.counted_in-n.result ≡ counted_for c.args.f c.args.side (c.loop-i.i + 1)
same c = c.counted_in-n.ensures ∙ counted c.args.f c.args.side 12 c.loop-i.i _ c.loop-i-test.true

few : (c : After-counted_in-n) → counted_for c.args.f c.args.side (c.loop-i.i + 1) ≤ 4
few c = counted_fits (field_known c.args.f c.well_formed.0) _ _

pub overflow_add-n : goal.overflow_add-n
overflow_add-n c = record { fits = omega (arith, same c, few c) }

pub loop-i-preserved : goal.loop-i-preserved
loop-i-preserved c =
    let within = (field_known c.args.f c.well_formed.0).zones in
    added_more _ 1 12 _ _ _ c.loop-i.invariant (omega arith) (same c) (few c)

pub returns : goal.returns
unfolding potential_of
returns c =
    let within = (field_known c.args.f c.well_formed.0).zones in
    added_all _ 1 12 _ _ c.loop-i.invariant (omega arith)
