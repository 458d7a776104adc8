-- `dialect_field::coming::built` meets its contract. The loop's invariant is `Building`. Assumes nothing.
use Rattle.std.proofs.Common.{arith, refl, ap, ◌∙◌, map}
use Rattle.field.specs.declared.Field.{Field}
use Rattle.dialect_field.specs.Coming.{entry_in, built_on, built}
use Rattle.dialect_field.proofs.Walks.{building_more, building_all}
use Rattle.dialect_field.proofs.coming.built.Goals as goal

pub loop-bytes-init : goal.loop-bytes-init
loop-bytes-init c = refl

pub loop-bytes-preserved : goal.loop-bytes-preserved
loop-bytes-preserved c =
    building_more _ c.args.speed c.args.entries.now _ c.loop-bytes.bytes-index c.loop-bytes-test.true c.loop-bytes.invariant _ c.entry_in.ensures c.with_entry-f.ensures

pub returns : goal.returns
unfolding built
returns c =
    building_all _ c.args.speed c.args.entries.now _ c.loop-bytes.bytes-index (omega arith) c.loop-bytes.invariant
    ∙ ap (λ (f : Field). built_on f c.args.speed (map entry_in c.args.entries.now)) c.empty_field-f.ensures
