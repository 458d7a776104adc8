-- `questions::counts::in_operation` meets its contract: the sum along the array is that over the zones, of at most four each. Assumes nothing.
use Rattle.std.proofs.Common.{rules, arith, ◌≡◌, ◌≤◌, ◌∙◌, sum_by, length, take}
use Rattle.field.specs.Airspace.{queue_of, in_zone}
use Rattle.field.proofs.FieldKnown.{field_known}
use Rattle.questions.specs.Counts.{how_many, in_operation}
use Rattle.questions.proofs.Totals.{along_zones, how_many_fits, total_fits}
use Rattle.questions.proofs.counts.in_operation.Goals as goal

pub sum-requires-clause-fits : goal.sum-requires-clause-fits
unfolding in_zone how_many
sum-requires-clause-fits c =
    let f = c.args.f in
    let known = field_known f c.well_formed.0 in
    let along = along_zones f (λ q. length (queue_of q)) 0 12 (omega (arith, known.zones)) in
    let small : sum_by (λ q. length (queue_of q)) (take 12 f.zones) ≤ 48 = omega (arith, along, total_fits (how_many f) (how_many_fits known) 1 12) in
    search rules

pub returns : goal.returns
unfolding in_zone how_many in_operation
returns c =
    let f = c.args.f in
    let counted : c.sum.result ≡ sum_by (λ q. length (queue_of q)) (take 12 f.zones) = search rules in
    counted ∙ along_zones f (λ q. length (queue_of q)) 0 12 (omega (arith, (field_known f c.well_formed.0).zones))
