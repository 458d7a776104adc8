-- `bounds::one_each` meets its contract: each of the first six zones of the array passes the test. Assumes nothing.
use Rattle.std.proofs.Common.{rules, tests, ◌∙◌, arith, nat_le, length, take}
use Rattle.std.proofs.lemmas.Iterator.{YieldsList-from_slice}
use Rattle.std.proofs.lemmas.Iterator.Search.{all_from_yields_List}
use Rattle.field.specs.Airspace.{queue_of, in_zone}
use Rattle.field.proofs.Chains.{every_along}
use Rattle.field.proofs.FieldKnown.{field_known}
use Rattle.questions.specs.Counts.{how_many}
use Rattle.bounds.proofs.one_each.Goals as goal

pub returns : goal.returns
unfolding how_many in_zone
returns c =
    let f = c.args.f in
    let thirteen = (field_known f c.well_formed.0).zones in
    all_from_yields_List (λ q. nat_le (length (queue_of q)) 1) _ _ _ c.all.ensures.ran (YieldsList-from_slice (take 6 f.zones) cc) (λ x b q k. search (rules, tests))
    ∙ every_along f (λ q. nat_le (length (queue_of q)) 1) 0 6 (omega arith)
