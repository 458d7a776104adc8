-- `bounds::zones_kept` meets its contract: each zone of the array passes the test. Assumes nothing.
use Rattle.std.proofs.Common.{rules, tests, ◌∙◌, sym, ap, arith}
use Rattle.std.proofs.lemmas.Iterator.{YieldsList-from_slice}
use Rattle.std.proofs.lemmas.Iterator.Search.{all_from_yields_List}
use Rattle.std.specs.List.{list_all}
use lib.Seq.{take_all}
use Rattle.field.proofs.Chains.{every_along}
use Rattle.field.proofs.FieldKnown.{field_known}
use Rattle.bounds.specs.Bounds.{zone_kept}
use Rattle.bounds.proofs.zones_kept.Goals as goal

pub returns : goal.returns
returns c =
    let f = c.args.f in
    let thirteen = (field_known f c.well_formed.0).zones in
    all_from_yields_List zone_kept _ _ _ c.all.ensures.ran (YieldsList-from_slice f.zones cc) (λ x b q k. search (rules, tests))
    ∙ ap (list_all zone_kept) (sym (take_all 13 f.zones (omega arith)))
    ∙ every_along f zone_kept 0 13 (omega arith)
