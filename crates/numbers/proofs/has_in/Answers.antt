-- `numbers::has_in` meets its contract: one of the zones has the number. Assumes nothing.
use Rattle.std.proofs.Common.{rules, tests, ◌∙◌}
use Rattle.std.proofs.lemmas.Iterator.{YieldsList-from_slice}
use Rattle.std.proofs.lemmas.Iterator.Search.{any_from_yields_List}
use Rattle.field.specs.Airspace.{queue_of}
use Rattle.field.specs.Lists.{is_in}
use Rattle.numbers.proofs.NumbersOf.{numbers, in_any}
use Rattle.numbers.proofs.has_in.Goals as goal

pub returns : goal.returns
returns c =
    let n = c.args.number in
    let qs = c.args.zones.now in
    any_from_yields_List (λ q. is_in n (numbers (queue_of q))) _ _ _ c.any.ensures.ran (YieldsList-from_slice qs cc) (λ x b q k. search (rules, tests)) ∙ in_any n qs
