-- `numbers::has` meets its contract: one in the queue passes the test of its number. Assumes nothing.
use Rattle.std.proofs.Common.{rules, tests, ◌∙◌, nat_eq}
use Rattle.std.proofs.lemmas.Iterator.{YieldsList-from_slice}
use Rattle.std.proofs.lemmas.Iterator.Search.{any_from_yields_List}
use Rattle.numbers.proofs.NumbersOf.{in_queue}
use Rattle.numbers.proofs.has.Goals as goal

pub returns : goal.returns
returns c =
    let n = c.args.number in
    let xs = c.args.queue.now in
    any_from_yields_List (λ a. nat_eq a.number n) _ _ _ c.any.ensures.ran (YieldsList-from_slice xs cc) (λ x b q k. search (rules, tests)) ∙ in_queue n xs
