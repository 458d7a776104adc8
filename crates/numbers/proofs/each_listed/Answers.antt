-- `numbers::each_listed` meets its contract: each zone passes the test of its numbers. Assumes nothing.
use Rattle.std.proofs.Common.{rules, tests, ◌∙◌, ℕ}
use Rattle.std.proofs.lemmas.Iterator.{YieldsList-from_slice}
use Rattle.std.proofs.lemmas.Iterator.Search.{all_from_yields_List}
use Rattle.field.specs.Airspace.{queue_of}
use Rattle.field.specs.Lists.{is_in, every}
use Rattle.numbers.proofs.NumbersOf.{numbers, in_every}
use Rattle.numbers.proofs.each_listed.Goals as goal

pub returns : goal.returns
returns c =
    let qs = c.args.zones.now in
    let ms = c.args.numbers.now in
    all_from_yields_List (λ q. every (λ n. is_in n ms) (numbers (queue_of q))) _ _ _ c.all.ensures.ran (YieldsList-from_slice qs cc) (λ x b q k. search (rules, tests)) ∙ in_every (λ (n : ℕ). is_in n ms) qs
