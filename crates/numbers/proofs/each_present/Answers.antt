-- `numbers::each_present` meets its contract: each number passes the test of the zones. Assumes nothing.
use Rattle.std.proofs.Common.{rules, tests, ◌∙◌, ℕ}
use Rattle.std.proofs.lemmas.Iterator.{YieldsList-from_slice}
use Rattle.std.proofs.lemmas.Iterator.Search.{all_from_yields_List}
use Rattle.field.specs.Lists.{is_in}
use Rattle.field.proofs.Chains.{every_passes}
use Rattle.numbers.specs.Numbers.{numbers_of}
use Rattle.numbers.proofs.each_present.Goals as goal

pub returns : goal.returns
returns c =
    let ns = c.args.numbers.now in
    let there = numbers_of c.args.zones.now in
    all_from_yields_List (λ n. is_in n there) _ _ _ c.all.ensures.ran (YieldsList-from_slice ns cc) (λ x b q k. search (rules, tests)) ∙ every_passes (λ (n : ℕ). is_in n there) ns
