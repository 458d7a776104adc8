-- `numbers::listed` meets its contract: each in the queue passes the test of its number. Assumes nothing.
use Rattle.std.proofs.Common.{rules, tests, ◌∙◌, ℕ}
use Rattle.std.proofs.lemmas.Iterator.{YieldsList-from_slice}
use Rattle.std.proofs.lemmas.Iterator.Search.{all_from_yields_List}
use Rattle.field.specs.Airspace.{queue_of}
use Rattle.field.specs.Lists.{is_in}
use Rattle.numbers.proofs.NumbersOf.{in_each}
use Rattle.numbers.proofs.listed.Goals as goal

pub returns : goal.returns
returns c =
    let q = c.args.q.now in
    let ms = c.args.numbers.now in
    all_from_yields_List (λ a. is_in a.number ms) _ _ _ c.all.ensures.ran (YieldsList-from_slice (queue_of q) cc) (λ x b q k. search (rules, tests)) ∙ in_each (λ (n : ℕ). is_in n ms) (queue_of q)
