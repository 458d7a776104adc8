-- `bounds::sequence_kept` meets its contract: past the length each number passes the test. Assumes nothing.
use Rattle.std.proofs.Common.{rules, tests, ◌-◌, ℕ, nat_eq, length, take, drop}
use Rattle.std.proofs.lemmas.Iterator.{YieldsList-from_slice}
use Rattle.std.proofs.lemmas.Iterator.Search.{all_from_yields_List}
use Rattle.field.proofs.Chains.{all_from}
use Rattle.bounds.specs.Bounds.{sequence_kept}
use Rattle.bounds.proofs.sequence_kept.Goals as goal

pub returns-then-s-le4 : goal.returns-then-s-le4
unfolding sequence_kept
returns-then-s-le4 c =
    let l = c.args.s.numbers in
    let n = c.args.s.length in
    all_from (λ (m : ℕ). nat_eq m 0) l n 4 c.if-s-le4.true
    (all_from_yields_List (λ (m : ℕ). nat_eq m 0) _ _ _ c.all.ensures.ran (YieldsList-from_slice (take (length l - n) (drop n l)) cc) (λ x b q k. search (rules, tests)))
