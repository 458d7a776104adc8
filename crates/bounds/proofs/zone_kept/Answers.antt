-- `bounds::zone_kept` meets its contract: past the length each place passes the test. Assumes nothing.
use Rattle.std.proofs.Common.{rules, tests, ◌-◌, length, take, drop}
use Rattle.std.proofs.lemmas.Iterator.{YieldsList-from_slice}
use Rattle.std.proofs.lemmas.Iterator.Search.{all_from_yields_List}
use Rattle.field.proofs.Chains.{all_from}
use Rattle.bounds.specs.Bounds.{is_nobody, zone_kept}
use Rattle.bounds.proofs.zone_kept.Goals as goal

pub returns-then-q-le4 : goal.returns-then-q-le4
unfolding zone_kept
returns-then-q-le4 c =
    let l = c.args.q.aircraft in
    let n = c.args.q.length in
    all_from is_nobody l n 4 c.if-q-le4.true
    (all_from_yields_List is_nobody _ _ _ c.all.ensures.ran (YieldsList-from_slice (take (length l - n) (drop n l)) cc) (λ x b q k. search (rules, tests)))
