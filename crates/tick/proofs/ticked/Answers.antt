-- `tick::ticked` meets its contract: before place i each zone is as the tick leaves it, and from there on each is as it was. Assumes nothing.
use Rattle.std.proofs.Common.{◌≡◌, length, ap, ◌∙◌, rules}
use borrow.Rule.Slice.PartMut.{put_mid}
use Rattle.tick.specs.Tick.{ticked}
use Rattle.tick.proofs.Tick.{ticking_more, ticking_all, six_written}
use Rattle.tick.proofs.ticked.Goals as goal

pub loop-q-preserved : goal.loop-q-preserved
loop-q-preserved c = ticking_more _ _ _ _ c.loop-q.invariant _ _ c.loop-q-test.true c.ticked_zone.ensures

pub returns : goal.returns
unfolding ticked
returns c =
    let f = c.args.f in
    let long : length f.zones ≡ 13 = search rules in
    let six = ticking_all _ _ _ _ c.loop-q.invariant c.loop-q-test.false in
    let zones = ap (put_mid 6 6 f.zones) six ∙ six_written c.args.amount f.zones long in
    λ j. record { zones = zones j; sequence = f.sequence; next = f.next; legs = f.legs }
