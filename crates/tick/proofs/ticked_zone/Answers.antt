-- `tick::ticked_zone` meets its contract: before place i each aircraft has advanced, and from there on each is as it was. Assumes nothing.
use Rattle.std.proofs.Common.{◌≡◌, length, arith, rules}
use Rattle.tick.specs.Tick.{ticked_zone}
use Rattle.tick.proofs.Tick.{ticking_more, ticking_all}
use Rattle.tick.proofs.ticked_zone.Goals as goal

pub loop-a-preserved : goal.loop-a-preserved
loop-a-preserved c =
    let four : length c.args.q.aircraft ≡ 4 = search rules in
    ticking_more _ _ _ _ c.loop-a.invariant _ _ (omega (arith, c.loop-a-test.true)) c.ticked_aircraft.ensures

pub returns : goal.returns
unfolding ticked_zone
returns c =
    let four : length c.args.q.aircraft ≡ 4 = search rules in
    let all = ticking_all _ _ _ _ c.loop-a.invariant (omega (arith, c.loop-a-test.false)) in
    λ j. record { aircraft = all j; length = c.args.q.length }
