-- `tick::ticked_zone` meets its contract: before place i each aircraft has advanced, and from there on each is as it was. Assumes nothing.
use Rattle.tick.specs.Tick.{ticked_aircraft}
use Rattle.tick.proofs.Tick.{Ticking}
use Rattle.tick.proofs.ticked_zone.Given as goal

abbrev pub invariant-loop-a : goal.invariant-loop-a
invariant-loop-a l = Ticking (ticked_aircraft l.amount) l.initial.a-items l.a-items l.a-index
