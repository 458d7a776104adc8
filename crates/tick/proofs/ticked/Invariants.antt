-- `tick::ticked` meets its contract: before place i each zone is as the tick leaves it, and from there on each is as it was. Assumes nothing.
use Rattle.tick.specs.Tick.{ticked_zone}
use Rattle.tick.proofs.Tick.{Ticking}
use Rattle.tick.proofs.ticked.Given as goal

abbrev pub invariant-loop-q : goal.invariant-loop-q
invariant-loop-q l = Ticking (ticked_zone l.amount) l.initial.q-items l.q-items l.q-index
