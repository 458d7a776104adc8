-- `field::airspace::on_leg` meets its contract: the definition computes to the aircraft as the code writes it out. Assumes nothing.
use Rattle.std.proofs.Common.{rules}
use Rattle.field.specs.Airspace.{on_leg}
use Rattle.field.proofs.airspace.on_leg.Goals as goal

pub returns : goal.returns
unfolding on_leg
returns c = search rules
