-- `field::airspace::entering` meets its contract: all that is not given is as nobody has it. Assumes nothing.
use Rattle.std.proofs.Common.{rules}
use Rattle.field.specs.Airspace.{entering}
use Rattle.field.proofs.airspace.entering.Goals as goal

pub returns : goal.returns
unfolding entering
returns c = search rules
