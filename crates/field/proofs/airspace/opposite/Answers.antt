-- `field::airspace::opposite` meets its contract: each arm returns what the definition gives at its side. Assumes nothing.
use Rattle.std.proofs.Common.{rules}
use Rattle.field.specs.Airspace.{opposite}
use Rattle.field.proofs.airspace.opposite.Goals as goal

pub returns-in-1 : goal.returns-in-1
unfolding opposite
returns-in-1 c = search rules

pub returns-in-2 : goal.returns-in-2
unfolding opposite
returns-in-2 c = search rules

pub returns-in_default : goal.returns-in_default
unfolding opposite
returns-in_default c = search rules
