-- `field::airspace::arrived_by_miss` meets its contract: by those of its callees. Assumes nothing.
use Rattle.std.proofs.Common.{rules}
use Rattle.field.specs.Airspace.{arrived_by_miss}
use Rattle.field.proofs.airspace.arrived_by_miss.Goals as goal

pub returns : goal.returns
unfolding arrived_by_miss
returns c = search rules
