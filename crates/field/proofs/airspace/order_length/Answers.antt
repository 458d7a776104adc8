-- `field::airspace::order_length` meets its contract: the order is as long as the definition says. Assumes nothing.
use Rattle.std.proofs.Common.{rules}
use Rattle.field.specs.Airspace.{order_length}
use Rattle.field.proofs.airspace.order_length.Goals as goal

pub returns : goal.returns
unfolding order_length
returns c = search rules
