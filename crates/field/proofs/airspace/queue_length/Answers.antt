-- `field::airspace::queue_length` meets its contract: the queue is as long as the definition says. Assumes nothing.
use Rattle.std.proofs.Common.{rules}
use Rattle.field.specs.Airspace.{queue_length}
use Rattle.field.proofs.airspace.queue_length.Goals as goal

pub returns : goal.returns
unfolding queue_length
returns c = search rules
