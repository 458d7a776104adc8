-- `leg::waited_after` meets its contract, by that of `up_to`. Assumes nothing.
use lib.Ieee.{of_bits, of_int}
use Rattle.leg.specs.Progress.{waited_after}
use Rattle.leg.proofs.waited_after.Goals as goal

pub returns : goal.returns
unfolding waited_after of_bits of_int
returns c = c.up_to.ensures
