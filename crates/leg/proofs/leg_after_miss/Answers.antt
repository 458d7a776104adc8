-- `leg::leg_after_miss` meets its contract, by that of `remaining`. Assumes nothing.
use mathlib.Core.Path.{ap}
use lib.Ieee.{binary64, add}
use Rattle.leg.specs.Progress.{leg_after_miss}
use Rattle.leg.proofs.leg_after_miss.Goals as goal

pub returns : goal.returns
unfolding leg_after_miss
returns c = ap (add binary64 c.args.missed) c.remaining.ensures
