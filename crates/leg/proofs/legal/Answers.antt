-- `leg::legal` meets its contract, by that of `leg_up_to`. Assumes nothing.
use mathlib.Core.Path.{◌≡◌}
use mathlib.Core.Bool.{Bool, ◌&&◌}
use lib.Ieee.{Float, binary64, le, of_bits, of_int}
use Rattle.leg.specs.Progress.{legal_leg, sixty_fourths}
use Rattle.leg.proofs.legal.Goals as goal

-- the longest leg by its bit pattern
known : (leg : Float) {r : Bool} → r ≡ (le (sixty_fourths 1) leg && le leg (of_bits binary64 0x4050_0000_0000_0000)) → r ≡ legal_leg leg
unfolding of_bits of_int
known leg e = e

pub returns : goal.returns
returns c = known c.args.leg c.leg_up_to.ensures
