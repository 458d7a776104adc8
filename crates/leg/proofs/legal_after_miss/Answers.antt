-- `leg::legal_after_miss` meets its contract, by that of `leg_up_to`. Assumes nothing.
use mathlib.Core.Path.{◌≡◌}
use mathlib.Core.Bool.{Bool, ◌&&◌}
use lib.Ieee.{Float, binary64, le, of_bits, of_int}
use Rattle.leg.specs.Progress.{legal_leg_after_miss, sixty_fourths}
use Rattle.leg.proofs.legal_after_miss.Goals as goal

-- the longest leg by its bit pattern
known : (leg : Float) {r : Bool} → r ≡ (le (sixty_fourths 1) leg && le leg (of_bits binary64 0x4060_0000_0000_0000)) → r ≡ legal_leg_after_miss leg
unfolding of_bits of_int
known leg e = e

pub returns : goal.returns
returns c = known c.args.leg c.leg_up_to.ensures
