-- `leg::leg_up_to` meets its contract: where the first test is as it was found the contract gives what is returned. Assumes nothing.
use mathlib.Core.Path.{◌≡◌, sym, ap, ◌∙◌}
use mathlib.Core.Bool.{Bool, ◌&&◌}
use lib.Ieee.{Float, binary64, le, div, of_bits, of_int}
use Rattle.leg.specs.Progress.{sixty_fourths}
use Rattle.leg.proofs.leg_up_to.Goals as goal

-- both tests by what the first gave, 1/64 by its bit pattern
known : (most leg : Float) {t : Bool} → le (of_bits binary64 0x3F90_0000_0000_0000) leg ≡ t → (le (sixty_fourths 1) leg && le leg most) ≡ (t && le leg most)
unfolding of_bits of_int div
known most leg e = ap (λ (b : Bool). b && le leg most) e

pub returns-then-leg : goal.returns-then-leg
returns-then-leg c = sym (known c.args.most c.args.leg c.if-leg.true)

pub returns-else-leg : goal.returns-else-leg
returns-else-leg c = c.if-leg.false ∙ sym (known c.args.most c.args.leg c.if-leg.false)
