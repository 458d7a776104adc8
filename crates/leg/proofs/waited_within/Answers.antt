-- `leg::waited_within` meets its contract: where the first test is as it was found the definition gives what is returned. Assumes nothing.
use mathlib.Core.Path.{◌≡◌, sym, ap, ◌∙◌}
use mathlib.Core.Bool.{Bool, ◌&&◌}
use lib.Ieee.{Float, binary64, le, of_bits, of_int}
use Rattle.limits.specs.Limits.{most_waited}
use Rattle.leg.specs.Progress.{waited_within, whole}
use Rattle.leg.proofs.waited_within.Goals as goal

-- `waitedWithin` by what the first test gave, the two numbers by their bit patterns
known : (waited : Float) {t : Bool} → le (of_bits binary64 0) waited ≡ t → waited_within waited ≡ (t && le waited (of_bits binary64 0x40B0_0000_0000_0000))
unfolding of_bits of_int
known waited e = ap (λ (b : Bool). b && le waited (whole most_waited)) e

pub returns-then-waited : goal.returns-then-waited
returns-then-waited c = sym (known c.args.waited c.if-waited.true)

pub returns-else-waited : goal.returns-else-waited
returns-else-waited c = c.if-waited.false ∙ sym (known c.args.waited c.if-waited.false)
