-- `leg::within` meets its contract: in each arm the definition computes at the variant that the arm was told of, and at what the first test gave. Assumes nothing.
use mathlib.Core.Path.{◌≡◌, sym, ap, ◌∙◌}
use mathlib.Core.Bool.{Bool, ◌&&◌}
use lib.Ieee.{Float, binary64, le, of_bits, of_int}
use Rattle.leg.specs.Progress.{within_leg}
use Rattle.leg.specs.declared.Progress.{Progress}
use Rattle.leg.specs.declared.Progress.TheVariants.{Flying}
use Rattle.leg.proofs.within.Goals as goal

-- `within_leg` of a flying aircraft, by what the first test gave
known : (p : Progress) (miles leg : Float) {t : Bool} → p ≡ Flying miles → le (of_bits binary64 0) miles ≡ t → within_leg p leg ≡ (t && le miles leg)
unfolding of_bits of_int
known p miles leg e f = ap (λ (q : Progress). within_leg q leg) e ∙ ap (λ (b : Bool). b && le miles leg) f

pub returns-then-miles : goal.returns-then-miles
returns-then-miles c = sym (known c.args.p c.in-Flying.miles c.args.leg c.in-Flying.is c.if-miles.true)

pub returns-else-miles : goal.returns-else-miles
returns-else-miles c = c.if-miles.false ∙ sym (known c.args.p c.in-Flying.miles c.args.leg c.in-Flying.is c.if-miles.false)
