-- `leg::beyond` meets its contract: each arm returns what the definition picks where the test is as the arm found it. Assumes nothing.
use mathlib.Core.Path.{◌≡◌, sym, ap}
use mathlib.Core.Bool.{Bool, cond}
use lib.Ieee.{Float, binary64, lt, sub, of_bits, of_int}
use Rattle.leg.specs.Progress.{whole, beyond}
use Rattle.leg.proofs.beyond.Goals as goal

-- `beyond` by what the test gave, 0 by its bit pattern
known : (limit x : Float) {t : Bool} → lt limit x ≡ t → beyond limit x ≡ cond t (sub binary64 x limit) (of_bits binary64 0)
unfolding of_bits of_int
known limit x e = ap (λ (b : Bool). cond b (sub binary64 x limit) (whole 0)) e

pub returns-then-limit-x : goal.returns-then-limit-x
returns-then-limit-x c = sym (known c.args.limit c.args.x c.if-limit-x.true)

pub returns-else-limit-x : goal.returns-else-limit-x
returns-else-limit-x c = sym (known c.args.limit c.args.x c.if-limit-x.false)
