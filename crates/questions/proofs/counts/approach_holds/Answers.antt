-- `questions::counts::approach_holds` meets its contract, by that of `with_fix_from`. Assumes nothing.
use mathlib.Core.Path.{ap}
use mathlib.Core.Bool.{not}
use Prim.Native.Nat.{ℕ}
use lib.Dec.{eqb}
use Rattle.questions.specs.Counts.{approach_holds}
use Rattle.questions.proofs.counts.approach_holds.Goals as goal

pub returns : goal.returns
unfolding approach_holds
returns c = ap (λ (n : ℕ). not (eqb n 0)) c.with_fix_from.ensures
