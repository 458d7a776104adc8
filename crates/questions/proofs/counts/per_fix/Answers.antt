-- `questions::counts::per_fix` meets its contract, by that of `with_fix_from`. Assumes nothing.
use Rattle.questions.specs.Counts.{per_fix}
use Rattle.questions.proofs.counts.per_fix.Goals as goal

pub returns : goal.returns
unfolding per_fix
returns c = c.with_fix_from.ensures
