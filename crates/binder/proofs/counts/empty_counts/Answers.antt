-- `binder::counts::empty_counts` meets its contract. Assumes nothing.
use mathlib.Core.Path.{refl}
use Rattle.binder.specs.Counts.{empty_counts}
use Rattle.binder.proofs.counts.empty_counts.Goals as goal

pub returns : goal.returns
unfolding empty_counts
returns c = refl
