-- `step::number_and_zeros` meets its contract. Assumes nothing.
use mathlib.Core.Path.{refl}
use Rattle.rules.specs.Step.{number_and_zeros}
use Rattle.step.proofs.number_and_zeros.Goals as goal

pub returns : goal.returns
unfolding number_and_zeros
returns c = refl
