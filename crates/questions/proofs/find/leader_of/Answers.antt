-- `questions::find::leader_of` meets its contract: at first everyone is left, and nobody ahead. Assumes nothing.
use mathlib.Core.Path.{refl}
use Rattle.questions.specs.Find.{leader_of}
use Rattle.questions.proofs.find.leader_of.Goals as goal

pub loop-n-init : goal.loop-n-init
unfolding leader_of
loop-n-init c = refl
