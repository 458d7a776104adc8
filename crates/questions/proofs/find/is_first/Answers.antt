-- `questions::find::is_first` meets its contract: an empty sequence has no first. Assumes nothing.
use Rattle.std.proofs.Common.{rules}
use Rattle.questions.specs.Find.{is_first}
use Rattle.questions.proofs.find.is_first.Goals as goal

pub returns : goal.returns
unfolding is_first
returns c = search rules
