-- `history::turned_away` meets its contract. Assumes nothing.
use mathlib.Core.Path.{ap}
use Rattle.rules.specs.declared.Answer.{Answer}
use Rattle.history.proofs.turned_away.Goals as goal

pub returns : goal.returns
returns c = ap (λ (a : Answer). record { answer = a; after = c.args.h }) c.number_and_zeros.ensures
