-- `field::airspace::is_side` meets its contract: the two tests are those of the definition. Assumes nothing.
use Rattle.std.proofs.Common.{rules}
use Rattle.field.specs.Airspace.{is_side}
use Rattle.field.proofs.airspace.is_side.Goals as goal

pub returns-then-side-eq1 : goal.returns-then-side-eq1
unfolding is_side
returns-then-side-eq1 c = search rules

pub returns-else-side-eq1 : goal.returns-else-side-eq1
unfolding is_side
returns-else-side-eq1 c = search rules
