-- `field::airspace::side_of` meets its contract: the definition takes the arm of the test. Assumes nothing.
use Rattle.std.proofs.Common.{rules}
use Rattle.field.specs.Airspace.{side_of}
use Rattle.field.proofs.airspace.side_of.Goals as goal

pub returns-then-zone-eq1 : goal.returns-then-zone-eq1
unfolding side_of
returns-then-zone-eq1 c = search rules

pub returns-else-zone-eq1 : goal.returns-else-zone-eq1
unfolding side_of
returns-else-zone-eq1 c = search rules
