-- `bounds::is_nobody` meets its contract: each test is that of the definition. Assumes nothing.
use Rattle.std.proofs.Common.{rules}
use lib.Ieee.{of_bits, of_int}
use Rattle.bounds.specs.Bounds.{is_nobody}
use Rattle.bounds.proofs.is_nobody.Goals as goal

pub returns-then-a-2 : goal.returns-then-a-2
unfolding is_nobody of_bits of_int
returns-then-a-2 c = search rules

pub returns-else-a-2 : goal.returns-else-a-2
unfolding is_nobody of_bits of_int
returns-else-a-2 c = search rules
