-- `field::airspace::progress_into` meets its contract: each arm returns what the definition gives where the test is as the arm found it. Assumes nothing.
use Rattle.std.proofs.Common.{rules}
use lib.Ieee.{of_bits, of_int}
use Rattle.field.specs.Airspace.{progress_into}
use Rattle.field.proofs.airspace.progress_into.Goals as goal

pub returns-then-is_flying_zone : goal.returns-then-is_flying_zone
unfolding progress_into of_bits of_int
returns-then-is_flying_zone c = search rules

pub returns-else-is_flying_zone : goal.returns-else-is_flying_zone
unfolding progress_into of_bits of_int
returns-else-is_flying_zone c = search rules
