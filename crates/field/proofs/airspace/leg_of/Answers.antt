-- `field::airspace::leg_of` meets its contract: at each zone the definition computes to the leg that the arm returns. Assumes nothing.
use Rattle.std.proofs.Common.{rules}
use lib.Ieee.{of_bits, of_int}
use Rattle.field.specs.Airspace.{leg_of}
use Rattle.field.proofs.airspace.leg_of.Goals as goal

pub returns-in-11 : goal.returns-in-11
unfolding leg_of of_bits of_int
returns-in-11 c = search rules

pub returns-in-12 : goal.returns-in-12
unfolding leg_of of_bits of_int
returns-in-12 c = search rules

pub returns-in-7 : goal.returns-in-7
unfolding leg_of of_bits of_int
returns-in-7 c = search rules

pub returns-in-9 : goal.returns-in-9
unfolding leg_of of_bits of_int
returns-in-9 c = search rules

pub returns-in_default : goal.returns-in_default
unfolding leg_of of_bits of_int
returns-in_default c = search rules

pub returns-in_default-2 : goal.returns-in_default-2
unfolding leg_of of_bits of_int
returns-in_default-2 c = search rules
