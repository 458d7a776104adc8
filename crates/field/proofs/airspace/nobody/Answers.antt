-- `field::airspace::nobody` meets its contract: the definition computes to the aircraft as the code writes it out. Assumes nothing.
use mathlib.Core.Path.{refl}
use lib.Ieee.{of_bits, of_int}
use Rattle.field.proofs.airspace.nobody.Goals as goal

pub returns : goal.returns
unfolding of_bits of_int
returns c = refl
