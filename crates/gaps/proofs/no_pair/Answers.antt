-- `gaps::no_pair` meets its contract: the definition computes to the pair as the code writes it out. Assumes nothing.
use mathlib.Core.Path.{refl}
use lib.Ieee.{of_bits, of_int}
use Rattle.gaps.proofs.no_pair.Goals as goal

pub returns : goal.returns
unfolding of_bits of_int
returns c = refl
