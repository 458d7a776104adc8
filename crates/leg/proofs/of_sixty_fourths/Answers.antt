-- `leg::of_sixty_fourths` meets its contract: the definition computes to the quotient as the code has it. Assumes nothing.
use lib.Ieee.{div, of_bits, of_int}
use borrow.Author.Rules.{rules}
use Rattle.leg.proofs.of_sixty_fourths.Goals as goal

pub returns : goal.returns
unfolding div of_int of_bits
returns c = search rules
