-- `field::airspace::with_fix` meets its contract: the definition computes to the aircraft as the code writes it out. Assumes nothing.
use Rattle.std.proofs.Common.{rules}
use Rattle.field.specs.Airspace.{given_fix}
use Rattle.field.proofs.airspace.with_fix.Goals as goal

pub returns : goal.returns
unfolding given_fix
returns c = search rules
