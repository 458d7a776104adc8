-- `field::airspace::empty_field` meets its contract: the definition computes to the field as the code writes it out. Assumes nothing.
use Rattle.std.proofs.Common.{rules}
use Rattle.field.specs.Airspace.{empty_field}
use Rattle.field.proofs.airspace.empty_field.Goals as goal

pub returns : goal.returns
unfolding empty_field
returns c = search rules
