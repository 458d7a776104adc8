-- `field::airspace::is_flying_zone` meets its contract: the range goes from the first zone that is flown in to the last. Assumes nothing.
use Rattle.std.proofs.Common.{rules}
use Rattle.field.specs.Airspace.{is_flying_zone}
use Rattle.field.proofs.airspace.is_flying_zone.Goals as goal

pub returns : goal.returns
unfolding is_flying_zone
returns c = search rules
