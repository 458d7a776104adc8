-- `field::airspace::arrived` meets its contract: by those of `progress_into`, `leg_of` and `on_leg`. Assumes nothing.
use Rattle.std.proofs.Common.{rules}
use Rattle.field.specs.Airspace.{arrived}
use Rattle.field.proofs.airspace.arrived.Goals as goal

pub returns : goal.returns
unfolding arrived
returns c = search rules
