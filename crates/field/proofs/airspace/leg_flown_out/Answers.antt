-- `field::airspace::leg_flown_out` meets its contract: by that of `flown_out`. Assumes nothing.
use Rattle.std.proofs.Common.{rules}
use Rattle.field.specs.Airspace.{leg_flown_out}
use Rattle.field.proofs.airspace.leg_flown_out.Goals as goal

pub returns : goal.returns
unfolding leg_flown_out
returns c = search rules
