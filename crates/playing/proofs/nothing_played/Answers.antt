-- `playing::nothing_played` meets its contract. Assumes nothing.
use mathlib.Core.Path.{ap, ◌∙◌}
use Rattle.field.specs.Airspace.{empty_field}
use Rattle.playing.proofs.nothing_played.Goals as goal

pub returns : goal.returns
returns c =
    let empty = c.empty_field.ensures ∙ ap empty_field c.legs_in_miles.ensures in
    λ i. record { number = c.args.number; requests = 0; present = 0; field = empty i }
