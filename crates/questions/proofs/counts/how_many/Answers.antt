-- `questions::counts::how_many` meets its contract, by those of `zone_of` and `queue_length`. Assumes nothing.
use mathlib.Core.Path.{ap, ◌∙◌}
use Rattle.field.specs.Airspace.{queue_length, in_zone}
use Rattle.questions.specs.Counts.{how_many}
use Rattle.questions.proofs.counts.how_many.Goals as goal

pub returns : goal.returns
unfolding queue_length in_zone how_many
returns c = c.queue_length.ensures ∙ ap queue_length c.zone_of.ensures
