-- `questions::find::aircraft_at` meets its contract, by those of `zone_of` and `aircraft_in`. Assumes nothing.
use mathlib.Core.Path.{ap, ◌∙◌}
use mathlib.Core.List.{◌∷◌}
use lib.ListN.{get_or}
use Rattle.field.specs.declared.Zone.{Zone}
use Rattle.field.specs.Airspace.{nobody, queue_of, in_zone}
use Rattle.questions.specs.Find.{aircraft_at}
use Rattle.questions.proofs.find.aircraft_at.Goals as goal

pub returns : goal.returns
unfolding aircraft_at in_zone
returns c = c.aircraft_in.ensures ∙ ap (λ (q : Zone). get_or (nobody ∷ queue_of q) c.args.place nobody) c.zone_of.ensures
