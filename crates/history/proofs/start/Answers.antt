-- `history::start` meets its contract. Assumes nothing.
use mathlib.Core.Path.{ap, ◌∙◌}
use Rattle.indexed.specs.Indexed.{with_index}
use Rattle.history.specs.History.{start_with, start_of}
use Rattle.history.proofs.start.Goals as goal

pub returns : goal.returns
unfolding start_of
returns c = c.start_with.ensures ∙ ap start_with (c.with_index.ensures ∙ ap with_index c.empty_field.ensures)
