-- `history::start_with` meets its contract. Assumes nothing.
use mathlib.Core.Path.{ap, ◌∙◌}
use lib.ListN.{replicate}
use Rattle.finder.specs.declared.Indexed.{Indexed}
use Rattle.indexed.specs.Indexed.{with_index}
use Rattle.history.specs.History.{start_with}
use Rattle.history.proofs.start_with.Goals as goal

pub returns : goal.returns
unfolding start_with
returns c =
    let x = c.args.x in
    ap (λ (e : Indexed). record { now = x; kept = replicate 8 e; count = 0 }) (c.with_index-empty.ensures ∙ ap with_index c.empty_field.ensures)
