-- `indexed::step_indexed` meets its contract: a request that its own parts refuse is turned away, and any other is judged. Assumes nothing.
use mathlib.Core.Path.{sym, ◌∙◌}
use Rattle.refusals.proofs.Outcomes.{number_some}
use Rattle.indexed.proofs.StepsIndexed.{turned_by, number_input}
use Rattle.indexed.proofs.step_indexed.Goals as goal

pub returns-in-Err : goal.returns-in-Err
returns-in-Err c =
    let a = c.args in
    let input = c.in-Err.ensures in
    turned_by a.x a.r _ c.turned_away.ensures c.number.ensures (number_input a.x a.r (λ z. number_some _ (input ∙ z)) ∙ sym input)
