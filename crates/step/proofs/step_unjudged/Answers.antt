-- `step::step_unjudged` meets its contract: a number that is neither 10 nor 25 says that the bounds hold before and after. Assumes nothing.
use mathlib.Core.Path.{sym, ◌∙◌}
use Rattle.refusals.proofs.Outcomes.{number_some}
use Rattle.step.proofs.StepsByTests.{turned_by, number_input, neither_is_step}
use Rattle.step.proofs.step_unjudged.Goals as goal

pub returns-in-Err : goal.returns-in-Err
returns-in-Err c =
    let a = c.args in
    turned_by a.f a.r _ c.turned_away.ensures c.number.ensures (number_input a.f a.r c.in-Err.ensures (number_some _))

pub returns : goal.returns
returns c = let a = c.args in c.unjudged.ensures ∙ neither_is_step a.f a.r (sym c.in_default.ensures) c.requires.0 c.requires.1
