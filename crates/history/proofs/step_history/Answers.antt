-- `history::step_history` meets its contract, test by test. Assumes nothing.
use mathlib.Core.Path.{◌≡◌, sym, ◌∙◌}
use mathlib.Core.Bool.{true}
use Rattle.refusals.proofs.Outcomes.{number_some}
use Rattle.history.specs.History.{kept_within_bounds}
use Rattle.history.proofs.StepNumbers.{turned_away, not_refused, checked_kept, kept_checked, number_stepped, through_stepped}
use Rattle.history.proofs.step_history.Goals.{In_default}
use Rattle.history.proofs.step_history.Goals as goal

within : (c : In_default) → kept_within_bounds c.args.h ≡ true
within c = kept_checked c.args.h c.args.r (sym (not_refused _ c.in_default.not-Err) ∙ c.check_kept.ensures)

pub returns-in-Err : goal.returns-in-Err
returns-in-Err c =
    let a = c.args in
    c.turned_away.ensures ∙ turned_away a.h a.r (checked_kept a.h a.r (c.number.ensures ∙ c.in-Err.ensures) (λ z. number_some _ (sym c.number.ensures ∙ z)))
    (λ z. number_some _ (sym c.number.ensures ∙ z))

pub returns-then-number-ne0 : goal.returns-then-number-ne0
returns-then-number-ne0 c =
    let a = c.args in
    c.turned_away-then-number-ne0.ensures
    ∙ turned_away a.h a.r (number_stepped a.h a.r (within (goal.at.returns-then-number-ne0 c).In_default) c.step_indexed-stepped.ensures) c.if-number-ne0.true

pub returns : goal.returns
returns c =
    let a = c.args in
    through_stepped a.h a.r (within (goal.at.returns c).In_default) c.step_indexed-stepped.ensures c.if-number-ne0.false c.keep.ensures
