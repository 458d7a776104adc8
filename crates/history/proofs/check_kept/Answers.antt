-- `history::check_kept` meets its contract, test by test. Assumes nothing.
use mathlib.Core.Path.{sym, ap, ◌∙◌}
use mathlib.Core.Bool.{Bool, cond}
use borrow.Author.Tests.{eq-eqb}
use Rattle.std.proofs.lemmas.Result.{err_from_is_err_and}
use Rattle.refusals.specs.Refusals.{outcome_number, number_of}
use Rattle.refusals.proofs.Outcomes.{number_some}
use Rattle.field.proofs.TestParts.{is_not}
use Rattle.field.proofs.TestLaws.{if_true, if_false}
use Rattle.history.proofs.check_kept.Goals as goal

pub returns-in_err-check_input : goal.returns-in_err-check_input
returns-in_err-check_input c =
    let input = c.in_err-check_input.ensures in
    let q = err_from_is_err_and c.from_residual.result c.from_residual.ensures.1 in
    ap outcome_number q.1 ∙ ap number_of q.2 ∙ input ∙ sym (if_false _ _ (is_not input (number_some _)))

pub returns : goal.returns
unfolding number_of
returns c =
    c.require.ensures
    ∙ ap (λ (b : Bool). cond b 0 10) c.kept_within_bounds.ensures
    ∙ sym (if_true _ _ (eq-eqb _ _ (sym c.in_ok-check_input.ensures)))
