-- `host::views::spacings_of` meets its contract: the spacing asked for is judged first, then the field with its kept ones. Assumes nothing.
use mathlib.Core.Path.{sym, ◌∙◌}
use Rattle.field.proofs.TestParts.{holds, fails}
use Rattle.field.proofs.TestLaws.{if_true, if_false}
use Rattle.host.specs.Calls.{spacings_of}
use Rattle.host.proofs.views.spacings_of.Goals as goal

pub returns-then-not-legal_spacing : goal.returns-then-not-legal_spacing
unfolding spacings_of
returns-then-not-legal_spacing c = c.spacing_refused.ensures ∙ sym (if_false _ _ (fails c.legal_spacing.ensures c.if-not-legal_spacing.true-raw))

pub returns-then-not-within_bounds_history : goal.returns-then-not-within_bounds_history
unfolding spacings_of
returns-then-not-within_bounds_history c =
    c.spacing_refused-then-not-within_bounds_history.ensures
    ∙ sym (if_true _ _ (holds c.legal_spacing.ensures c.if-not-legal_spacing.false-raw) ∙ if_false _ _ (fails c.within_bounds_history.ensures c.if-not-within_bounds_history.true-raw))

pub returns : goal.returns
unfolding spacings_of
returns c =
    c.gaps.ensures
    ∙ sym (if_true _ _ (holds c.legal_spacing.ensures c.if-not-legal_spacing.false-raw) ∙ if_true _ _ (holds c.within_bounds_history.ensures c.if-not-within_bounds_history.false-raw))
