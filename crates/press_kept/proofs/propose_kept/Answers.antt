-- `press_kept::propose_kept` meets its contract: what breaks a bound is refused before anything is proposed. Assumes nothing.
use mathlib.Core.Path.{◌∙◌}
use Rattle.field.proofs.TestParts.{holds, fails}
use Rattle.press_kept.proofs.PressingKept.{kept_refused, kept_proposed}
use Rattle.press_kept.proofs.propose_kept.Goals as goal

pub returns-then-not-within_bounds_history : goal.returns-then-not-within_bounds_history
returns-then-not-within_bounds_history c = kept_refused _ (fails c.within_bounds_history.ensures c.if-not-within_bounds_history.true-raw)

pub returns : goal.returns
returns c =
    c.propose.ensures ∙ kept_proposed _ (holds c.within_bounds_history.ensures c.if-not-within_bounds_history.false-raw)
