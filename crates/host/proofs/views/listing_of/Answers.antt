-- `host::views::listing_of` meets its contract: a field that with its kept ones breaks a bound is not listed. Assumes nothing.
use mathlib.Core.Path.{sym, ◌∙◌}
use Rattle.field.proofs.TestParts.{holds, fails}
use Rattle.field.proofs.TestLaws.{if_true, if_false}
use Rattle.host.specs.Calls.{listing_of}
use Rattle.host.proofs.views.listing_of.Goals as goal

pub returns-then-not-within_bounds_history : goal.returns-then-not-within_bounds_history
unfolding listing_of
returns-then-not-within_bounds_history c = c.list_refused.ensures ∙ sym (if_false _ _ (fails c.within_bounds_history.ensures c.if-not-within_bounds_history.true-raw))

pub returns : goal.returns
unfolding listing_of
returns c = c.list_of.ensures ∙ sym (if_true _ _ (holds c.within_bounds_history.ensures c.if-not-within_bounds_history.false-raw))
