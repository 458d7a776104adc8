-- `history::within_bounds_history` meets its contract: each test decides a part of the definition. Assumes nothing.
use mathlib.Core.Path.{sym}
use Rattle.field.proofs.TestParts.{and_then, and_cut, holds, fails}
use Rattle.history.specs.History.{within_bounds_history}
use Rattle.history.proofs.within_bounds_history.Goals as goal

pub returns-then-not-kept_within_bounds : goal.returns-then-not-kept_within_bounds
unfolding within_bounds_history
returns-then-not-kept_within_bounds c = sym (and_cut _ (fails c.kept_within_bounds.ensures c.if-not-kept_within_bounds.true-raw))

pub returns : goal.returns
unfolding within_bounds_history
returns c =
    sym (and_then (holds c.kept_within_bounds.ensures c.if-not-kept_within_bounds.false-raw) (sym c.within_bounds_indexed.ensures))
