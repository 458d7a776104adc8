-- `history::kept_within_bounds` meets its contract: the kept fields that the loop has passed are within the bounds. Assumes nothing.
use mathlib.Core.Path.{sym}
use native.Mathlib.Omega.{arith}
use borrow.Author.Tests.{le-leb, lt-leb}
use Rattle.field.proofs.TestParts.{and_then, and_cut, holds, fails}
use Rattle.finder.specs.Finder.{within_bounds_indexed}
use Rattle.history.specs.History.{kept_within_bounds}
use Rattle.history.proofs.HistoryKnown.{history_known}
use Rattle.history.proofs.KeptTested.{tested_none, tested_more, tested_not, tested_all}
use Rattle.history.proofs.kept_within_bounds.Goals as goal

pub returns-then-count-gt-MOST_KEPT : goal.returns-then-count-gt-MOST_KEPT
unfolding kept_within_bounds
returns-then-count-gt-MOST_KEPT c = sym (and_cut _ (lt-leb _ _ c.if-count-gt-MOST_KEPT.true))

pub loop-i-init : goal.loop-i-init
loop-i-init c =
    let long = (history_known c.args.h c.well_formed.0).places in
    let few = c.if-count-gt-MOST_KEPT.false in
    (tested_none within_bounds_indexed c.args.h.kept c.args.h.count (omega (arith, long, few)), few)

pub returns-then-not-within_bounds_indexed : goal.returns-then-not-within_bounds_indexed
unfolding kept_within_bounds
returns-then-not-within_bounds_indexed c =
    let h = c.args.h in
    let l = c.loop-i in
    sym (and_then (le-leb _ _ l.invariant.1) (tested_not within_bounds_indexed h.kept h.count l.i _ l.invariant.0 (omega arith) (fails c.within_bounds_indexed.ensures c.if-not-within_bounds_indexed.true-raw)))

pub loop-i-preserved : goal.loop-i-preserved
loop-i-preserved c =
    let h = c.args.h in
    let l = c.loop-i in
    (tested_more within_bounds_indexed h.kept h.count l.i _ l.invariant.0 (omega arith) (holds c.within_bounds_indexed.ensures c.if-not-within_bounds_indexed.false-raw), l.invariant.1)

pub returns : goal.returns
unfolding kept_within_bounds
returns c =
    let h = c.args.h in
    let l = c.loop-i in
    sym (and_then (le-leb _ _ l.invariant.1) (tested_all within_bounds_indexed h.kept h.count l.i l.invariant.0 (omega arith)))
