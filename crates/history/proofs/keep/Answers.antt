-- `history::keep` meets its contract: a field is put behind those that count, or the kept ones move up by a place first. Assumes nothing.
use mathlib.Core.Path.{sym, ap, ◌∙◌}
use mathlib.Core.List.{List}
use native.Mathlib.Omega.{arith}
use lib.ListN.{set}
use borrow.Author.Tests.{lt-ltb, le-ltb}
use Rattle.field.proofs.TestLaws.{if_true, if_false}
use Rattle.finder.specs.declared.Indexed.{Indexed}
use Rattle.kept_up.proofs.ClosedUp.{closed_up}
use Rattle.history.specs.History.{keeping}
use Rattle.history.proofs.HistoryKnown.{history_known}
use Rattle.history.proofs.keep.Goals as goal

pub returns-then-h-lt-MOST_KEPT : goal.returns-then-h-lt-MOST_KEPT
unfolding keeping
returns-then-h-lt-MOST_KEPT c = sym (if_true _ _ (lt-ltb _ _ c.if-h-lt-MOST_KEPT.true))

pub returns : goal.returns
unfolding keeping
returns c =
    let a = c.args in
    ap (λ (k : List Indexed). record { now = a.next; kept = k; count = a.h.count })
    (ap (λ (k : List Indexed). set k 7 a.h.now) c.copy_within.ensures.after ∙ closed_up a.h.kept 0 7 a.h.now (history_known a.h c.well_formed.0).places (omega arith))
    ∙ sym (if_false _ _ (le-ltb _ _ c.if-h-lt-MOST_KEPT.false))
