-- What is known of a history that is a parameter or that a callee returned, as field's `proofs/FieldKnown.antt` has it. Assumes nothing.
use mathlib.Core.Path.{◌≡◌}
use mathlib.Core.List.{List}
use lib.ListN.{length}
use mir.Val.{Val}
use denote.Laws.{Is}
use Rattle.history.specs.declared.History.{History}
use Rattle.history.specs.contracts.History as history

pub record HistoryKnown (h : History) : Type 0 where
  pub places : length h.kept ≡ 8

pub history_known : (h : History) {vs : List Val} → Is history.the_row h vs → HistoryKnown h
history_known h p = record { places = p.1.1.1.0.1.0.1 }
