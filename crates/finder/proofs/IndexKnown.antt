-- What is known of an index that is a parameter or that a callee returned, as field's `proofs/FieldKnown.antt` has it. Assumes nothing.
use mathlib.Core.Path.{◌≡◌}
use mathlib.Core.List.{List}
use lib.ListN.{length}
use mir.Val.{Val}
use denote.Laws.{Is}
use Rattle.finder.specs.declared.Index.{Index}
use Rattle.finder.specs.contracts.Index as index

pub record IndexKnown (i : Index) : Type 0 where
  pub places : length i.entries ≡ 5

pub index_known : (i : Index) {vs : List Val} → Is index.the_row i vs → IndexKnown i
index_known i p = record { places = p.1.1.0.1.0.1 }
