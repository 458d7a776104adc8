-- Document 02, 2.13: a field built from a classroom list (2.12), as a step back finds it. Definitions only.
use Rattle.std.specs.Prelude.{◌≡◌, List, ℕ, T, replicate}
use Rattle.limits.specs.Limits.{most_kept}
use Rattle.practice.specs.declared.FileLegs.{FileLegs}
use Rattle.field.specs.Airspace.{empty_field}
use Rattle.indexed.specs.Indexed.{with_index}
use Rattle.playing.specs.Playing.{legs_in_miles}
use Rattle.dialect_field.specs.Coming.{field_of_list}
use Rattle.history.specs.declared.History.{History}
use Rattle.history.specs.History.{start_with, within_bounds_history}

-- the field of a list with its index, and none kept
abbrev pub history_of_list : FileLegs → ℕ → List ℕ → History
history_of_list legs speed bytes = start_with (field_of_list legs speed bytes).after

-- no field is kept, the places hold the empty field with the list's legs, and the bounds are kept (02, 2.13)
pub record FromList (legs : FileLegs) (speed : ℕ) (bytes : List ℕ) : Type 0 where
  pub none : (history_of_list legs speed bytes).count ≡ 0
  pub places : (history_of_list legs speed bytes).kept ≡ replicate most_kept (with_index (empty_field (legs_in_miles legs)))
  pub bounds : T (within_bounds_history (history_of_list legs speed bytes))
