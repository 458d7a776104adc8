-- A field built from a classroom list, with none kept. Assumes nothing.
use mathlib.Core.Path.{◌≡◌, refl, ap, ◌∙◌}
use mathlib.Core.Bool.{true}
use mathlib.Core.List.{List, [], ◌∷◌}
use Prim.Native.Nat.{ℕ}
use lib.ListN.{replicate}
use Rattle.limits.specs.Limits.{most_kept}
use Rattle.practice.specs.declared.FileLegs.{FileLegs}
use Rattle.field.specs.declared.Legs.{Legs}
use Rattle.field.specs.declared.Field.{Field}
use Rattle.field.specs.Airspace.{empty_field}
use Rattle.edits.specs.Edits.{with_zone, with_sequence}
use Rattle.field.proofs.TestLaws.{pass, passed}
use Rattle.finder.specs.declared.Indexed.{Indexed}
use Rattle.finder.specs.Finder.{within_bounds_indexed}
use Rattle.indexed.specs.Indexed.{with_index}
use Rattle.indexed.proofs.Own.{within_own}
use Rattle.playing.specs.Playing.{legs_in_miles}
use Rattle.dialect.specs.declared.ListEntry.{ListEntry}
use Rattle.dialect_field.specs.Coming.{with_entry, built_on, built, entries_in, field_of_list}
use Rattle.history.specs.History.{start_with, kept_within_bounds, within_bounds_history}
use Rattle.there_and_back.specs.FromList.{FromList}
use Rattle.there_and_back.proofs.AcceptedList.{accepted}

-- building leaves the legs
legs_on : (f : Field) (speed : ℕ) (es : List ListEntry) → (built_on f speed es).legs ≡ f.legs
unfolding with_entry with_sequence with_zone
legs_on f speed [] = refl
legs_on f speed (e ∷ es) = legs_on (with_entry f speed e) speed es

legs_built : (legs : Legs) (speed : ℕ) (es : List ListEntry) → (built legs speed es).legs ≡ legs
unfolding built empty_field
legs_built legs speed es = legs_on (empty_field legs) speed es

-- with none kept the bounds are those of the field
within_start : (x : Indexed) → within_bounds_indexed x ≡ true → within_bounds_history (start_with x) ≡ true
unfolding start_with within_bounds_history kept_within_bounds
within_start x w = w

none_counts : (x : Indexed) → (start_with x).count ≡ 0
unfolding start_with
none_counts x = refl

places_hold : (x : Indexed) → (start_with x).kept ≡ replicate most_kept (with_index (empty_field x.field.legs))
unfolding start_with
places_hold x = refl

field_legs : (f : Field) → (with_index f).field.legs ≡ f.legs
unfolding with_index
field_legs f = refl

-- Of an accepted list.
pub from_list : (legs : FileLegs) (speed : ℕ) (bytes : List ℕ) → (field_of_list legs speed bytes).number ≡ 0 → FromList legs speed bytes
from_list legs speed bytes n =
    let a = accepted legs speed bytes n in
    let f = built (legs_in_miles legs) speed (entries_in bytes) in
    let x = (field_of_list legs speed bytes).after in
    let those : x.field.legs ≡ legs_in_miles legs = ap (λ (y : Indexed). y.field.legs) a.after ∙ field_legs f ∙ legs_built (legs_in_miles legs) speed (entries_in bytes) in
    record {
      none = none_counts x;
      places = places_hold x ∙ ap (λ (l : Legs). replicate most_kept (with_index (empty_field l))) those;
      bounds = pass (within_start x (ap within_bounds_indexed a.after ∙ within_own f ∙ passed a.bounds));
    }
