-- What is known of a struct that is a parameter or that a callee returned: how long its arrays are. `Is the_row x vs` is `c.good.0` of the
-- first parameter, `c.good.1.0` of the second, and `c.CALLEE.ok` of what a callee returned. Where a member stands in its struct is written
-- here alone: of a p in `Is the_row x vs`, the first member is `p.1.1.0`, the second `p.1.1.1.0`. Assumes nothing.
use mathlib.Core.Path.{◌≡◌, refl, sym, ◌∙◌}
use mathlib.Core.List.{List, [], ◌∷◌, map}
use Prim.Native.Nat.{ℕ, zero, suc}
use lib.ListN.{length, get_or, length-map}
use mir.Syntax.{w16}
use mir.Val.{Val}
use denote.Shadow.{shadow}
use denote.Laws.{Is}
use denote.Plain.{UInt}
use denote.Array.{Array, each}
use denote.Struct.Field as struct
use Rattle.field.specs.declared.Zone.{Zone}
use Rattle.field.specs.declared.Sequence.{Sequence}
use Rattle.field.specs.declared.Field.{Field}
use Rattle.field.specs.Airspace.{empty_zone, zone_of}
use Rattle.field.specs.contracts.Aircraft as aircraft
use Rattle.field.specs.contracts.Zone as zone
use Rattle.field.specs.contracts.Sequence as sequence
use Rattle.field.specs.contracts.Field as field

-- an array of numbers by itself
pub numbers_known : (n : ℕ) (xs : List ℕ) {vs : List Val} → Is (Array (UInt w16) n) xs vs → length xs ≡ n
numbers_known n xs p = p.1.0.1

-- an array that is a member of a struct
pub array_known : (F : struct.Field) (n : ℕ) (xs : List F.Value) {vs : List Val} → Is (struct.array_field F n).row (map F.into xs) vs → length xs ≡ n
array_known F n xs p = sym (length-map xs F.into) ∙ p.1.0.1

-- a zone
pub record ZoneKnown (q : Zone) : Type 0 where
  pub places : length q.aircraft ≡ 4

pub zone_known : (q : Zone) {vs : List Val} → Is zone.the_row q vs → ZoneKnown q
zone_known q p = record { places = p.1.1.0.1.0.1 }

-- a sequence
pub record SequenceKnown (s : Sequence) : Type 0 where
  pub places : length s.numbers ≡ 4

pub sequence_known : (s : Sequence) {vs : List Val} → Is sequence.the_row s vs → SequenceKnown s
sequence_known s p = record { places = p.1.1.0.1.0.1 }

-- a field, with each of its zones, and with what stands for a zone that is none
pub record FieldKnown (f : Field) : Type 0 where
  pub zones : length f.zones ≡ 13
  pub places : (z : ℕ) → length (zone_of f z).aircraft ≡ 4
  pub numbers : length f.sequence.numbers ≡ 4

zones_known : (zones : List Zone) (us : List Val) (i : ℕ) → shadow (each zone.the_row.Denot zone.the_row.own_val zones us)
    → length (get_or zones i empty_zone).aircraft ≡ 4
zones_known [] us i p = refl
zones_known (q ∷ zones) [] i p = absurd p
zones_known (q ∷ zones) (u ∷ us) zero p = (zone_known q p.0).places
zones_known (q ∷ zones) (u ∷ us) (suc i) p = zones_known zones us i p.1

pub field_known : (f : Field) {vs : List Val} → Is field.the_row f vs → FieldKnown f
unfolding zone_of
field_known f p = record {
  zones = p.1.1.0.1.0.1;
  places = each_zone;
  numbers = (sequence_known f.sequence p.1.1.1.0).places;
}
  where
    each_zone : (z : ℕ) → length (get_or (empty_zone ∷ f.zones) z empty_zone).aircraft ≡ 4
    each_zone zero = refl
    each_zone (suc i) = zones_known f.zones _ i p.1.1.0.1.1
