-- The classroom dialect (02, 2.12), coming back: the field of a list in which everyone is in a holding. Definitions only.
use Rattle.std.specs.Prelude.{Bool, true, cond, ◌&&◌, List, [], ◌∷◌, ℕ, suc, ◌%◌, eqb, leb, length, get_or, Result, Ok, Err}
use Rattle.limits.specs.Limits.{fastest}
use Rattle.request.specs.Input.{word, within, first_refused}
use Rattle.practice.specs.declared.FileLegs.{FileLegs}
use Rattle.practice.specs.File.{legs_allowed}
use Rattle.field.specs.declared.Legs.{Legs}
use Rattle.field.specs.declared.Field.{Field}
use Rattle.field.specs.Airspace.{is_side, opposite, zone_of, entering, empty_field}
use Rattle.edits.specs.Edits.{with_tail, appended, with_zone, with_sequence}
use Rattle.refusals.specs.declared.Refusal.{Refusal}
use Rattle.refusals.specs.Refusals.{number_of}
use Rattle.finder.specs.declared.Indexed.{Indexed}
use Rattle.finder.specs.Finder.{within_bounds_indexed}
use Rattle.indexed.specs.Indexed.{with_index}
use Rattle.playing.specs.Playing.{legs_in_miles, no_legs}
use Rattle.dialect.specs.declared.ListEntry.{ListEntry}
use Rattle.dialect_field.specs.declared.Built.{Built}

-- ---- the list, lent as bytes

-- an entry by its eight bytes, two for each of number, location, place and fix, the low byte first
abbrev pub entry_in : List ℕ → ListEntry
entry_in bytes = record {
  number = word (get_or bytes 0 0) (get_or bytes 1 0);
  location = word (get_or bytes 2 0) (get_or bytes 3 0);
  place = word (get_or bytes 4 0) (get_or bytes 5 0);
  fix = word (get_or bytes 6 0) (get_or bytes 7 0);
}

-- the entries of a list, eight bytes for each; fewer than eight at its end are none
abbrev pub entries_in : List ℕ → List ListEntry
entries_in [] = []
entries_in (a ∷ []) = []
entries_in (a ∷ b ∷ []) = []
entries_in (a ∷ b ∷ c ∷ []) = []
entries_in (a ∷ b ∷ c ∷ d ∷ []) = []
entries_in (a ∷ b ∷ c ∷ d ∷ e ∷ []) = []
entries_in (a ∷ b ∷ c ∷ d ∷ e ∷ f ∷ []) = []
entries_in (a ∷ b ∷ c ∷ d ∷ e ∷ f ∷ g ∷ []) = []
entries_in (a ∷ b ∷ c ∷ d ∷ e ∷ f ∷ g ∷ h ∷ rest) = entry_in (a ∷ b ∷ c ∷ d ∷ e ∷ f ∷ g ∷ h ∷ []) ∷ entries_in rest

-- an entry whose location is a holding, zones 1 to 4, and whose place is this one
unfoldable pub is_placed : ListEntry → ℕ → Bool
is_placed e place = within 1 4 e.location && eqb e.place place

-- the places of the entries count up along the list, from this one
abbrev pub placed_from : ℕ → List ListEntry → Bool
placed_from place [] = true
placed_from place (e ∷ es) = is_placed e place && placed_from (suc place) es

-- a list that 29 does not refuse: five entries at most, each in a holding, with places from 1; bytes that are no whole entries are no list
unfoldable pub list_allowed : List ℕ → Bool
list_allowed bytes = eqb (length bytes % 8) 0 && leb (length (entries_in bytes)) 5 && placed_from 1 (entries_in bytes)

-- ---- the field

-- a fix as the field holds it, in eight bits; what is no side is 0, which breaks bound g as it does itself
unfoldable pub fix_in : ℕ → ℕ
fix_in fix = cond (is_side fix) fix 0

-- one of the list in its zone, waiting, and last in the sequence, with the caller's speed, nothing waited, no leg of its own and desk 1 as its owner; the
-- next fix is then the opposite of its own, as after an entry (01, "The boxes")
unfoldable pub with_entry : Field → ℕ → ListEntry → Field
with_entry f speed e =
    with_sequence (with_zone f e.location (with_tail (zone_of f e.location) (entering e.number (fix_in e.fix) speed 1)))
    (appended f.sequence e.number) (opposite (fix_in e.fix))

-- one after the other, on a field
abbrev pub built_on : Field → ℕ → List ListEntry → Field
built_on f speed [] = f
built_on f speed (e ∷ es) = built_on (with_entry f speed e) speed es

-- all of them, on the empty field with these legs; where the list is empty the next fix is that field's, right
unfoldable pub built : Legs → ℕ → List ListEntry → Field
built legs speed entries = built_on (empty_field legs) speed entries

-- ---- the answer

-- the number that refuses a list, in this order: 7 by the legs, 4 by the speed, 29 by the list, and 25 by the field that it builds, with its index (02, 2.9);
-- 0 where none does
unfoldable pub coming_number : FileLegs → ℕ → List ℕ → ℕ
coming_number legs speed bytes =
    first_refused
    ((7, legs_allowed legs)
    ∷ (4, within 1 fastest speed)
    ∷ (29, list_allowed bytes)
    ∷ (25, within_bounds_indexed (with_index (built (legs_in_miles legs) speed (entries_in bytes))))
    ∷ [])

-- a refusal, with the field of a refused practice file: nobody is on it, and it has no legs
unfoldable pub not_built : ℕ → Built
not_built number = record { number = number; after = with_index (empty_field (legs_in_miles no_legs)) }

-- the answer that a reason to refuse gives, by its number, or the field
abbrev pub answered : Result Indexed Refusal → Built
answered (Ok x) = record { number = 0; after = x }
answered (Err refusal) = not_built (number_of refusal)

-- the field of a list, with its index beside it; it keeps the bounds, and need not be one that requests reach
unfoldable pub field_of_list : FileLegs → ℕ → List ℕ → Built
field_of_list legs speed bytes =
    cond (eqb (coming_number legs speed bytes) 0)
    (record { number = 0; after = with_index (built (legs_in_miles legs) speed (entries_in bytes)) })
    (not_built (coming_number legs speed bytes))
