-- The index beside a field (02, 2.9): the zone and place of each number on it, the lowest number first.
use Rattle.std.specs.Prelude.{◌≡◌, ◌⊎◌, Bool, true, false, cond, not, ◌&&◌, ◌||◌, List, [], ◌∷◌, map, ℕ, suc, ◌<◌, eqb, ltb, replicate}
use Rattle.field.specs.declared.Aircraft.{Aircraft}
use Rattle.field.specs.declared.Field.{Field}
use Rattle.field.specs.Airspace.{everywhere}
use Rattle.questions.specs.declared.Place.{Place}
use Rattle.questions.specs.Find.{nowhere, place_of, numbers_in}
use Rattle.bounds.specs.Bounds.{within_bounds}
use Rattle.finder.specs.declared.Entry.{Entry}
use Rattle.finder.specs.declared.Index.{Index}
use Rattle.finder.specs.declared.Indexed.{Indexed}

-- ---- the index of a field

-- an unused place: every number of it is 0
abbrev pub unused : Entry
unused = record { number = 0; zone = 0; place = 0 }

-- a number with the zone and place where the queues have it
unfoldable pub entry_of : Field → ℕ → Entry
entry_of f number = let at = place_of f number in record { number = number; zone = at.zone; place = at.place }

-- whether an entry stands before another: the lower number does, and an unused place stands before none
unfoldable pub is_before : Entry → Entry → Bool
is_before a b = not (eqb a.number 0) && (eqb b.number 0 || ltb a.number b.number)

-- of two entries the one that stands first, ..
unfoldable pub first_of : Entry → Entry → Entry
first_of a b = cond (is_before a b) a b

-- .. and the one behind it: of two with the same number one stays, and what is behind it is unused
unfoldable pub second_of : Entry → Entry → Entry
second_of a b = cond (is_before a b) b (cond (eqb a.number b.number) unused a)

-- an entry put among entries in order; where all places are used the highest number is left out
abbrev pub put_among : Entry → List Entry → List Entry
put_among e [] = []
put_among e (x ∷ xs) = first_of e x ∷ put_among (second_of e x) xs

-- entries put among entries in order, one after the other
abbrev pub put_each : List Entry → List Entry → List Entry
put_each [] es = es
put_each (e ∷ more) es = put_each more (put_among e es)

-- the index of a field: all numbers of the thirteen zones, each with its zone and place, put among five unused places. Out of the bounds a number that
-- stands twice is in it once, 0 is left out, and of more than five numbers the five lowest are in it
unfoldable pub index_of : Field → Index
index_of f = record { entries = put_each (map (entry_of f) (numbers_in f everywhere)) (replicate 5 unused) }

-- entries that are all unused
abbrev pub Unused : List Entry → Type 0
Unused [] = Unit {0}
Unused (e ∷ es) = (e ≡ unused) × Unused es

-- entries in order: the first number above k and each above the one before it, with the unused places behind them
abbrev pub InOrder : ℕ → List Entry → Type 0
InOrder k [] = Unit {0}
InOrder k (e ∷ es) = Unused (e ∷ es) ⊎ ((k < e.number) × InOrder e.number es)

-- ---- what an index says

-- the zone and place of the first entry with a number; zone 0 and place 0 where there is none
abbrev pub found_among : ℕ → List Entry → Place
found_among number [] = nowhere
found_among number (e ∷ es) = cond (eqb e.number number) (record { zone = e.zone; place = e.place }) (found_among number es)

-- zone 0 and place 0 for a number that is not in the index, and for 0, which is nobody's number and which no unused place answers (02, 2.9)
unfoldable pub found_in : Index → ℕ → Place
found_in index number = cond (eqb number 0) nowhere (found_among number index.entries)

-- ---- the bounds

-- whether two entries are the same
unfoldable pub same_entry : Entry → Entry → Bool
same_entry a b = eqb a.number b.number && eqb a.zone b.zone && eqb a.place b.place

-- whether two lists of entries are the same, entry by entry
abbrev pub are_the_same_entries : List Entry → List Entry → Bool
are_the_same_entries [] [] = true
are_the_same_entries [] (b ∷ ys) = false
are_the_same_entries (a ∷ xs) [] = false
are_the_same_entries (a ∷ xs) (b ∷ ys) = same_entry a b && are_the_same_entries xs ys

-- whether two indexes say the same, place by place
unfoldable pub same_index : Index → Index → Bool
same_index a b = are_the_same_entries a.entries b.entries

-- the bounds: those of the field, and the index beside it is the field's own in every place, the unused ones too (02, 2.9)
unfoldable pub within_bounds_indexed : Indexed → Bool
within_bounds_indexed x = within_bounds x.field && same_index x.index (index_of x.field)

-- ---- one walk through the zones, which the code makes and no other definition needs

-- those of a queue whose head is place k of a zone, each with its own zone and place
abbrev pub entries_from : ℕ → ℕ → List Aircraft → List Entry
entries_from zone k [] = []
entries_from zone k (a ∷ rest) = record { number = a.number; zone = zone; place = k } ∷ entries_from zone (suc k) rest
