-- The state that a host lends, written: the one encoding of a field with its index, the eight kept ones and the count. Definitions only.
use Rattle.std.specs.Prelude.{cond, List, [], ◌∷◌, ◌++◌, ℕ, eqb}
use Rattle.practice.specs.Practice.{bytes16}
use Rattle.words.specs.Words.{bytes64, bits_of}
use Rattle.leg.specs.declared.Progress.{Progress}
use Rattle.leg.specs.declared.Progress.TheVariants.{Waiting, Flying}
use Rattle.field.specs.declared.Aircraft.{Aircraft}
use Rattle.field.specs.declared.Zone.{Zone}
use Rattle.field.specs.declared.Sequence.{Sequence}
use Rattle.field.specs.declared.Legs.{Legs}
use Rattle.field.specs.declared.Field.{Field}
use Rattle.finder.specs.declared.Entry.{Entry}
use Rattle.finder.specs.declared.Indexed.{Indexed}
use Rattle.history.specs.declared.History.{History}
use Rattle.layout.specs.Read.{waiting}

-- the bytes of each one in a list, behind each other
abbrev pub bytes_of_each : {A : Type 0} → (A → List ℕ) → List A → List ℕ
bytes_of_each bytes [] = []
bytes_of_each bytes (x ∷ xs) = bytes x ++ bytes_of_each bytes xs

-- the 64 bits of a progress
abbrev pub progress_bits : Progress → ℕ
progress_bits Waiting = waiting
progress_bits (Flying miles) = bits_of miles

-- an aircraft
unfoldable pub aircraft_bytes : Aircraft → List ℕ
aircraft_bytes a =
    bytes16 a.number
    ++ (a.fix ∷ a.desk ∷ [])
    ++ bytes16 a.speed
    ++ bytes64 (progress_bits a.progress)
    ++ bytes64 (bits_of a.waited)
    ++ bytes64 (bits_of a.leg)

-- a zone
unfoldable pub zone_bytes : Zone → List ℕ
zone_bytes z = bytes_of_each aircraft_bytes z.aircraft ++ bytes64 z.length

-- the sequence
unfoldable pub sequence_bytes : Sequence → List ℕ
sequence_bytes s = bytes_of_each bytes16 s.numbers ++ bytes64 s.length

-- the legs
unfoldable pub legs_bytes : Legs → List ℕ
legs_bytes legs = bytes64 (bits_of legs.missed) ++ bytes64 (bits_of legs.base) ++ bytes64 (bits_of legs.intermediate) ++ bytes64 (bits_of legs.final_approach)

-- a field
unfoldable pub field_bytes : Field → List ℕ
field_bytes f = bytes_of_each zone_bytes f.zones ++ sequence_bytes f.sequence ++ (f.next ∷ []) ++ legs_bytes f.legs

-- an entry of the index
abbrev pub index_entry_bytes : Entry → List ℕ
index_entry_bytes e = bytes16 e.number ++ (e.zone ∷ e.place ∷ [])

-- a field with its index
unfoldable pub indexed_bytes : Indexed → List ℕ
indexed_bytes x = field_bytes x.field ++ bytes_of_each index_entry_bytes x.index.entries

-- the state
unfoldable pub history_bytes : History → List ℕ
history_bytes h = indexed_bytes h.now ++ bytes_of_each indexed_bytes h.kept ++ bytes64 h.count

-- ---- after a call

-- the bytes after a call with this number on a state of these bytes: where it is 0 those of the history after it, else every byte as it was
abbrev pub state_after : List ℕ → ℕ → History → List ℕ
state_after bytes number after = cond (eqb number 0) (history_bytes after) bytes
