-- The state that a host lends, read: the field with its index, the eight kept ones, and the count, each part at its own place, numbers with the low byte
-- first. Any bytes are some state. Definitions only.
use Rattle.std.specs.Prelude.{cond, List, [], ◌∷◌, ℕ, zero, suc, ◌+◌, ◌*◌, eqb, get_or}
use Rattle.limits.specs.Limits.{most_kept}
use Rattle.practice.specs.File.{number16}
use Rattle.words.specs.Words.{number64, miles_of}
use Rattle.leg.specs.declared.Progress.{Progress}
use Rattle.leg.specs.declared.Progress.TheVariants.{Waiting, Flying}
use Rattle.field.specs.declared.Aircraft.{Aircraft}
use Rattle.field.specs.declared.Zone.{Zone}
use Rattle.field.specs.declared.Sequence.{Sequence}
use Rattle.field.specs.declared.Legs.{Legs}
use Rattle.field.specs.declared.Field.{Field}
use Rattle.finder.specs.declared.Entry.{Entry}
use Rattle.finder.specs.declared.Indexed.{Indexed}
use Rattle.history.specs.declared.History.{History}

-- ---- sizes, in bytes

-- an aircraft: number 2, fix 1, desk 1, speed 2, progress 8, miles waited 8, own leg 8
abbrev pub aircraft_size : ℕ
aircraft_size = 30

-- a zone: four aircraft, and its length
abbrev pub zone_size : ℕ
zone_size = 128

-- an entry of the index: number 2, zone 1, place 1
abbrev pub entry_size : ℕ
entry_size = 4

-- a field with its index: thirteen zones, the sequence with its length, the next fix, four legs, and five entries
abbrev pub field_size : ℕ
field_size = 1733

-- the state: the field, the eight kept ones, and how many of them count, in eight bytes: 15,605
abbrev pub state_size : ℕ
state_size = (1 + most_kept) * field_size + 8

-- ---- parts of one size

-- n parts of one size behind each other, each read from its place
abbrev pub several : {A : Type 0} → (ℕ → A) → ℕ → ℕ → ℕ → List A
several read size zero at = []
several read size (suc n) at = read at ∷ several read size n (at + size)

-- ---- an aircraft

-- the 64 bits of the progress of one that waits: all of them set, which are no miles
abbrev pub waiting : ℕ
waiting = 18446744073709551615

-- the progress of 64 bits: waiting, or the miles flown
abbrev pub progress_of : ℕ → Progress
progress_of n = cond (eqb n waiting) Waiting (Flying (miles_of n))

-- the aircraft at a place of the bytes
unfoldable pub read_aircraft : List ℕ → ℕ → Aircraft
read_aircraft bytes at = record {
  number = number16 bytes at;
  fix = get_or bytes (at + 2) 0;
  desk = get_or bytes (at + 3) 0;
  speed = number16 bytes (at + 4);
  progress = progress_of (number64 bytes (at + 6));
  waited = miles_of (number64 bytes (at + 14));
  leg = miles_of (number64 bytes (at + 22));
}

-- ---- a field with its index

-- the zone at a place: four aircraft, the head first, and the length
unfoldable pub read_zone : List ℕ → ℕ → Zone
read_zone bytes at = record { aircraft = several (read_aircraft bytes) aircraft_size 4 at; length = number64 bytes (at + 120) }

-- the sequence at a place: four numbers, and the length
unfoldable pub read_sequence : List ℕ → ℕ → Sequence
read_sequence bytes at = record { numbers = several (number16 bytes) 2 4 at; length = number64 bytes (at + 8) }

-- the legs at a place: missed, base, intermediate and final, in miles
unfoldable pub read_legs : List ℕ → ℕ → Legs
read_legs bytes at = record {
  missed = miles_of (number64 bytes at);
  base = miles_of (number64 bytes (at + 8));
  intermediate = miles_of (number64 bytes (at + 16));
  final_approach = miles_of (number64 bytes (at + 24));
}

-- the field at a place: zones 1 to 13, the sequence, the next fix and the legs
unfoldable pub read_field : List ℕ → ℕ → Field
read_field bytes at = record {
  zones = several (read_zone bytes) zone_size 13 at;
  sequence = read_sequence bytes (at + 1664);
  next = get_or bytes (at + 1680) 0;
  legs = read_legs bytes (at + 1681);
}

-- the entry of the index at a place
abbrev pub read_entry : List ℕ → ℕ → Entry
read_entry bytes at = record { number = number16 bytes at; zone = get_or bytes (at + 2) 0; place = get_or bytes (at + 3) 0 }

-- the field at a place with the index behind it
unfoldable pub read_indexed : List ℕ → ℕ → Indexed
read_indexed bytes at = record { field = read_field bytes at; index = record { entries = several (read_entry bytes) entry_size 5 (at + 1713) } }

-- ---- the state

-- the field, the eight kept ones, oldest first, and how many of them count
unfoldable pub read_history : List ℕ → History
read_history bytes = record {
  now = read_indexed bytes 0;
  kept = several (read_indexed bytes) field_size most_kept field_size;
  count = number64 bytes ((1 + most_kept) * field_size);
}
