-- Document 01, "The boxes" and refusals 12 to 14 and 22: where an aircraft is, and whom it follows.
use Rattle.std.specs.Prelude.{Bool, false, cond, List, [], ◌∷◌, ◌++◌, map, ℕ, suc, eqb, get_or}
use Rattle.field.specs.declared.Aircraft.{Aircraft}
use Rattle.field.specs.declared.Sequence.{Sequence}
use Rattle.field.specs.declared.Field.{Field}
use Rattle.questions.specs.declared.Place.{Place}
use Rattle.field.specs.Airspace.{in_zone, everywhere, nobody, order_of}

-- the numbers of all in the listed zones, zone by zone
abbrev pub numbers_in : Field → List ℕ → List ℕ
numbers_in f [] = []
numbers_in f (z ∷ zs) = map (λ a. a.number) (in_zone f z) ++ numbers_in f zs

-- the place of a number in a queue whose head is place k; 0 where it is not there, and the first where it stands twice
abbrev pub place_from : ℕ → ℕ → List Aircraft → ℕ
place_from k number [] = 0
place_from k number (a ∷ rest) = cond (eqb a.number number) k (place_from (suc k) number rest)

-- where a number is that is not on the field: zone 0 and place 0
abbrev pub nowhere : Place
nowhere = record { zone = 0; place = 0 }

-- where a number is, among the listed zones: the first zone that has it, and its place there from 1
unfoldable pub find_in : Field → ℕ → List ℕ → Place
find_in f number [] = nowhere
find_in f number (z ∷ zs) =
    cond (eqb (place_from 1 number (in_zone f z)) 0)
    (find_in f number zs)
    (record { zone = z; place = place_from 1 number (in_zone f z) })

-- where a number is on the field
unfoldable pub place_of : Field → ℕ → Place
place_of f number = find_in f number everywhere

-- the aircraft at a place, from 1, of zone z; nobody where there is none
unfoldable pub aircraft_at : Field → ℕ → ℕ → Aircraft
aircraft_at f z place = get_or (nobody ∷ in_zone f z) place nobody

-- the fix of the aircraft with a number; 0 where it is absent
unfoldable pub fix_of : Field → ℕ → ℕ
fix_of f number = let at = place_of f number in (aircraft_at f at.zone at.place).fix

-- whether a number is the first of a list
abbrev pub is_head : ℕ → List ℕ → Bool
is_head number [] = false
is_head number (n ∷ ns) = eqb n number

-- whether a number is first in the landing sequence
unfoldable pub is_first : Sequence → ℕ → Bool
is_first s number = is_head number (order_of s)

-- the number before this one in a list: `ahead` where this is its first, and 0 where it is not in it
abbrev pub ahead_of : ℕ → ℕ → List ℕ → ℕ
ahead_of ahead number [] = 0
ahead_of ahead number (n ∷ ns) = cond (eqb n number) ahead (ahead_of n number ns)

-- the leader of a number: the one before it in the landing sequence; 0 for the first, and for one that is not in it (01, "The boxes")
unfoldable pub leader_of : Sequence → ℕ → ℕ
leader_of s number = ahead_of 0 number (order_of s)

-- the zone of the leader; 0 where there is none
unfoldable pub leader_zone : Field → ℕ → ℕ
leader_zone f number = cond (eqb (leader_of f.sequence number) 0) 0 (place_of f (leader_of f.sequence number)).zone
