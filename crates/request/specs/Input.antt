-- What the contracts of `src/` cite: a request's parts from its bytes, the rule of each kind (01, "The requests"), and refusals 31 (02, 2.10) and 1 to 4
-- (01, "Turned away by the request or the file"). Definitions only.
use Rattle.std.specs.Prelude.{ℕ, ◌+◌, ◌*◌, List, [], ◌∷◌, Bool, cond, not, ◌&&◌, ◌||◌, leb, eqb, get_or, Option, Some, None}
use Rattle.limits.specs.Limits.{longest_tick, fastest, desks}
use Rattle.request.specs.declared.Request.{Request}
use Rattle.request.specs.declared.Range.{Range}
use Rattle.request.specs.declared.KindRule.{KindRule}

-- a number of 16 bits by its two bytes, the low one first (01, "The practice file")
abbrev pub word : ℕ → ℕ → ℕ
word low high = low + 256 * high

-- the request that six bytes hold: one for the kind, one for the side, two for the number and two for the amount; what a practice file holds is asked by
-- desk 1 (02, 2.10)
abbrev pub request_of : List ℕ → Request
request_of bytes = record {
  kind = get_or bytes 0 0;
  side = get_or bytes 1 0;
  number = word (get_or bytes 2 0) (get_or bytes 3 0);
  amount = word (get_or bytes 4 0) (get_or bytes 5 0);
  desk = 1;
}

-- a request as a desk asks it
abbrev pub from_desk : ℕ → Request → Request
from_desk desk r = record { kind = r.kind; side = r.side; number = r.number; amount = r.amount; desk = desk }

-- n is from low to high
abbrev pub within : ℕ → ℕ → ℕ → Bool
within low high n = leb low n && leb n high

-- the first number whose test fails, or 0 where none does
abbrev pub first_refused : List (ℕ × Bool) → ℕ
first_refused [] = 0
first_refused ((number, test) ∷ rest) = cond test (first_refused rest) number

-- kinds 1, 2, the two entries
abbrev pub is_entry : ℕ → Bool
is_entry kind = within 1 2 kind

-- kind 12, the tick
abbrev pub is_tick : ℕ → Bool
is_tick kind = eqb kind 12

-- the numbers from low to high; none where high is below low
abbrev pub range : ℕ → ℕ → Range
range low high = (low, high)

-- n is in a range
abbrev pub in_range : Range → ℕ → Bool
in_range r n = within r.0 r.1 n

-- the zones that each kind starts from (01, "The boxes" and "The requests"); none for an entry and a tick
abbrev pub starting_zones : ℕ → Range
starting_zones kind =
    -- descend: the holdings at 3000
    cond (eqb kind 3) (range 1 2)
    -- approach: the holdings at 2000 and the lateral zones
    (cond (eqb kind 4) (range 3 6)
    -- merge: the bases
    (cond (eqb kind 5) (range 9 10)
    -- to final, and exit: intermediate
    (cond (eqb kind 6 || eqb kind 9) (range 11 11)
    -- land and miss: final
    (cond (eqb kind 7 || eqb kind 10) (range 12 12)
    -- taxi: the runway
    (cond (eqb kind 8) (range 13 13)
    -- hold: the missed zones
    (cond (eqb kind 11) (range 7 8) (range 1 0)))))))

-- what refusals 2 to 4 and 13 ask of a request of a kind
abbrev pub asked_of : ℕ → KindRule
asked_of kind =
    record {
      -- 2: an entry names a side, any other kind 0
      sides = cond (is_entry kind) (range 1 2) (range 0 0);
      -- 3: every kind but a tick names an aircraft
      aircraft = not (is_tick kind);
      -- 4: an entry has a speed, a tick its 64ths of a minute, any other kind 0
      amounts = cond (is_entry kind) (range 1 fastest) (cond (is_tick kind) (range 1 longest_tick) (range 0 0));
      -- 13: the zones that the kind starts from
      zones = starting_zones kind;
    }

-- the rule of each kind; none where it is not one of the twelve, which refusal 1 says
abbrev pub rule_of : ℕ → Option KindRule
rule_of kind = cond (within 1 12 kind) (Some (asked_of kind)) None

-- 31: a desk that is 1 or 2 (02, 2.10)
unfoldable pub desk_allowed : Request → Bool
desk_allowed r = within 1 desks r.desk

-- 1: a kind that is one of them
unfoldable pub kind_allowed : Request → Bool
kind_allowed r = within 1 12 r.kind

-- 2: a side of the kind's
unfoldable pub side_allowed : Request → Bool
side_allowed r = in_range (asked_of r.kind).sides r.side

-- 3: a number that is not 0 where the kind names an aircraft, and that is 0 where it does not
unfoldable pub number_allowed : Request → Bool
number_allowed r = cond (asked_of r.kind).aircraft (not (eqb r.number 0)) (eqb r.number 0)

-- 4: an amount of the kind's
unfoldable pub amount_allowed : Request → Bool
amount_allowed r = in_range (asked_of r.kind).amounts r.amount

-- the number that refuses a request by itself: 31 before the others (02, 2.10), then 1 to 4 in order; 0 where none does
unfoldable pub input_number : Request → ℕ
input_number r = first_refused ((31, desk_allowed r) ∷ (1, kind_allowed r) ∷ (2, side_allowed r) ∷ (3, number_allowed r) ∷ (4, amount_allowed r) ∷ [])
