-- Document 01, "The boxes": sides, zones, queues, aircraft and the empty field.
use Rattle.std.specs.Prelude.{Bool, cond, ◌&&◌, ◌||◌, List, [], ◌∷◌, ℕ, zero, suc, ◌+◌, ◌%◌, eqb, leb, length, get_or, take, replicate, Float}
use Rattle.leg.specs.Progress.{whole, sixty_fourths, flown_out, leg_after_miss}
use Rattle.leg.specs.declared.Progress.{Progress}
use Rattle.leg.specs.declared.Progress.TheVariants.{Waiting, Flying}
use Rattle.field.specs.declared.Aircraft.{Aircraft}
use Rattle.field.specs.declared.Zone.{Zone}
use Rattle.field.specs.declared.Sequence.{Sequence}
use Rattle.field.specs.declared.Legs.{Legs}
use Rattle.field.specs.declared.Field.{Field}

-- ---- sides and zones

-- the right side, as the pilot sees it
abbrev pub right : ℕ
right = 1

-- the left side
abbrev pub left : ℕ
left = 2

-- whether a number is a side
unfoldable pub is_side : ℕ → Bool
is_side s = eqb s right || eqb s left

-- the opposite side; what is no side has 0, no side
unfoldable pub opposite : ℕ → ℕ
opposite s = cond (eqb s right) left (cond (eqb s left) right 0)

-- the holding of a side at 3000 feet, zone 1 or 2
abbrev pub at3000 : ℕ → ℕ
at3000 side = side

-- its holding at 2000 feet, zone 3 or 4
abbrev pub at2000 : ℕ → ℕ
at2000 side = 2 + side

-- its lateral entry zone, 5 or 6
abbrev pub lateral : ℕ → ℕ
lateral side = 4 + side

-- its missed approach zone, 7 or 8
abbrev pub missed : ℕ → ℕ
missed side = 6 + side

-- its base, zone 9 or 10
abbrev pub base : ℕ → ℕ
base side = 8 + side

-- intermediate, for both sides
abbrev pub intermediate : ℕ
intermediate = 11

-- final
abbrev pub final_approach_zone : ℕ
final_approach_zone = 12

-- the runway
abbrev pub runway : ℕ
runway = 13

-- the side of a holding, lateral, missed or base zone
unfoldable pub side_of : ℕ → ℕ
side_of z = cond (eqb (z % 2) 1) right left

-- n zones in the order of their numbers, z first
abbrev pub zones_from : ℕ → ℕ → List ℕ
zones_from z zero = []
zones_from z (suc n) = z ∷ zones_from (suc z) n

-- the area of a side: all its zones but the base
abbrev pub area : ℕ → List ℕ
area side = at3000 side ∷ at2000 side ∷ lateral side ∷ missed side ∷ []

-- the approach: both bases, intermediate and final
abbrev pub approach : List ℕ
approach = zones_from 9 4

-- the operation area: every zone but the runway
abbrev pub operation : List ℕ
operation = zones_from 1 12

-- all thirteen zones
abbrev pub everywhere : List ℕ
everywhere = zones_from 1 13

-- whether zone z is flown in: the missed zones and the approach are
unfoldable pub is_flying_zone : ℕ → Bool
is_flying_zone z = leb 7 z && leb z 12

-- ---- queues

-- nobody: a place as the empty field has it
abbrev pub nobody : Aircraft
nobody = record { number = 0; fix = 0; speed = 0; progress = Waiting; waited = whole 0; leg = whole 0; desk = 0 }

-- a zone at length 0
abbrev pub empty_zone : Zone
empty_zone = record { aircraft = replicate 4 nobody; length = 0 }

-- zone z of the field; 0, which is no zone of it, is empty, and so is a number over 13
unfoldable pub zone_of : Field → ℕ → Zone
zone_of f z = get_or (empty_zone ∷ f.zones) z empty_zone

-- those in a zone, within its length: first who came first, the head
unfoldable pub queue_of : Zone → List Aircraft
queue_of q = take q.length q.aircraft

-- how many stand in a queue
unfoldable pub queue_length : Zone → ℕ
queue_length q = length (queue_of q)

-- those in zone z, the head first
unfoldable pub in_zone : Field → ℕ → List Aircraft
in_zone f z = queue_of (zone_of f z)

-- the landing sequence: the numbers within its length, first to land first
unfoldable pub order_of : Sequence → List ℕ
order_of s = take s.length s.numbers

-- how many stand in the landing sequence
unfoldable pub order_length : Sequence → ℕ
order_length s = length (order_of s)

-- ---- legs

-- four legs of so many 64ths of a mile, as the field has them, in miles
abbrev pub legs_in64ths : ℕ → ℕ → ℕ → ℕ → Legs
legs_in64ths missed base intermediate final =
    record {
      missed = sixty_fourths missed;
      base = sixty_fourths base;
      intermediate = sixty_fourths intermediate;
      final_approach = sixty_fourths final;
    }

-- the leg that belongs to zone z, the same for either side; 0 where no leg is flown
unfoldable pub leg_of : Legs → ℕ → Float
leg_of legs z =
    cond (eqb z (missed right) || eqb z (missed left)) legs.missed
    (cond (eqb z (base right) || eqb z (base left)) legs.base
    (cond (eqb z intermediate) legs.intermediate
    (cond (eqb z final_approach_zone) legs.final_approach
    (whole 0))))

-- ---- aircraft

-- the progress of one that comes into zone z: no miles flown yet, or waiting where no leg is flown
unfoldable pub progress_into : ℕ → Progress
progress_into z = cond (is_flying_zone z) (Flying (whole 0)) Waiting

-- an aircraft as it enters, in a holding or a lateral zone: it waits, has no miles waited yet (02, 2.2) and no leg of its own (02, 2.7), and belongs to the
-- desk that lets it in (02, 2.10)
unfoldable pub entering : ℕ → ℕ → ℕ → ℕ → Aircraft
entering number fix speed desk = record { number = number; fix = fix; speed = speed; progress = Waiting; waited = whole 0; leg = whole 0; desk = desk }

-- an aircraft with another progress and another leg of its own (02, 2.7); all else stays, the miles waited (02, 2.2) and the desk (02, 2.10) too
unfoldable pub on_leg : Aircraft → Progress → Float → Aircraft
on_leg a p leg = record { number = a.number; fix = a.fix; speed = a.speed; progress = p; waited = a.waited; leg = leg; desk = a.desk }

-- an aircraft as it comes into zone z from another zone, but by a miss: its own leg is the one that belongs to z (02, 2.7)
unfoldable pub arrived : Legs → ℕ → Aircraft → Aircraft
arrived legs z a = on_leg a (progress_into z) (leg_of legs z)

-- an aircraft of final as it comes into zone z by a miss: its own leg is the missed leg with the rest of the one that it was on (02, 2.7)
unfoldable pub arrived_by_miss : Legs → ℕ → Aircraft → Aircraft
arrived_by_miss legs z a = on_leg a (progress_into z) (leg_after_miss legs.missed a.progress a.leg)

-- an aircraft with another fix; all else stays, the miles waited (02, 2.2), its own leg (02, 2.7) and its desk (02, 2.10) too
unfoldable pub given_fix : Aircraft → ℕ → Aircraft
given_fix a fix = record { number = a.number; fix = fix; speed = a.speed; progress = a.progress; waited = a.waited; leg = a.leg; desk = a.desk }

-- whether an aircraft is at the end of its own leg (01, "The requests"; 02, 2.7)
unfoldable pub leg_flown_out : Aircraft → Bool
leg_flown_out a = flown_out a.progress a.leg

-- ---- the empty field

-- the field that lists of requests start from, with these legs (01, "Any list of requests"): nobody is on it, and the next fix is right
unfoldable pub empty_field : Legs → Field
empty_field legs =
    record {
      zones = replicate 13 empty_zone;
      sequence = record { numbers = replicate 4 0; length = 0 };
      next = right;
      legs = legs;
    }
