-- Why a missed approach never finds two aircraft at its side: what the landing sequence keeps besides the bounds, in five parts.
-- Examples.antt has a field within the bounds that lacks one of them.
use Rattle.std.specs.Prelude.{◌≡◌, Bool, true, cond, not, ◌&&◌, ◌||◌, List, [], ◌∷◌, map, ℕ, ◌+◌, ◌≤◌, T, eqb, leb, length}
use Rattle.request.specs.Input.{within}
use Rattle.request.specs.declared.Request.{Request}
use Rattle.field.specs.declared.Field.{Field}
use Rattle.field.specs.Airspace.{right, left, side_of, at3000, missed, base, intermediate, final_approach_zone, area, everywhere, zone_of, in_zone, order_of}
use Rattle.field.specs.Lists.{is_in, every}
use Rattle.questions.specs.Counts.{in_area}
use Rattle.questions.specs.Find.{place_of, fix_of}
use Rattle.bounds.specs.Bounds.{within_bounds}
use Rattle.rules.specs.Step.{step_of}
use Rattle.rules.specs.Play.{field_after}
use Rattle.rules.specs.Start.{empty_start}

-- ---- along the landing sequence

-- one of the landing sequence: its number, its zone and its fix
pub record Listed : Type 0 where
  pub number : ℕ
  pub zone : ℕ
  pub fix : ℕ

-- the aircraft with a number
abbrev pub listed : Field → ℕ → Listed
listed f number = record { number = number; zone = (place_of f number).zone; fix = fix_of f number }

-- the landing sequence, first to land first, each with its zone and fix
unfoldable pub sequence_listed : Field → List Listed
sequence_listed f = map (listed f) (order_of f.sequence)

-- those that pass the test, in the same order
abbrev pub those : (Listed → Bool) → List Listed → List Listed
those p [] = []
those p (a ∷ rest) = cond (p a) (a ∷ those p rest) (those p rest)

-- whether one is in the zone
abbrev pub is_in_zone : ℕ → Listed → Bool
is_in_zone zone a = eqb a.zone zone

-- whether one is in the area of the side
abbrev pub is_in_area : ℕ → Listed → Bool
is_in_area side a = is_in a.zone (area side)

-- whether one has the side as fix
abbrev pub has_fix : ℕ → Listed → Bool
has_fix side a = eqb a.fix side

-- none of the numbers is below one that stands before it
abbrev pub never_falls : List ℕ → Bool
never_falls [] = true
never_falls (n ∷ ns) = every (leb n) ns && never_falls ns

-- a test of each one, with those ahead of it, the nearest first, and those behind it
abbrev pub each_among : (List Listed → Listed → List Listed → Bool) → List Listed → List Listed → Bool
each_among p ahead [] = true
each_among p ahead (a ∷ behind) = p ahead a behind && each_among p (a ∷ ahead) behind

-- ---- 1. Order of the approach: final, then intermediate, then base, then those not on the approach

-- how far a zone is from landing: final 0, intermediate 1, base 2, and 3 where it is not on the approach
abbrev pub from_landing : ℕ → ℕ
from_landing z = cond (eqb z final_approach_zone) 0 (cond (eqb z intermediate) 1 (cond (eqb z (base right) || eqb z (base left)) 2 3))

-- along the sequence that distance never falls
unfoldable pub approach_order : Field → Bool
approach_order f = never_falls (map (λ a. from_landing a.zone) (sequence_listed f))

-- ---- 2. Order in a side's area: 2000 or lateral, then 3000, then missed

-- the height in the area of a side: 2000 or lateral 0, 3000 1, missed 2
abbrev pub height_in : ℕ → ℕ → ℕ
height_in side z = cond (eqb z (missed side)) 2 (cond (eqb z (at3000 side)) 1 0)

-- along the sequence the height of those in the area of the side never falls
unfoldable pub area_order : Field → ℕ → Bool
area_order f side = never_falls (map (λ a. height_in side a.zone) (those (is_in_area side) (sequence_listed f)))

-- ---- 3. Room to miss: those behind an aircraft in the area of its fix, and those ahead of it with the same fix, are one at most
abbrev pub has_room : List Listed → Listed → List Listed → Bool
has_room ahead a behind = leb (length (those (is_in_area a.fix) behind) + length (those (has_fix a.fix) ahead)) 1

-- that is so of everyone in the sequence
unfoldable pub room_to_miss : Field → Bool
room_to_miss f = each_among has_room [] (sequence_listed f)

-- ---- 4. Lateral entry: nobody ahead of an aircraft in a lateral zone has that side as fix
abbrev pub lateral_free : List Listed → Listed → List Listed → Bool
lateral_free ahead a behind = not (within 5 6 a.zone) || eqb (length (those (has_fix (side_of a.zone)) ahead)) 0

-- that is so of everyone in the sequence
unfoldable pub lateral_order : Field → Bool
lateral_order f = each_among lateral_free [] (sequence_listed f)

-- ---- 5. Queues agree with the sequence: a zone's queue is the sequence restricted to the zone, in the same order
abbrev pub QueueAgrees : Field → ℕ → Type 0
QueueAgrees f zone = map (λ a. a.number) (in_zone f zone) ≡ map (λ a. a.number) (those (is_in_zone zone) (sequence_listed f))

-- ---- the five together
pub record Reason (f : Field) : Type 0 where
  pub approach_order_is : T (approach_order f)
  pub area_order_is : T (area_order f right && area_order f left)
  pub room_to_miss_is : T (room_to_miss f)
  pub lateral_entry_is : T (lateral_order f)
  pub queues_agree : (zone : ℕ) → T (within 1 12 zone) → QueueAgrees f zone

-- ---- what the authority asked: whoever heads final, and so may miss, finds at most one aircraft in the area of its fix
abbrev pub heads_final : Field → ℕ → Bool
heads_final f number = eqb (place_of f number).zone final_approach_zone && eqb (place_of f number).place 1

-- the area of its fix then has at most one
abbrev pub RoomAtSide : Field → Type 0
RoomAtSide f = (number : ℕ) → T (heads_final f number) → in_area f (fix_of f number) ≤ 1

-- ---- the reason is kept

-- thirteen zones with four places each, and four places in the sequence, as every field of the program has them (01, "The boxes")
unfoldable pub has_places : Field → Bool
has_places f =
    eqb (length f.zones) 13 && every (λ z. eqb (length (zone_of f z).aircraft) 4) everywhere && eqb (length f.sequence.numbers) 4

-- a field with its places, within the bounds, that has the reason
pub record Sound (f : Field) : Type 0 where
  pub places : T (has_places f)
  pub bounds : T (within_bounds f)
  pub reason : Reason f

-- a request leaves such a field behind, and neither 10 nor 25 refuses it
pub record KeptBy (f : Field) (r : Request) : Type 0 where
  pub sound : Sound (step_of f r).field
  pub not_10 : T (not (eqb (step_of f r).answer.number 10))
  pub not_25 : T (not (eqb (step_of f r).answer.number 25))

-- ---- after every list of requests, from every empty field that a list may start from

-- the five hold
abbrev pub ReasonHolds : Type 0
ReasonHolds = (f : Field) → T (empty_start f) → (rs : List Request) → Reason (field_after f rs)

-- whoever heads final has room at its side
abbrev pub AlwaysRoom : Type 0
AlwaysRoom = (f : Field) → T (empty_start f) → (rs : List Request) → RoomAtSide (field_after f rs)

-- no list leads to the field g
abbrev pub NotReached : Field → Type 0
NotReached g = (f : Field) → T (empty_start f) → (rs : List Request) → field_after f rs ≡ g → ⊥
