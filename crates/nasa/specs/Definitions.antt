-- NASA/TM-2004-213006, appendix, "Definitions": its landing part, in its terms and its order. Left out are departures, which document 01 leaves to others, with
-- their zones; identification numbers and the number of the rule, which are for printing there; and the functions that only the paper's properties use,
-- `leader?`, `assigned2fix` and `landing_op`. Speeds, miles, legs and desks it does not have.
use Rattle.std.specs.Prelude.{Bool, true, false, cond, not, ◌||◌, List, [], ◌∷◌, ℕ, ◌+◌, ◌-◌, eqb, length}
use Rattle.order.specs.Model.{Side, right_side, left_side, opp}

-- ---- aircraft

-- an aircraft: its sequence number, which tells its leader, and the side of its missed approach holding fix. `Side` is right or left, and `opp` the opposite.
pub record ScaAircraft : Type 0 where
  pub seq : ℕ
  pub mahf : Side

-- ---- the state

-- the zones (3.1, table 1), departures left out: holding at 3000 and at 2000 feet, lateral entry, missed approach and base, each of a side; and the others
pub data ScaZone : Type 0 where
  holding3 holding2 lez maz base : Side → ScaZone
  intermediate final runway : ScaZone

-- the state: a queue of aircraft for each zone, who entered the zone first at the head; the missed approach holding fix and the sequence number that come next
pub record SCA : Type 0 where
  pub queue : ScaZone → List ScaAircraft
  pub nextmahf : Side
  pub nextseq : ℕ

-- ---- questions of an aircraft

-- whether two sides are the same
abbrev pub same_side : Side → Side → Bool
same_side right_side right_side = true
same_side right_side left_side = false
same_side left_side right_side = false
same_side left_side left_side = true

-- the first landing sequence
abbrev pub first : ℕ
first = 1

-- whether it is the first in the landing sequence
abbrev pub first_in_sequence : ScaAircraft → Bool
first_in_sequence a = eqb a.seq first

-- the landing sequence of its leader; 0 is none
abbrev pub leader : ScaAircraft → ℕ
leader a = a.seq - 1

-- the landing sequence after its own
abbrev pub next : ScaAircraft → ℕ
next a = a.seq + 1

-- ---- questions of a queue

-- how many of a queue are assigned to a side
abbrev pub assigned : List ScaAircraft → Side → ℕ
assigned [] side = 0
assigned (a ∷ rest) side = cond (same_side a.mahf side) 1 0 + assigned rest side

-- whether any of them is
abbrev pub any_assigned : List ScaAircraft → Side → Bool
any_assigned q side = not (eqb (assigned q side) 0)

-- whether an aircraft with this sequence number is in a queue
abbrev pub on_zone : List ScaAircraft → ℕ → Bool
on_zone [] n = false
on_zone (a ∷ rest) n = eqb a.seq n || on_zone rest n

-- every sequence number of a queue lowered by one
abbrev pub decrease : List ScaAircraft → List ScaAircraft
decrease [] = []
decrease (a ∷ rest) = record { seq = leader a; mahf = a.mahf } ∷ decrease rest

-- ---- questions of the state

-- whether an aircraft with this sequence number is on the approach
abbrev pub sca_on_approach : SCA → ℕ → Bool
sca_on_approach s n =
    on_zone (s.queue (base right_side)) n || on_zone (s.queue (base left_side)) n || on_zone (s.queue intermediate) n || on_zone (s.queue final) n

-- whether an aircraft on the approach is assigned to a side
abbrev pub approach_assigned : SCA → Side → Bool
approach_assigned s side =
    any_assigned (s.queue (base right_side)) side || any_assigned (s.queue (base left_side)) side || any_assigned (s.queue intermediate) side || any_assigned (s.queue final) side

-- how many are at one side, the approach left out
abbrev pub actual : SCA → Side → ℕ
actual s side = length (s.queue (holding3 side)) + length (s.queue (holding2 side)) + length (s.queue (lez side)) + length (s.queue (maz side))

-- the virtual number of a fix: those at the side, and those elsewhere that are assigned to it
unfoldable pub virtual : SCA → Side → ℕ
virtual s side = actual s side
    + assigned (s.queue (holding3 (opp side))) side
    + assigned (s.queue (holding2 (opp side))) side
    + assigned (s.queue (lez (opp side))) side
    + assigned (s.queue (maz (opp side))) side
    + assigned (s.queue (base right_side)) side
    + assigned (s.queue (base left_side)) side
    + assigned (s.queue intermediate) side
    + assigned (s.queue final) side

-- ---- aircraft that come in or come anew

-- a new aircraft at a side: the next sequence number, and the side's own fix where it is the first, else the next fix
abbrev pub aircraft : SCA → Side → ScaAircraft
aircraft s side = record { seq = s.nextseq; mahf = elim (eqb s.nextseq first) [ true ↦ side | false ↦ s.nextmahf ] }

-- an aircraft reassigned on a missed approach: the next sequence number, and its own fix where it is the only one, else the next fix
abbrev pub reassign : SCA → ScaAircraft → ScaAircraft
reassign s a = record { seq = s.nextseq; mahf = elim (eqb (s.nextseq - 1) first) [ true ↦ a.mahf | false ↦ s.nextmahf ] }
