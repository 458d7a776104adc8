-- NASA/TM-2004-213006, appendix, "Rules": the twelve transitions of landing operations, each from a state to no next state or one, in the paper's order.
-- Those that have a side take it first. Section 3.2 has each in words.
use Rattle.std.specs.Prelude.{Bool, cond, not, ◌&&◌, ◌||◌, List, [], ◌∷◌, ◌++◌, ℕ, ◌-◌, eqb, leb, ltb, length}
use Rattle.order.specs.Model.{Side, right_side, left_side, opp}
use Rattle.nasa.specs.Definitions.{ScaAircraft, ScaZone, holding3, holding2, lez, maz, base, intermediate, final, runway, SCA}
use Rattle.nasa.specs.Definitions.{first, first_in_sequence, leader, next, on_zone, decrease, sca_on_approach, approach_assigned, virtual, aircraft, reassign}

-- ---- what transitions are made of

-- no next state, or one
abbrev pub Transition : Type 0
Transition = SCA → List SCA

-- one transition and then another; none where either leads nowhere
abbrev pub in_turn : Transition → Transition → Transition
in_turn one other s = elim (one s) [ [] ↦ [] | (next ∷ rest) ↦ other next ]

-- the next state where a test holds, else none
abbrev pub when : Bool → SCA → List SCA
when test next = cond test (next ∷ []) []

-- what the first of a queue and the rest of it lead to; none where the queue is empty
abbrev pub for_first : List ScaAircraft → (ScaAircraft → List ScaAircraft → List SCA) → List SCA
for_first [] next = []
for_first (a ∷ rest) next = next a rest

-- whether nobody is in a zone
abbrev pub nobody_in : SCA → ScaZone → Bool
nobody_in s z = eqb (length (s.queue z)) 0

-- the number that document 01 gives a zone
abbrev pub zone_number : ScaZone → ℕ
zone_number (holding3 right_side) = 1
zone_number (holding3 left_side) = 2
zone_number (holding2 right_side) = 3
zone_number (holding2 left_side) = 4
zone_number (lez right_side) = 5
zone_number (lez left_side) = 6
zone_number (maz right_side) = 7
zone_number (maz left_side) = 8
zone_number (base right_side) = 9
zone_number (base left_side) = 10
zone_number intermediate = 11
zone_number final = 12
zone_number runway = 13

-- whether two zones are the same
abbrev pub same_zone : ScaZone → ScaZone → Bool
same_zone z w = eqb (zone_number z) (zone_number w)

-- the state with another queue in a zone
unfoldable pub with_queue : SCA → ScaZone → List ScaAircraft → SCA
with_queue s z q = record { queue = λ w. cond (same_zone w z) q (s.queue w); nextmahf = s.nextmahf; nextseq = s.nextseq }

-- the state with an aircraft at the end of a zone
unfoldable pub add : SCA → ScaZone → ScaAircraft → SCA
add s z a = with_queue s z (s.queue z ++ (a ∷ []))

-- the state with another fix and sequence number to come next
unfoldable pub with_next : SCA → Side → ℕ → SCA
with_next s fix seq = record { queue = s.queue; nextmahf = fix; nextseq = seq }

-- the state with every sequence number lowered by one, but for those of some zones
unfoldable pub decreased : (ScaZone → Bool) → SCA → SCA
decreased but s = record { queue = λ z. cond (but z) (s.queue z) (decrease (s.queue z)); nextmahf = s.nextmahf; nextseq = s.nextseq }

-- the next sequence number lowered by one, where it is not the first
abbrev pub lowered : ℕ → ℕ
lowered seq = cond (eqb seq first) first (seq - 1)

-- a new aircraft of a side at the end of a zone
unfoldable pub enters : SCA → ScaZone → Side → SCA
enters s z side = let a = aircraft s side in with_next (add s z a) (opp a.mahf) (next a)

-- ---- the transitions

-- (3.2.1) VerticalEntry
unfoldable pub vertical_entry : Side → Transition
vertical_entry side s =
    when (ltb (virtual s side) 2 && not (approach_assigned s side) && nobody_in s (maz side) && nobody_in s (lez side) && nobody_in s (holding3 side))
    (enters s (holding3 side) side)

-- (3.2.2) LateralEntry
unfoldable pub lateral_entry : Side → Transition
lateral_entry side s = when (eqb (virtual s side) 0) (enters s (lez side) side)

-- (3.2.3) HoldingPatternDescend
unfoldable pub holding_pattern_descend : Side → Transition
holding_pattern_descend side s =
    for_first (s.queue (holding3 side)) (λ a rest. when (nobody_in s (holding2 side)) (add (with_queue s (holding3 side) rest) (holding2 side) a))

-- both approach initiations: at most one on the opposite base, and the first in sequence or its leader on the approach
abbrev pub may_initiate : SCA → Side → ScaAircraft → Bool
may_initiate s side a = leb (length (s.queue (base (opp side)))) 1 && (first_in_sequence a || sca_on_approach s (leader a))

-- (3.2.4) VerticalApproachInitiation
unfoldable pub vertical_approach_initiation : Side → Transition
vertical_approach_initiation side s =
    for_first (s.queue (holding2 side)) (λ a rest. when (may_initiate s side a) (add (with_queue s (holding2 side) rest) (base side) a))

-- (3.2.5) LateralApproachInitiation: otherwise to 2000
unfoldable pub lateral_approach_initiation : Side → Transition
lateral_approach_initiation side s =
    for_first (s.queue (lez side)) (λ a rest.
    cond (may_initiate s side a) (add (with_queue s (lez side) rest) (base side) a) (add (with_queue s (lez side) rest) (holding2 side) a) ∷ [])

-- (3.2.6) Merging: the leader on intermediate or final, as the formal model has it; the words there say final approach
unfoldable pub merging : Side → Transition
merging side s =
    for_first (s.queue (base side)) (λ a rest.
    when (first_in_sequence a || on_zone (s.queue intermediate) (leader a) || on_zone (s.queue final) (leader a)) (add (with_queue s (base side) rest) intermediate a))

-- (3.2.7) Exit: final keeps its sequence numbers here
unfoldable pub exit : Transition
exit s =
    for_first (s.queue intermediate) (λ a rest.
    when (first_in_sequence a) (with_next (decreased (λ z. same_zone z final || same_zone z runway) (with_queue s intermediate rest)) s.nextmahf (lowered s.nextseq)))

-- (3.2.8) FinalSegment
unfoldable pub final_segment : Transition
final_segment s = for_first (s.queue intermediate) (λ a rest. add (with_queue s intermediate rest) final a ∷ [])

-- (3.2.9) Landing: on the runway it keeps its sequence number
unfoldable pub landing : Transition
landing s =
    for_first (s.queue final) (λ a rest.
    when (nobody_in s runway) (with_next (add (decreased (λ z. same_zone z runway) (with_queue s final rest)) runway a) s.nextmahf (lowered s.nextseq)))

-- (3.2.10) Taxing: one that lands has the sequence number 1, one that departs 0
unfoldable pub taxing : Transition
taxing s = for_first (s.queue runway) (λ a rest. when (first_in_sequence a) (with_queue s runway rest))

-- (3.2.11) MissedApproach: to the zone of its old fix, with its new sequence number and fix
unfoldable pub sca_missed_approach : Transition
sca_missed_approach s =
    for_first (s.queue final) (λ a rest.
    let again = reassign s a in
    with_next (decreased (λ z. same_zone z runway) (add (with_queue s final rest) (maz a.mahf) again)) (opp again.mahf) s.nextseq ∷ [])

-- (3.2.12) LowestAvailableAltitude: where 3000 is taken, the one there goes to 2000
unfoldable pub lowest_available_altitude : Side → Transition
lowest_available_altitude side s =
    for_first (s.queue (maz side)) (λ a rest.
    cond (nobody_in s (holding3 side))
    (cond (nobody_in s (holding2 side)) (add (with_queue s (maz side) rest) (holding2 side) a) (add (with_queue s (maz side) rest) (holding3 side) a) ∷ [])
    (for_first (s.queue (holding3 side)) (λ upper others.
    let lower = add (with_queue s (holding3 side) others) (holding2 side) upper in
    add (with_queue lower (maz side) rest) (holding3 side) a ∷ [])))
