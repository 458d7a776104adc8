-- Document 01, "The requests" and "Turned away by the field": what each kind of request needs and does.
use Rattle.std.specs.Prelude.{Bool, cond, not, ◌&&◌, ◌||◌, List, [], ◌∷◌, ℕ, eqb, leb, ltb, length}
use Rattle.request.specs.Input.{within, in_range, is_entry, is_tick, asked_of}
use Rattle.request.specs.declared.Request.{Request}
use Rattle.field.specs.declared.Aircraft.{Aircraft}
use Rattle.field.specs.declared.Sequence.{Sequence}
use Rattle.field.specs.declared.Field.{Field}
use Rattle.field.specs.Airspace.{opposite, side_of, at3000, at2000, lateral, missed, base, intermediate, final_approach_zone, runway, zone_of, order_of, entering, arrived, arrived_by_miss, given_fix, leg_flown_out}
use Rattle.questions.specs.declared.Place.{Place}
use Rattle.questions.specs.Counts.{how_many, approach_holds, potential_of, is_empty}
use Rattle.questions.specs.Find.{place_of, aircraft_at, is_first, leader_zone}
use Rattle.edits.specs.Edits.{without_head, with_tail, appended, removed, with_zone, with_sequence}

-- ---- where an aircraft is

-- where a request's aircraft is: its zone and its place there from 1; 0 and 0 where it is not on the field
abbrev pub place_before : Field → Request → Place
place_before f r = place_of f r.number

-- its zone
abbrev pub zone_before : Field → Request → ℕ
zone_before f r = (place_before f r).zone

-- the zone of the leader of a request's aircraft; 0 where it has none
abbrev pub zone_ahead : Field → Request → ℕ
zone_ahead f r = leader_zone f r.number

-- a zone that the kind starts from, by the rule of the kind
unfoldable pub starts_from : ℕ → ℕ → Bool
starts_from kind z = in_range (asked_of kind).zones z

-- whether the aircraft at a place belongs to the desk, which let it in (02, 2.10)
unfoldable pub belongs_to : Field → Place → ℕ → Bool
belongs_to f at desk = eqb (aircraft_at f at.zone at.place).desk desk

-- the number of an aircraft as a desk is shown it: 0 where it is another desk's (02, 2.10)
unfoldable pub shown_to : ℕ → Aircraft → ℕ
shown_to desk a = cond (eqb a.desk desk) a.number 0

-- ---- needs, each a refusal number beside a test, of a request whose aircraft is at the place

-- an entry: 11 where anybody on the field has its number, the one on the runway too
abbrev pub absent_checks : Place → List (ℕ × Bool)
absent_checks at = (11, eqb at.zone 0) ∷ []

-- a move: 12 where the aircraft is not on the field, 26 where it is another desk's (02, 2.10), 13 where the kind does not start from its zone, and 14 where it
-- is not the head there
abbrev pub head_checks : ℕ → Place → Bool → List (ℕ × Bool)
head_checks kind at own = (12, not (eqb at.zone 0)) ∷ (26, own) ∷ (13, starts_from kind at.zone) ∷ (14, eqb at.place 1) ∷ []

-- what a kind needs first: an entry that nobody has its number, of neither desk; a tick nothing; every other kind an aircraft of the desk that asks, at
-- the head of a zone
abbrev pub presence_checks : ℕ → Place → Bool → List (ℕ × Bool)
presence_checks kind at own = cond (is_entry kind) (absent_checks at) (cond (is_tick kind) [] (head_checks kind at own))

-- 15 where the head of zone z is not at the end of its own leg (02, 2.7)
abbrev pub flown_out_check : Field → ℕ → ℕ × Bool
flown_out_check f z = (15, leg_flown_out (aircraft_at f z 1))

-- what an approach needs of the sequence, with the leader in zone `ahead`: nobody is ahead, or the leader is on the approach
unfoldable pub may_approach : Sequence → ℕ → ℕ → Bool
may_approach s number ahead = is_first s number || within 9 12 ahead

-- what it needs of the base opposite to its side: no more than one is there
unfoldable pub base_free : Field → ℕ → Bool
base_free f side = leb (how_many f (base (opposite side))) 1

-- what a merge needs of the sequence, with the leader in zone `ahead`: nobody is ahead, or the leader is on intermediate or final
unfoldable pub may_merge : Sequence → ℕ → ℕ → Bool
may_merge s number ahead = is_first s number || within 11 12 ahead

-- kind 1, vertical entry: 16 by the potential number, 17 by the fixes on the approach, 18 by the missed and 19 by the lateral zone; and 20 where both holdings
-- are occupied: since 2.5 (02) one at 3000 makes room where it can descend
abbrev pub vertical_needs : Field → ℕ → List (ℕ × Bool)
vertical_needs f side =
    (16, ltb (potential_of f side) 2)
    ∷ (17, not (approach_holds f side))
    ∷ (18, is_empty f (missed side))
    ∷ (19, is_empty f (lateral side))
    ∷ (20, is_empty f (at3000 side) || is_empty f (at2000 side))
    ∷ []

-- kind 2, lateral entry: 16 where the potential number is not 0
abbrev pub lateral_needs : Field → ℕ → List (ℕ × Bool)
lateral_needs f side = (16, eqb (potential_of f side) 0) ∷ []

-- kind 3, descend, from zone z: 21 where 2000 below it is occupied
abbrev pub descend_needs : Field → ℕ → List (ℕ × Bool)
descend_needs f z = (21, is_empty f (at2000 z)) ∷ []

-- kind 4, approach, from zone z: 22 by the sequence and 23 by the opposite base; neither refuses one from a lateral zone, which goes to 2000 instead
abbrev pub approach_needs : Field → ℕ → ℕ → ℕ → List (ℕ × Bool)
approach_needs f number z ahead = (22, within 5 6 z || may_approach f.sequence number ahead) ∷ (23, within 5 6 z || base_free f (side_of z)) ∷ []

-- kind 5, merge, from zone z: 15 by the leg and 22 by the sequence
abbrev pub merge_needs : Field → ℕ → ℕ → ℕ → List (ℕ × Bool)
merge_needs f number z ahead = flown_out_check f z ∷ (22, may_merge f.sequence number ahead) ∷ []

-- kind 6, to final, and kind 11, hold, from zone z: 15 by the leg
abbrev pub flown_out_needs : Field → ℕ → List (ℕ × Bool)
flown_out_needs f z = flown_out_check f z ∷ []

-- kind 7, land, from zone z: 15 by the leg and 24 by the runway
abbrev pub land_needs : Field → ℕ → List (ℕ × Bool)
land_needs f z = flown_out_check f z ∷ (24, is_empty f runway) ∷ []

-- kind 9, exit, from zone z: 15 by the leg, since 2.3 (02), and 22 where it is not first in the sequence
abbrev pub exit_needs : Field → ℕ → ℕ → List (ℕ × Bool)
exit_needs f number z = flown_out_check f z ∷ (22, is_first f.sequence number) ∷ []

-- ---- what they do

-- the head of zone z taken off the field
unfoldable pub head_gone : Field → ℕ → Field
head_gone f z = with_zone f z (without_head (zone_of f z))

-- an aircraft put at the tail of zone z
unfoldable pub tail_put : Field → ℕ → Aircraft → Field
tail_put f z a = with_zone f z (with_tail (zone_of f z) a)

-- the head of zone z to the tail of zone w, where it starts a new leg or waits
unfoldable pub moved : Field → ℕ → ℕ → Field
moved f z w = tail_put (head_gone f z) w (arrived f.legs w (aircraft_at f z 1))

-- kind 3, and what an entry (02, 2.5) and a hold do to the one at 3000: the head of zone z, a holding at 3000, to 2000 of its side
abbrev pub descended : Field → ℕ → Field
descended f z = moved f z (at2000 z)

-- a number out of the landing sequence
unfoldable pub out_of_sequence : Field → ℕ → Field
out_of_sequence f number = with_sequence f (removed f.sequence number) f.next

-- the fix that an entry takes: its own side where the sequence is empty, else the next fix (01, "The boxes")
unfoldable pub fix_taken : Field → ℕ → ℕ
fix_taken f side = cond (eqb (length (order_of f.sequence)) 0) side f.next

-- kinds 1 and 2, into zone z: the aircraft is last there and in the sequence, the next fix is then the opposite of its own, and it belongs to the desk that
-- asks (02, 2.10)
unfoldable pub entered : Field → Request → ℕ → Field
entered f r z =
    let fix = fix_taken f r.side in
    let g = tail_put f z (entering r.number fix r.amount r.desk) in
    with_sequence g (appended f.sequence r.number) (opposite fix)

-- kind 1 (02, 2.5): where 3000 of the side is occupied, the one there descends, ..
unfoldable pub made_room : Field → ℕ → Field
made_room f side = cond (is_empty f (at3000 side)) f (descended f (at3000 side))

-- .. and then the entry is made
unfoldable pub entered_above : Field → Request → Field
entered_above f r = entered (made_room f r.side) r (at3000 r.side)

-- kind 4, from zone z: to the base of its side; from a lateral zone to 2000 where a need is not met
unfoldable pub approached : Field → ℕ → ℕ → ℕ → Field
approached f number z ahead =
    cond (within 5 6 z)
    (cond (may_approach f.sequence number ahead && base_free f (side_of z)) (moved f z (base (side_of z))) (moved f z (at2000 (side_of z))))
    (moved f z (base (side_of z)))

-- kind 7: from final to the runway and out of the sequence, with its fix
unfoldable pub landed : Field → Request → Field
landed f r = out_of_sequence (moved f final_approach_zone runway) r.number

-- kind 9: from intermediate off the field and out of the sequence
unfoldable pub exited : Field → Request → Field
exited f r = out_of_sequence (head_gone f intermediate) r.number

-- the fix after a miss: the old one where nobody else is in the sequence, else the next fix
unfoldable pub fix_after_miss : Field → Aircraft → ℕ
fix_after_miss f a = cond (eqb (length (order_of f.sequence)) 1) a.fix f.next

-- kind 10: from final to the missed zone of the old fix, with the new fix and a leg of its own (02, 2.7), and to the end of the sequence; the next fix is then
-- the opposite of the new one
unfoldable pub missed_approach : Field → Request → Field
missed_approach f r =
    let a = aircraft_at f final_approach_zone 1 in
    let w = missed a.fix in
    let fix = fix_after_miss f a in
    let g = tail_put (head_gone f final_approach_zone) w (given_fix (arrived_by_miss f.legs w a) fix) in
    with_sequence g (appended (removed f.sequence r.number) r.number) (opposite fix)

-- kind 11, from zone z: down to 2000 where nobody holds on the side, else to 3000; whoever is at 3000 is moved down to 2000 before
unfoldable pub held : Field → ℕ → Field
held f z =
    let side = side_of z in
    cond (is_empty f (at3000 side))
    (cond (is_empty f (at2000 side)) (moved f z (at2000 side)) (moved f z (at3000 side)))
    (moved (descended f (at3000 side)) z (at3000 side))

-- whom a hold or an entry (02, 2.5) moves down, for `along`: the one at 3000 of the side, as the desk is shown its number (02, 2.10); 0 where nobody is there
unfoldable pub shown_at3000 : Field → ℕ → ℕ → ℕ
shown_at3000 f desk side = shown_to desk (aircraft_at f (at3000 side) 1)
