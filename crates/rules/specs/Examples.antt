-- The examples of docs/WHY-SAFE.md: requests from the empty field, and two fields within the bounds that no list of requests reaches. And
-- exits, which wait for the leg since (02, 2.3), entries beside an occupied 3000 (02, 2.5), holds after a miss on the way (02, 2.7), and two
-- desks (02, 2.10).
use Rattle.std.specs.Prelude.{◌≡◌, Bool, false, not, ◌&&◌, List, [], ◌∷◌, ℕ, T, eqb, replicate}
use Rattle.request.specs.Input.{within, from_desk}
use Rattle.request.specs.declared.Request.{Request}
use Rattle.field.specs.declared.Aircraft.{Aircraft}
use Rattle.field.specs.declared.Zone.{Zone}
use Rattle.field.specs.declared.Field.{Field}
use Rattle.field.specs.Airspace.{right, left, final_approach_zone, zones_from, everywhere, nobody, empty_zone, entering, arrived}
use Rattle.field.specs.Lists.{every}
use Rattle.questions.specs.Counts.{present_on}
use Rattle.questions.specs.Find.{aircraft_at}
use Rattle.bounds.specs.Bounds.{within_bounds}
use Rattle.rules.specs.Kinds.{made_room}
use Rattle.rules.specs.Step.{number_and_zeros, step_of}
use Rattle.rules.specs.Cases.{ask, says, all_legs, Case, any_field, in_order, stands_in, has_flown, to_base, to_final}
use Rattle.rules.specs.Reason.{approach_order, area_order, room_to_miss, lateral_order, QueueAgrees}

-- ---- three aircraft

-- 7 enters right with fix 1; 8 enters left with fix 2 and descends; 9 enters left behind it with fix 1; 7 goes on to final
abbrev pub seven_on_final : List Request → List Request
seven_on_final rest = ask 1 1 7 64 ∷ ask 1 2 8 64 ∷ ask 3 0 8 0 ∷ ask 1 2 9 64 ∷ to_base 7 (to_final 7 rest)

-- 7 enters right and 8 left
abbrev pub one_each : List Request → List Request
one_each rest = ask 1 1 7 64 ∷ ask 1 2 8 64 ∷ rest

-- both go to base
abbrev pub both_to_base : List Request → List Request
both_to_base rest = one_each (to_base 7 (to_base 8 rest))

-- what becomes of the three: a miss, an entry before it, a landing, and a merge that must wait
abbrev pub examples : List Case
examples =
    -- 7 misses: to the right, its old fix, with the next fix, 2, and last; now each of the three has one behind it in the area of its fix,
    -- or one ahead of it with the same fix
    record {
      leg = 64;
      requests = seven_on_final (ask 10 0 7 0 ∷ []);
      answer = says 7 7 2 9 0;
      after = λ f. in_order (8 ∷ 9 ∷ 7 ∷ []) f && stands_in 8 4 f && stands_in 9 2 f && room_to_miss f;
    }
    -- before that nobody may enter right: 7 and 9 have that fix
    ∷ record { leg = 64; requests = seven_on_final (ask 1 1 10 64 ∷ []); answer = number_and_zeros 16; after = any_field }
    -- 7 lands: out of the sequence, with its fix and no leader
    ∷ record { leg = 64; requests = seven_on_final (ask 12 0 0 64 ∷ ask 7 0 7 0 ∷ []); answer = says 7 13 1 0 0; after = in_order (8 ∷ 9 ∷ []) }
    -- 8 may not merge before its leader on base
    ∷ record { leg = 64; requests = both_to_base (ask 12 0 0 64 ∷ ask 5 0 8 0 ∷ []); answer = number_and_zeros 22; after = any_field }
    ∷ []

-- ---- exits

-- 7 alone goes on to intermediate, with a merge that is refused before it: the requests of document 01's session but the last
abbrev pub to_intermediate : List Request → List Request
to_intermediate rest = ask 1 1 7 64 ∷ to_base 7 (ask 5 0 7 0 ∷ ask 12 0 0 64 ∷ ask 5 0 7 0 ∷ rest)

-- 8 on intermediate behind 7 on final
abbrev pub eight_behind : List Request → List Request
eight_behind rest = both_to_base (to_final 7 (ask 5 0 8 0 ∷ rest))

-- exits, in the order of their refusals
abbrev pub exits : List Case
exits =
    -- at the start of the leg: 15, which ends the session as (02, 2.3) gives it
    record { leg = 64; requests = to_intermediate (ask 9 0 7 0 ∷ []); answer = number_and_zeros 15; after = stands_in 7 11 }
    -- at its end: gone
    ∷ record { leg = 64; requests = to_intermediate (ask 12 0 0 64 ∷ ask 9 0 7 0 ∷ []); answer = says 7 0 0 0 0; after = in_order [] }
    -- behind another on intermediate, where nobody has flown the leg out: 14 comes before 15
    ∷ record {
      leg = 64;
      requests = both_to_base (ask 12 0 0 64 ∷ ask 5 0 7 0 ∷ ask 5 0 8 0 ∷ ask 9 0 8 0 ∷ []);
      answer = number_and_zeros 14;
      after = any_field;
    }
    -- at the head of intermediate and not first in sequence: 15 comes before 22
    ∷ record { leg = 64; requests = eight_behind (ask 9 0 8 0 ∷ []); answer = number_and_zeros 15; after = any_field }
    ∷ record { leg = 64; requests = eight_behind (ask 12 0 0 64 ∷ ask 9 0 8 0 ∷ []); answer = number_and_zeros 22; after = any_field }
    ∷ []

-- ---- entries beside an occupied 3000

-- the entry in one step and in two, and one that is refused
abbrev pub entries : List Case
entries =
    -- 9 to the right: 7 descends and keeps its place in the sequence
    record {
      leg = 64;
      requests = one_each (ask 1 1 9 64 ∷ []);
      answer = says 9 1 1 8 7;
      after = λ f. in_order (7 ∷ 8 ∷ 9 ∷ []) f && stands_in 7 3 f && stands_in 9 1 f;
    }
    -- the same in two steps, 7 having descended: nobody in `along`
    ∷ record {
      leg = 64;
      requests = one_each (ask 3 0 7 0 ∷ ask 1 1 9 64 ∷ []);
      answer = says 9 1 1 8 0;
      after = λ f. in_order (7 ∷ 8 ∷ 9 ∷ []) f && stands_in 7 3 f && stands_in 9 1 f;
    }
    -- with both holdings of the side occupied 16 comes before 20
    ∷ record { leg = 64; requests = one_each (ask 1 1 9 64 ∷ ask 1 1 10 64 ∷ []); answer = number_and_zeros 16; after = stands_in 7 3 }
    ∷ []

-- ---- holds after a miss on the way

-- 7 alone misses on final after a tick of the amount there
abbrev pub miss_after : ℕ → List Request → List Request
miss_after amount rest = ask 1 1 7 64 ∷ to_base 7 (to_final 7 (ask 12 0 0 amount ∷ ask 10 0 7 0 ∷ rest))

-- how long a hold must wait after a miss, by what was left of final
abbrev pub early_misses : List Case
early_misses =
    -- half a mile of final is left: with the missed leg a mile and a half is ahead, and after a mile a hold is too early
    record { leg = 64; requests = miss_after 32 (ask 12 0 0 64 ∷ ask 11 0 7 0 ∷ []); answer = number_and_zeros 15; after = has_flown 7 1 }
    ∷ record { leg = 64; requests = miss_after 32 (ask 12 0 0 64 ∷ ask 12 0 0 32 ∷ ask 11 0 7 0 ∷ []); answer = says 7 3 1 0 0; after = stands_in 7 3 }
    -- three quarters of it are left
    ∷ record { leg = 64; requests = miss_after 16 (ask 12 0 0 64 ∷ ask 12 0 0 32 ∷ ask 11 0 7 0 ∷ []); answer = number_and_zeros 15; after = any_field }
    -- at its end nothing is left: the missed leg alone is ahead
    ∷ record { leg = 64; requests = miss_after 64 (ask 12 0 0 64 ∷ ask 11 0 7 0 ∷ []); answer = says 7 3 1 0 0; after = stands_in 7 3 }
    ∷ []

-- ---- two desks

-- who belongs to which desk: the head of a zone
abbrev pub head_is_of : ℕ → ℕ → Field → Bool
head_is_of desk zone f = eqb (aircraft_at f zone 1).desk desk

-- what a desk is refused and shown where the other has aircraft
abbrev pub two_desks : List Case
two_desks =
    -- 31 before anything else, of no desk and of a third one
    record { leg = 64; requests = from_desk 0 (ask 13 0 7 0) ∷ []; answer = number_and_zeros 31; after = any_field }
    ∷ record { leg = 64; requests = from_desk 3 (ask 12 0 0 64) ∷ []; answer = number_and_zeros 31; after = any_field }
    -- 12 before 26 and 26 before 13, of aircraft 7 that desk 1 let in
    ∷ record { leg = 64; requests = ask 1 1 7 64 ∷ from_desk 2 (ask 4 0 8 0) ∷ []; answer = number_and_zeros 12; after = any_field }
    ∷ record { leg = 64; requests = ask 1 1 7 64 ∷ from_desk 2 (ask 4 0 7 0) ∷ []; answer = number_and_zeros 26; after = stands_in 7 1 }
    ∷ record { leg = 64; requests = ask 1 1 7 64 ∷ ask 4 0 7 0 ∷ []; answer = number_and_zeros 13; after = any_field }
    -- an entry that names it: 11
    ∷ record { leg = 64; requests = ask 1 1 7 64 ∷ from_desk 2 (ask 1 2 7 64) ∷ []; answer = number_and_zeros 11; after = any_field }
    -- the leader is not shown to the other desk, and is to its own
    ∷ record { leg = 64; requests = ask 1 1 7 64 ∷ from_desk 2 (ask 1 2 8 64) ∷ []; answer = says 8 2 2 0 0; after = head_is_of 2 2 }
    ∷ record { leg = 64; requests = ask 1 1 7 64 ∷ from_desk 2 (ask 1 2 8 64) ∷ from_desk 2 (ask 1 1 9 64) ∷ []; answer = says 9 1 1 8 0; after = stands_in 7 3 }
    -- an entry (02, 2.5) moves the other desk's aircraft down, which is not shown and stays that desk's; a tick is either desk's
    ∷ record {
      leg = 64;
      requests = ask 1 1 7 64 ∷ from_desk 2 (ask 1 1 8 64) ∷ from_desk 2 (ask 12 0 0 64) ∷ [];
      answer = number_and_zeros 0;
      after = λ f. stands_in 7 3 f && head_is_of 1 3 f && head_is_of 2 1 f;
    }
    ∷ record { leg = 64; requests = ask 1 1 7 64 ∷ from_desk 2 (ask 1 1 8 64) ∷ []; answer = says 8 1 2 0 0; after = any_field }
    -- and so does a hold: 7 misses, and 8, which desk 2 let in at 3000, goes down
    ∷ record {
      leg = 64;
      requests =
          ask 1 1 7 64 ∷ ask 3 0 7 0 ∷ from_desk 2 (ask 1 1 8 64) ∷ ask 4 0 7 0 ∷ to_final 7 (ask 10 0 7 0 ∷ ask 12 0 0 64 ∷ ask 12 0 0 64 ∷ ask 11 0 7 0 ∷ []);
      answer = says 7 1 1 0 0;
      after = λ f. stands_in 8 3 f && head_is_of 2 3 f && head_is_of 1 1 f;
    }
    ∷ []

-- ---- where an entry moves two, 25 judges the field after the second (02, 2.5)

-- a queue of one
abbrev pub only_one : Aircraft → Zone
only_one a = record { aircraft = a ∷ nobody ∷ nobody ∷ nobody ∷ []; length = 1 }

-- 7 at 3000 right and a sequence of one place, such as no field of the program has: 7 may descend, and nobody else may enter
abbrev pub one_place : Field
one_place =
    record {
      zones = only_one (entering 7 right 64 1) ∷ replicate 12 empty_zone;
      sequence = record { numbers = 7 ∷ []; length = 1 };
      next = left;
      legs = all_legs 64;
    }

-- 8 enters right
abbrev pub entry_of_eight : Request
entry_of_eight = ask 1 1 8 64

-- a field within the bounds, and so after the first move of an entry; after the second 25 refuses it
pub record JudgedAfterBoth (f : Field) (r : Request) : Type 0 where
  pub within_bounds_lem : T (within_bounds f)
  pub first_within : T (within_bounds (made_room f r.side))
  pub answer_25 : (step_of f r).answer.number ≡ 25

-- ---- the bounds alone are not enough

-- 7 on final with fix 1, behind it 8 at 2000 right with fix 2, and last 9 at 3000 right with fix 1
abbrev pub crowded : Field
crowded =
    record {
      zones =
          only_one (entering 9 right 64 1)
          ∷ empty_zone
          ∷ only_one (entering 8 left 64 1)
          ∷ empty_zone
          ∷ empty_zone
          ∷ empty_zone
          ∷ empty_zone
          ∷ empty_zone
          ∷ empty_zone
          ∷ empty_zone
          ∷ empty_zone
          ∷ only_one (arrived (all_legs 64) final_approach_zone (entering 7 right 64 1))
          ∷ empty_zone
          ∷ [];
      sequence = record { numbers = 7 ∷ 8 ∷ 9 ∷ 0 ∷ []; length = 3 };
      next = left;
      legs = all_legs 64;
    }

-- 7 misses
abbrev pub miss_of_seven : Request
miss_of_seven = ask 10 0 7 0

-- a field within the bounds, with every part of the reason but room to miss, and a request on it that 25 refuses
pub record BoundsNotEnough (f : Field) (r : Request) : Type 0 where
  pub within_bounds_lem : T (within_bounds f)
  pub other_parts : T (approach_order f && area_order f right && area_order f left && lateral_order f)
  pub queues_agree : (zone : ℕ) → T (within 1 12 zone) → QueueAgrees f zone
  pub no_room : room_to_miss f ≡ false
  pub answer_25 : (step_of f r).answer.number ≡ 25

-- ---- the bounds alone do not let somebody move

-- 7, first in sequence, at 3000 right with fix 1, and 8 at 2000 right with fix 2
abbrev pub stuck : Field
stuck =
    record {
      zones = only_one (entering 7 right 64 1) ∷ empty_zone ∷ only_one (entering 8 left 64 1) ∷ replicate 10 empty_zone;
      sequence = record { numbers = 7 ∷ 8 ∷ 0 ∷ 0 ∷ []; length = 2 };
      next = right;
      legs = all_legs 64;
    }

-- a request of the kind for the head of a zone, of its own desk (02, 2.10)
abbrev pub head_asks : Field → ℕ → ℕ → Request
head_asks f kind z = from_desk (aircraft_at f z 1).desk (ask kind 0 (aircraft_at f z 1).number 0)

-- a field within the bounds with two aircraft, on which no request of kinds 3 to 11 for the head of a zone is accepted, and a tick moves nobody
pub record NobodyMoves (f : Field) : Type 0 where
  pub within_bounds_lem : T (within_bounds f)
  pub two_present : present_on f ≡ 2
  pub none_accepted : T (every (λ kind. every (λ z. not (eqb (step_of f (head_asks f kind z)).answer.number 0)) everywhere) (zones_from 3 9))
  pub tick_leaves : (step_of f (ask 12 0 0 64)).field ≡ f
