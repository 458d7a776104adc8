-- The marked cases of document 01, "Played by hand", the examples of docs/WHY-SAFE.md, the exits, the entries, the holds after a miss and the two desks hold
-- of the definitions, by one computation. Assumes nothing.
use mathlib.Core.Path.{refl}
use lib.Dec.{T}
use lib.Ieee.{neg, add, sub, mul, div, of_int, round, lt, le, eq}
use Rattle.leg.specs.Progress.{advanced, past_end, waited_after, leg_after_miss}
use Rattle.request.specs.Input.{desk_allowed, kind_allowed, side_allowed, number_allowed, amount_allowed, input_number}
use Rattle.field.specs.Airspace.{is_side, side_of, opposite, is_flying_zone, zone_of, queue_of, in_zone, order_of, leg_of}
use Rattle.field.specs.Airspace.{progress_into, entering, on_leg, arrived, arrived_by_miss, given_fix, leg_flown_out, empty_field}
use Rattle.questions.specs.Counts.{how_many, how_many_with_fix, present_on, in_operation, in_area, per_fix, approach_holds, counted_for, potential_of}
use Rattle.questions.specs.Find.{find_in, place_of, aircraft_at, fix_of, is_first, leader_of, leader_zone}
use Rattle.field.specs.Lists.{every}
use Rattle.bounds.specs.Bounds.{bound_a, bound_b, lateral_rule, bound_c, bound_d, final_first, is_nobody, zone_kept, sequence_kept, bound_e, bound_f, within_bounds}
use Rattle.fits.specs.Fits.{leg_fits, fits_zone, legal_legs, bound_g}
use Rattle.numbers.specs.Numbers.{numbers_differ, sequence_exact}
use Rattle.edits.specs.Edits.{without_head, with_tail, appended, removed, with_zone, with_sequence}
use Rattle.tick.specs.Tick.{ticked_aircraft, ticked_zone, ticked}
use Rattle.rules.specs.Kinds.{starts_from, may_approach, base_free, may_merge, head_gone, tail_put, moved, out_of_sequence, fix_taken, entered, made_room}
use Rattle.rules.specs.Kinds.{entered_above, approached, landed, exited, fix_after_miss, missed_approach, held, belongs_to, shown_to, shown_at3000}
use Rattle.rules.specs.Step.{checks_of, effect_of, number_of, number_and_zeros, acceptance, answer_of, step_of}
use Rattle.rules.specs.Reason.{sequence_listed, approach_order, area_order, room_to_miss, lateral_order, QueueAgrees}
use Rattle.rules.specs.Cases.{marked, case_holds}
use Rattle.rules.specs.Examples.{examples, exits, entries, early_misses, two_desks, one_place, entry_of_eight, JudgedAfterBoth, crowded, miss_of_seven, BoundsNotEnough, stuck, NobodyMoves}
use Rattle.field.proofs.TestLaws.{each_operation}

-- all together, so that what is computed is unfolded once
computed : T (every case_holds marked) × T (every case_holds examples) × T (every case_holds exits) × T (every case_holds entries) × T (every case_holds early_misses)
    × T (every case_holds two_desks) × JudgedAfterBoth one_place entry_of_eight × BoundsNotEnough crowded miss_of_seven × NobodyMoves stuck
unfolding
    advanced past_end waited_after leg_after_miss desk_allowed kind_allowed side_allowed number_allowed amount_allowed input_number is_side opposite is_flying_zone zone_of queue_of in_zone order_of
    progress_into entering on_leg arrived arrived_by_miss given_fix leg_of leg_flown_out empty_field how_many how_many_with_fix present_on in_operation in_area per_fix approach_holds counted_for
    potential_of find_in place_of aircraft_at fix_of is_first leader_of leader_zone bound_a bound_b lateral_rule bound_c bound_d numbers_differ sequence_exact final_first is_nobody zone_kept sequence_kept
    bound_e bound_f leg_fits fits_zone legal_legs bound_g within_bounds without_head with_tail appended removed with_zone with_sequence ticked_aircraft ticked_zone ticked side_of starts_from
    may_approach base_free may_merge head_gone tail_put moved out_of_sequence fix_taken entered made_room entered_above approached landed exited fix_after_miss missed_approach held belongs_to shown_to
    shown_at3000 checks_of effect_of number_of number_and_zeros acceptance answer_of step_of neg add sub mul div of_int round lt le eq sequence_listed approach_order area_order room_to_miss
    lateral_order
computed = (
  tt,
  tt,
  tt,
  tt,
  tt,
  tt,
  record { within_bounds_lem = tt; first_within = tt; answer_25 = refl },
  record {
    within_bounds_lem = tt;
    other_parts = tt;
    queues_agree = each_operation (QueueAgrees crowded) (refl, refl, refl, refl, refl, refl, refl, refl, refl, refl, refl, refl);
    no_room = refl;
    answer_25 = refl;
  },
  record { within_bounds_lem = tt; two_present = refl; none_accepted = tt; tick_leaves = refl },
)

-- the marked cases
pub marked_cases : T (every case_holds marked)
marked_cases = computed.0

-- the three aircraft of docs/WHY-SAFE.md
pub examples_hold : T (every case_holds examples)
examples_hold = computed.1

-- an exit waits for its leg
pub exits_hold : T (every case_holds exits)
exits_hold = computed.2

-- an entry moves the one at 3000 down
pub entries_hold : T (every case_holds entries)
entries_hold = computed.3

-- a hold waits for what was left of final too
pub early_misses_hold : T (every case_holds early_misses)
early_misses_hold = computed.4

-- two desks
pub two_desks_hold : T (every case_holds two_desks)
two_desks_hold = computed.5

-- 25 judges the field after the second move of an entry
pub judged_after_both : JudgedAfterBoth one_place entry_of_eight
judged_after_both = computed.6

-- the bounds alone are not enough
pub bounds_not_enough : BoundsNotEnough crowded miss_of_seven
bounds_not_enough = computed.7

-- they do not let somebody move
pub nobody_moves : NobodyMoves stuck
nobody_moves = computed.8
