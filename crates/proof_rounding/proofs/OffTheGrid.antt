-- The example off the grid, computed request by request, and the two numbers that are rounded without the limits. Assumes nothing.
use mathlib.Core.Path.{refl}
use lib.Ieee.{neg, add, sub, mul, div, of_int, of_bits, round, lt, le, eq}
use Rattle.leg.specs.Progress.{advanced, past_end, waited_after, leg_after_miss}
use Rattle.request.specs.Input.{desk_allowed, kind_allowed, side_allowed, number_allowed, amount_allowed, input_number}
use Rattle.field.specs.Airspace.{is_side, side_of, opposite, is_flying_zone, zone_of, queue_of, in_zone, order_of, leg_of}
use Rattle.field.specs.Airspace.{progress_into, entering, on_leg, arrived, arrived_by_miss, given_fix, leg_flown_out, empty_field}
use Rattle.questions.specs.Counts.{how_many, how_many_with_fix, present_on, in_operation, in_area, per_fix, approach_holds, counted_for, potential_of}
use Rattle.questions.specs.Find.{find_in, place_of, aircraft_at, fix_of, is_first, leader_of, leader_zone}
use Rattle.bounds.specs.Bounds.{bound_a, bound_b, lateral_rule, bound_c, bound_d, final_first, is_nobody, zone_kept, sequence_kept, bound_e, bound_f, within_bounds}
use Rattle.fits.specs.Fits.{leg_fits, fits_zone, legal_legs, bound_g}
use Rattle.numbers.specs.Numbers.{numbers_differ, sequence_exact}
use Rattle.edits.specs.Edits.{without_head, with_tail, appended, removed, with_zone, with_sequence}
use Rattle.tick.specs.Tick.{ticked_aircraft, ticked_zone, ticked}
use Rattle.rules.specs.Kinds.{starts_from, may_approach, base_free, may_merge, head_gone, tail_put, moved, out_of_sequence, fix_taken, entered, made_room}
use Rattle.rules.specs.Kinds.{entered_above, approached, landed, exited, fix_after_miss, missed_approach, held, belongs_to, shown_to, shown_at3000}
use Rattle.rules.specs.Step.{checks_of, effect_of, number_of, number_and_zeros, acceptance, answer_of, step_of}
use Rattle.proof_rounding.specs.OffTheGrid.{OffTheGrid, LimitsNeeded}

pub off_the_grid : OffTheGrid
unfolding
    advanced past_end waited_after leg_after_miss desk_allowed kind_allowed side_allowed number_allowed amount_allowed input_number is_side opposite is_flying_zone zone_of queue_of in_zone order_of
    progress_into entering on_leg arrived arrived_by_miss given_fix leg_of leg_flown_out empty_field how_many how_many_with_fix present_on in_operation in_area per_fix approach_holds counted_for
    potential_of find_in place_of aircraft_at fix_of is_first leader_of leader_zone bound_a bound_b lateral_rule bound_c bound_d numbers_differ sequence_exact final_first is_nobody zone_kept sequence_kept
    bound_e bound_f leg_fits fits_zone legal_legs bound_g within_bounds without_head with_tail appended removed with_zone with_sequence ticked_aircraft ticked_zone ticked side_of starts_from
    may_approach base_free may_merge head_gone tail_put moved out_of_sequence fix_taken entered made_room entered_above approached landed exited fix_after_miss missed_approach held belongs_to shown_to
    shown_at3000 checks_of effect_of number_of number_and_zeros acceptance answer_of step_of neg add sub mul div of_int of_bits round lt le eq
off_the_grid = record { legal = tt; above_2 = tt; below_next = tt; nearest = tt; accepted = refl; within = tt; refused = refl }

pub limits_needed : LimitsNeeded
unfolding add div of_int round
limits_needed = record { in_65ths = refl; unstopped = refl }
