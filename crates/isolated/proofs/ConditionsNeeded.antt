-- Each condition of the claim of two desks is needed, a short session for each, and what a desk does see of the other: by one computation. This desk is desk 1, and the other has 8
-- and 9. Assumes nothing.
use mathlib.Core.Path.{◌≡◌, refl, ap}
use mathlib.Core.Bool.{cond, true≢false}
use mathlib.Core.List.{List, [], ◌∷◌}
use Prim.Native.Nat.{ℕ}
use native.Mathlib.Omega.{arith}
use lib.Dec.{T, eqb}
use Rattle.request.specs.declared.Request.{Request}
use Rattle.field.specs.declared.Field.{Field}
use Rattle.field.specs.Lists.{every, Each}
use Rattle.field.proofs.TestLaws.{each_zone}
use lib.Ieee.{neg, add, sub, mul, div, of_int, round, lt, le, eq}
use Rattle.leg.specs.Progress.{advanced, past_end, waited_after, leg_after_miss}
use Rattle.request.specs.Input.{desk_allowed, kind_allowed, side_allowed, number_allowed, amount_allowed, input_number}
use Rattle.field.specs.Airspace.{is_side, side_of, opposite, is_flying_zone, zone_of, queue_of, in_zone, order_of, leg_of}
use Rattle.field.specs.Airspace.{progress_into, entering, on_leg, arrived, arrived_by_miss, given_fix, leg_flown_out, empty_field}
use Rattle.questions.specs.Counts.{how_many, how_many_with_fix, present_on, in_operation, in_area, per_fix, approach_holds, counted_for, potential_of}
use Rattle.questions.specs.Find.{find_in, place_of, aircraft_at, fix_of, is_first, leader_of, leader_zone}
use Rattle.bounds.specs.Bounds.{bound_a, bound_b, lateral_rule, bound_c, bound_d, final_first, is_nobody, zone_kept, sequence_kept, bound_e, bound_f, within_bounds}
use Rattle.fits.specs.Fits.{leg_fits, fits_zone, legal_legs, bound_g}
use Rattle.numbers.specs.Numbers.{numbers_differ, sequence_exact}
use Rattle.edits.specs.Edits.{without_head, with_tail, appended, removed, with_zone, with_sequence}
use Rattle.tick.specs.Tick.{ticked_aircraft, ticked_zone, ticked}
use Rattle.rules.specs.Kinds.{starts_from, may_approach, base_free, may_merge, head_gone, tail_put, moved, out_of_sequence, fix_taken, entered, made_room}
use Rattle.rules.specs.Kinds.{entered_above, approached, landed, exited, fix_after_miss, missed_approach, held, belongs_to, shown_to, shown_at3000}
use Rattle.rules.specs.Step.{checks_of, effect_of, number_of, number_and_zeros, acceptance, answer_of, step_of}
use Rattle.finder.specs.Finder.{entry_of, is_before, first_of, second_of, index_of, same_entry, same_index, within_bounds_indexed}
use Rattle.rules.specs.declared.Answer.{Answer}
use Rattle.rules.specs.Cases.{ask, all_legs, case_holds}
use Rattle.rules.specs.Play.{field_after}
use Rattle.renaming.specs.Renaming.{Renaming, exchanged}
use Rattle.renaming.proofs.Exchanged.{exchange_apart, exchange_renames}
use Rattle.indexed.specs.Indexed.{with_index, number_indexed, step_indexed}
use Rattle.isolated.specs.Isolated.{KeepsNumber, KeepsAircraft, KeepsOwn}
use Rattle.isolated.specs.Seen.{other_lets, seen_sessions}
use Rattle.isolated.specs.Weaker.{OnlyAccepted, OnlyNamed, NotApart, ZeroToo, EachNeeded}

-- ---- the field and the sessions
abbrev nobody_on : Field
nobody_on = empty_field (all_legs 64)

-- an entry of the other desk: the side and the number
abbrev lets : ℕ → ℕ → Request
lets = other_lets 1

-- 7 enters right
abbrev seven : Request
seven = ask 1 1 7 64

-- the number and the fix of the first answer
abbrev number_first : List (Request × Answer) → ℕ
number_first [] = 0
number_first (p ∷ ps) = p.1.number

abbrev fix_first : List (Request × Answer) → ℕ
fix_first [] = 0
fix_first (p ∷ ps) = p.1.fix

-- 8 and 9 exchanged
abbrev swap : ℕ → ℕ
swap = exchanged 8 9

swap_renames : Renaming swap
swap_renames = exchange_renames 8 9 (λ e. omega arith) (λ e. omega arith)

-- 9 made 8
abbrev merged : ℕ → ℕ
merged n = cond (eqb n 9) 8 n

-- nobody is on the empty field
none_on : (π : ℕ → ℕ) → KeepsAircraft 1 π nobody_on
unfolding empty_field in_zone queue_of zone_of
none_on π z t = each_zone (λ (z : ℕ). Each (KeepsNumber 1 π) (in_zone nobody_on z)) (tt, (tt, (tt, (tt, (tt, (tt, (tt, (tt, (tt, (tt, (tt, (tt, (tt, tt))))))))))))) z t

-- a request of the other desk is not this desk's
not_own : {A : Type 0} → ◌≡◌ {A = ℕ} 2 1 → A
not_own e = absurd (omega arith)

-- all together, so that what is computed is unfolded once
computed : T (every case_holds seen_sessions) × EachNeeded
unfolding
    advanced past_end waited_after leg_after_miss desk_allowed kind_allowed side_allowed number_allowed amount_allowed input_number is_side opposite is_flying_zone zone_of queue_of in_zone order_of
    progress_into entering on_leg arrived arrived_by_miss given_fix leg_of leg_flown_out empty_field how_many how_many_with_fix present_on in_operation in_area per_fix approach_holds counted_for
    potential_of find_in place_of aircraft_at fix_of is_first leader_of leader_zone bound_a bound_b lateral_rule bound_c bound_d numbers_differ sequence_exact final_first is_nobody zone_kept sequence_kept
    bound_e bound_f leg_fits fits_zone legal_legs bound_g within_bounds without_head with_tail appended removed with_zone with_sequence ticked_aircraft ticked_zone ticked side_of starts_from
    may_approach base_free may_merge head_gone tail_put moved out_of_sequence fix_taken entered made_room entered_above approached landed exited fix_after_miss missed_approach held belongs_to shown_to
    shown_at3000 checks_of effect_of number_of number_and_zeros acceptance answer_of step_of entry_of is_before first_of second_of index_of same_entry same_index within_bounds_indexed with_index
    number_indexed step_indexed neg add sub mul div of_int round lt le eq
computed = (
  tt,
  record {
    -- desk 1 names 9, which is not on the field, or is then the other desk's: 12 and 26
    refused_too =
        λ claim.
        let rs : List Request = lets 2 8 ∷ ask 3 0 9 0 ∷ [] in
        let c : OnlyAccepted 1 swap nobody_on rs = record { renaming = swap_renames; accepted = ((λ e. not_own e), ((λ e g. absurd (omega arith)), tt)); aircraft = none_on swap } in
        true≢false (ap (λ (ps : List (Request × Answer)). eqb (number_first ps) 26) (claim nobody_on refl tt 1 rs swap c));
    -- 7 of desk 1 is in the zone and 8 in the sequence: 0 and 10
    aircraft_too =
        λ claim.
        let rs : List Request = ask 12 0 0 64 ∷ [] in
        let c : OnlyNamed 1 (exchanged 7 8) (field_after nobody_on (seven ∷ [])) rs = record { renaming = exchange_renames 7 8 (λ e. omega arith) (λ e. omega arith); requests = ((λ e. refl), tt) } in
        true≢false (ap (λ (ps : List (Request × Answer)). eqb (number_first ps) 10) (claim (field_after nobody_on (seven ∷ [])) refl tt 1 rs (exchanged 7 8) c));
    -- 8 and 9 enter, or 8 alone, and the fix that 7 takes is 2 or 1
    one_for_one =
        λ claim.
        let rs : List Request = lets 2 8 ∷ lets 1 9 ∷ seven ∷ [] in
        let c : NotApart 1 merged nobody_on rs = record { zero = refl; requests = ((λ e. not_own e), ((λ e. not_own e), ((λ e. refl), tt))); aircraft = none_on merged } in
        true≢false (ap (λ (ps : List (Request × Answer)). eqb (fix_first ps) 1) (claim nobody_on refl tt 1 rs merged c));
    -- the places of the empty field have number 0, or 8: 0 and 10
    zero_stays =
        λ claim.
        let rs : List Request = seven ∷ [] in
        let c : ZeroToo 1 (exchanged 0 8) nobody_on rs = record { apart = exchange_apart 0 8; requests = ((λ e. refl), tt); aircraft = none_on (exchanged 0 8) } in
        true≢false (ap (λ (ps : List (Request × Answer)). eqb (number_first ps) 10) (claim nobody_on refl tt 1 rs (exchanged 0 8) c));
    -- 8 enters twice, which is refused, or 9 and 8 enter, and the fix that 7 takes is 1 or 2
    others_refused_too =
        λ claim.
        let rs : List Request = lets 2 8 ∷ lets 1 8 ∷ seven ∷ [] in
        let c : KeepsOwn 1 swap nobody_on rs = record { renaming = swap_renames; requests = ((λ e. not_own e), ((λ e. not_own e), ((λ e. refl), tt))); aircraft = none_on swap } in
        true≢false (ap (λ (ps : List (Request × Answer)). eqb (fix_first ps) 2) (claim nobody_on refl tt 1 rs swap c));
    -- 7 enters behind 8, or behind 9
    leader_hidden =
        λ claim.
        let rs : List Request = lets 2 8 ∷ seven ∷ [] in
        let c : KeepsOwn 1 swap nobody_on rs = record { renaming = swap_renames; requests = ((λ e. not_own e), ((λ e. refl), tt)); aircraft = none_on swap } in
        true≢false (ap (λ (n : ℕ). eqb n 9) (claim nobody_on refl tt 1 rs swap c 7 refl));
    -- 8 is in the index, and 9 on the field: 0 and 10
    index_in_order =
        λ claim.
        let g : Field = field_after nobody_on (lets 2 8 ∷ []) in
        let theirs : Each (KeepsNumber 1 swap) (in_zone g 2) = ((λ e. not_own e), tt) in
        let on : KeepsAircraft 1 swap g = each_zone (λ (z : ℕ). Each (KeepsNumber 1 swap) (in_zone g z)) (tt, (theirs, (tt, (tt, (tt, (tt, (tt, (tt, (tt, (tt, (tt, (tt, (tt, tt))))))))))))) in
        let c : KeepsOwn 1 swap g (seven ∷ []) = record { renaming = swap_renames; requests = ((λ e. refl), tt); aircraft = on } in
        true≢false (ap (λ (ps : List (Request × Answer)). eqb (number_first ps) 10) (claim (with_index g) refl tt 1 (seven ∷ []) swap c));
  },
)

-- Each condition of the claim is needed.
pub each_needed : EachNeeded
each_needed = computed.1

-- What a desk does see of the other.
pub seen_cases : T (every case_holds seen_sessions)
seen_cases = computed.0
