-- Each part that kept fields have in the claim of two desks with steps back is needed, a short list for each: by one computation. This desk is desk 1. Assumes nothing.
use mathlib.Core.Path.{◌≡◌, refl, sym, ap}
use mathlib.Core.Bool.{Bool, true, false, not, ◌||◌, true≢false}
use mathlib.Core.List.{List, [], ◌∷◌}
use Prim.Native.Nat.{ℕ}
use native.Mathlib.Omega.{arith}
use lib.Dec.{T, eqb, leb, leb→le, eqb→eq}
use lib.Ieee.Fits.{and_l, and_r}
use borrow.Author.Tests.{eq-eqb}
use Rattle.field.specs.declared.Aircraft.{Aircraft}
use Rattle.field.specs.declared.Field.{Field}
use Rattle.field.specs.Lists.{every, Each}
use Rattle.field.proofs.NumberLists.{every_listed, zone_listed}
use lib.Ieee.{neg, add, sub, mul, div, of_int, round, lt, le, eq}
use Rattle.leg.specs.Progress.{advanced, past_end, waited_after, leg_after_miss}
use Rattle.request.specs.Input.{desk_allowed, kind_allowed, side_allowed, number_allowed, amount_allowed, input_number}
use Rattle.field.specs.Airspace.{everywhere, is_side, side_of, opposite, is_flying_zone, zone_of, queue_of, in_zone, order_of}
use Rattle.field.specs.Airspace.{leg_of, progress_into, entering, on_leg, arrived, arrived_by_miss, given_fix, leg_flown_out, empty_field}
use Rattle.questions.specs.Counts.{how_many, how_many_with_fix, present_on, in_operation, in_area, per_fix, approach_holds, counted_for, potential_of}
use Rattle.questions.specs.Find.{find_in, place_of, aircraft_at, fix_of, is_first, leader_of, leader_zone}
use Rattle.bounds.specs.Bounds.{bound_a, bound_b, lateral_rule, bound_c, bound_d, final_first, is_nobody, zone_kept, sequence_kept, bound_e, bound_f, within_bounds}
use Rattle.fits.specs.Fits.{leg_fits, fits_zone, legal_legs, bound_g}
use Rattle.numbers.specs.Numbers.{numbers_differ, sequence_exact}
use Rattle.edits.specs.Edits.{without_head, with_tail, appended, removed, with_zone, with_sequence}
use Rattle.tick.specs.Tick.{ticked_aircraft, ticked_zone, ticked}
use Rattle.rules.specs.Kinds.{starts_from, may_approach, base_free, may_merge, head_gone, tail_put, moved, out_of_sequence, fix_taken, entered, made_room}
use Rattle.rules.specs.Kinds.{entered_above, approached, landed, exited, fix_after_miss, missed_approach, held, belongs_to, shown_to, shown_at3000}
use Rattle.rules.specs.Step.{checks_of, effect_of, number_of, number_and_zeros, acceptance, answer_of, step_of}
use Rattle.finder.specs.Finder.{entry_of, is_before, first_of, second_of, index_of, same_entry, same_index, within_bounds_indexed}
use Rattle.finder.specs.declared.Indexed.{Indexed}
use Rattle.rules.specs.declared.Answer.{Answer}
use Rattle.rules.specs.Cases.{ask, all_legs}
use Rattle.renaming.specs.Renaming.{exchanged}
use Rattle.renaming.proofs.Exchanged.{exchange_renames}
use Rattle.indexed.specs.Indexed.{with_index}
use Rattle.isolated.specs.Isolated.{KeepsNumber, KeepsAircraft}
use Rattle.isolated.specs.Seen.{other_lets}
use Rattle.history.specs.declared.History.{History}
use Rattle.history.specs.History.{counted, start_of, start_with, kept_within_bounds, within_bounds_history, keeping, number_history, step_history, number_back, field_given_back, step_back}
use Rattle.taken_back.specs.Calls.{Call, request, back, after_calls}
use Rattle.isolated_back.specs.IsolatedBack.{KeepsOwnBack, HistoryShaped}
use Rattle.isolated_back.specs.Weaker.{OnlyOnField, KeptNeeded}

-- ---- which numbers stay, tested
abbrev stays_of : (ℕ → ℕ) → Aircraft → Bool
stays_of π a = not (eqb a.desk 1) || eqb (π a.number) a.number

abbrev stays_on : (ℕ → ℕ) → Field → Bool
stays_on π f = every (λ z. every (stays_of π) (in_zone f z)) everywhere

one_stays : (π : ℕ → ℕ) (a : Aircraft) → T (stays_of π a) → KeepsNumber 1 π a
one_stays π a t e = go (eqb a.desk 1) (eq-eqb a.desk 1 e) t
  where
    go : (b : Bool) → b ≡ true → T (not b || eqb (π a.number) a.number) → π a.number ≡ a.number
    go true e t = eqb→eq (π a.number) a.number t
    go false e t = absurd (true≢false (sym e))

those_stay : (π : ℕ → ℕ) (l : List Aircraft) → T (every (stays_of π) l) → Each (KeepsNumber 1 π) l
those_stay π [] t = tt
those_stay π (a ∷ l) t = (one_stays π a (and_l (stays_of π a) (every (stays_of π) l) t), those_stay π l (and_r (stays_of π a) (every (stays_of π) l) t))

stay_on : (π : ℕ → ℕ) (f : Field) → T (stays_on π f) → KeepsAircraft 1 π f
stay_on π f t z w =
    those_stay π (in_zone f z) (every_listed (λ z. every (stays_of π) (in_zone f z)) everywhere z t
    (zone_listed z (record { least = leb→le 1 z (and_l (leb 1 z) (leb z 13) w); most = leb→le z 13 (and_r (leb 1 z) (leb z 13) w) })))

stay_on_each : (π : ℕ → ℕ) (l : List Indexed) → T (every (λ (x : Indexed). stays_on π x.field) l) → Each (λ (x : Indexed). KeepsAircraft 1 π x.field) l
stay_on_each π [] t = tt
stay_on_each π (x ∷ l) t = (
  stay_on π x.field (and_l (stays_on π x.field) (every (λ (x : Indexed). stays_on π x.field) l) t),
  stay_on_each π l (and_r (stays_on π x.field) (every (λ (x : Indexed). stays_on π x.field) l) t),
)

-- ---- the lists
abbrev after : List Call → History
after cs = after_calls (start_of (all_legs 64)) cs

-- a minute, and an entry of the other desk: the side and the number
abbrev minute : Call
minute = request (ask 12 0 0 64)

abbrev lets : ℕ → ℕ → Call
lets side number = request (other_lets 1 side number)

-- a request of this desk for 7
abbrev seven : ℕ → Call
seven kind = request (ask kind 0 7 0)

-- 5 of the other desk enters, and a minute passes: it stands on the last kept field too
abbrev theirs : List Call
theirs = lets 1 5 ∷ minute ∷ []

-- 7 enters beside 5
abbrev both : List Call
both = lets 1 5 ∷ request (ask 1 2 7 64) ∷ minute ∷ []

-- 7 enters, flies to the end of the intermediate leg and exits: it is on kept fields alone
abbrev in_and_out : List Call
in_and_out = request (ask 2 1 7 64) ∷ seven 4 ∷ minute ∷ seven 5 ∷ minute ∷ seven 9 ∷ []

-- a step back, an entry of the other's 5 and one of this desk's 8
abbrev back_and_in : List Call
back_and_in = back 1 ∷ lets 2 5 ∷ request (ask 1 2 8 64) ∷ []

-- the number of the first answer, and the fix of the second
abbrev number_first : List (Call × Answer) → ℕ
number_first [] = 0
number_first (p ∷ ps) = p.1.number

abbrev fix_first : List (Call × Answer) → ℕ
fix_first [] = 0
fix_first (p ∷ ps) = p.1.fix

abbrev fix_second : List (Call × Answer) → ℕ
fix_second [] = 0
fix_second (p ∷ ps) = fix_first ps

-- a request of the other desk is not this desk's
not_own : {A : Type 0} → ◌≡◌ {A = ℕ} 2 1 → A
not_own e = absurd (omega arith)

-- all together, so that what is computed is unfolded once
computed : KeptNeeded
unfolding
    advanced past_end waited_after leg_after_miss desk_allowed kind_allowed side_allowed number_allowed amount_allowed input_number is_side opposite is_flying_zone zone_of queue_of in_zone order_of
    progress_into entering on_leg arrived arrived_by_miss given_fix leg_of leg_flown_out empty_field how_many how_many_with_fix present_on in_operation in_area per_fix approach_holds counted_for
    potential_of find_in place_of aircraft_at fix_of is_first leader_of leader_zone bound_a bound_b lateral_rule bound_c bound_d numbers_differ sequence_exact final_first is_nobody zone_kept sequence_kept
    bound_e bound_f leg_fits fits_zone legal_legs bound_g within_bounds without_head with_tail appended removed with_zone with_sequence ticked_aircraft ticked_zone ticked side_of starts_from
    may_approach base_free may_merge head_gone tail_put moved out_of_sequence fix_taken entered made_room entered_above approached landed exited fix_after_miss missed_approach held belongs_to shown_to
    shown_at3000 checks_of effect_of number_of number_and_zeros acceptance answer_of step_of entry_of is_before first_of second_of index_of same_entry same_index within_bounds_indexed with_index start_of
    start_with kept_within_bounds within_bounds_history keeping number_history step_history number_back field_given_back step_back neg add sub mul div of_int round lt le eq
computed = record {
  -- back is 5, or 6 where it was renamed: the other's entry is refused 11 or accepted, and the fix that 8 takes is 2 or 1
  kept_too =
      λ claim.
      let π = exchanged 5 6 in
      let h : History = after theirs in
      let shaped : HistoryShaped h = record { places = refl; zones = refl; kept_zones = (refl, (refl, tt)) } in
      let k : KeepsOwnBack 1 π h back_and_in = record {
        renaming = exchange_renames 5 6 (λ e. omega arith) (λ e. omega arith);
        calls = (tt, ((λ e. not_own e), ((λ e. refl), tt)));
        aircraft = stay_on π h.now.field tt;
        kept = stay_on_each π (counted h) tt;
      } in
      true≢false (ap (λ (ps : List (Call × Answer)). eqb (fix_second ps) 1) (claim h shaped tt 1 back_and_in π k));
  -- 9 stands before 7 in the index of a kept field: 0 and 10
  kept_in_order =
      λ claim.
      let π = exchanged 5 9 in
      let h : History = after both in
      let shaped : HistoryShaped h = record { places = refl; zones = refl; kept_zones = (refl, (refl, (refl, tt))) } in
      let k : KeepsOwnBack 1 π h (back 1 ∷ []) = record {
        renaming = exchange_renames 5 9 (λ e. omega arith) (λ e. omega arith);
        calls = (tt, tt);
        aircraft = stay_on π h.now.field tt;
        kept = stay_on_each π (counted h) tt;
      } in
      true≢false (ap (λ (ps : List (Call × Answer)). eqb (number_first ps) 10) (claim h shaped tt 1 (back 1 ∷ []) π k));
  -- 7 is this desk's on kept fields, and 5 stands in their sequence: 0 and 10
  kept_own_too =
      λ claim.
      let π = exchanged 5 7 in
      let h : History = after in_and_out in
      let shaped : HistoryShaped h = record { places = refl; zones = refl; kept_zones = (refl, (refl, (refl, (refl, (refl, (refl, tt)))))) } in
      let k : OnlyOnField 1 π h (back 1 ∷ []) = record {
        renaming = exchange_renames 5 7 (λ e. omega arith) (λ e. omega arith);
        calls = (tt, tt);
        aircraft = stay_on π h.now.field tt;
      } in
      true≢false (ap (λ (ps : List (Call × Answer)). eqb (number_first ps) 10) (claim h shaped tt 1 (back 1 ∷ []) π k));
}

-- Each part that kept fields have in the claim is needed.
pub kept_needed : KeptNeeded
kept_needed = computed
