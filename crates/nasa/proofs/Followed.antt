-- Each transition that leads on from the state of a field within the bounds and with the reason: its request is accepted, and leads to the same state. Assumes
-- nothing.
use mathlib.Core.Path.{◌≡◌, refl, sym, ap, ◌∙◌, subst}
use mathlib.Core.Bool.{Bool, true, false, not, ◌&&◌, ◌||◌, or-true}
use mathlib.Core.List.{[], ◌∷◌, ◌++◌}
use Prim.Native.Nat.{ℕ, ◌≤◌}
use native.Mathlib.Omega.{arith}
use lib.Dec.{T, eqb, ltb}
use Rattle.limits.specs.Limits.{fastest, desks}
use Rattle.request.specs.Input.{within, first_refused, input_number}
use Rattle.request.proofs.InputTests as input
use Rattle.request.proofs.ByKind.{Keeps, none_broken}
use Rattle.request.proofs.Rules.{asked_of_entry}
use Rattle.field.specs.declared.Field.{Field}
use Rattle.field.specs.Airspace.{side_of, at2000, lateral, missed, leg_flown_out}
use Rattle.questions.specs.Counts.{is_empty, approach_holds, potential_of}
use Rattle.questions.specs.Find.{place_of, aircraft_at, is_first}
use Rattle.rules.specs.Kinds.{place_before, zone_before, zone_ahead, starts_from, absent_checks, vertical_needs, lateral_needs, may_approach, may_merge, base_free}
use Rattle.rules.specs.Reason.{Sound}
use Rattle.order.specs.Model.{Side, num}
use Rattle.rules.proofs.Checks.{checks_at}
use Rattle.field.proofs.TestLaws.{passed, if_true, if_false}
use Rattle.nasa.specs.Definitions.{ScaZone, holding3, holding2, lez, maz, base, intermediate, final, runway, SCA, approach_assigned, virtual}
use Rattle.nasa.specs.Definitions as model
use Rattle.nasa.specs.Rules.{Transition, nobody_in, zone_number, may_initiate, vertical_entry, lateral_entry, holding_pattern_descend, vertical_approach_initiation}
use Rattle.nasa.specs.Rules.{lateral_approach_initiation, merging, exit, final_segment, landing, taxing, sca_missed_approach, lowest_available_altitude}
use Rattle.nasa.specs.Stands.{side_named, seen, state_of, entry_above}
use Rattle.nasa.specs.Enabled.{vertically, laterally, descends, initiates, initiates_lateral, merges, holds, exits, goes_final}
use Rattle.nasa.specs.Enabled.{lands, taxies, misses, Entrant, entry_request, head_request, may_come, LeadsTo, Enabled}
use Rattle.nasa.proofs.AcceptedHead.{first_of, nobody_in_lem}
use Rattle.nasa.proofs.DescendFinalTaxi.{each_side}
use Rattle.nasa.proofs.ApproachMergeTransitions as asked
use Rattle.nasa.proofs.StateCounts.{virtual_is, approach_is}
use Rattle.nasa.proofs.Enabled.{tested, somebody, accepted_by, follows, zone_is, head, moves_on_lem}

module _ (f : Field) (S : Sound f) where
  abbrev State : SCA
  State = state_of f

  -- ---- descend
  descending : (s : Side) (t : SCA) → holding_pattern_descend s State ≡ t ∷ [] → LeadsTo f (head_request f 3 (holding3 s)) t
  unfolding holding_pattern_descend starts_from side_of
  descending s t q =
      let F = somebody f (holding3 s) _ t q in
      let free = tested (nobody_in State (holding2 s)) _ t (sym (first_of F _) ∙ q) in
      let below = each_side (λ s. at2000 (zone_number (holding3 s)) ≡ zone_number (holding2 s)) refl refl s in
      let met : is_empty f (at2000 (zone_number (holding3 s))) ≡ true = ap (is_empty f) below ∙ sym (nobody_in_lem f (holding2 s)) ∙ free in
      let e =
      moves_on_lem f S F 3 tt (each_side (λ s. starts_from 3 (zone_number (holding3 s)) ≡ true) refl refl s)
      (input.none_refused ((21, is_empty f (at2000 (zone_number (holding3 s)))) ∷ []) (met, tt)) in
      let side = ap (λ (z : ℕ). side_named (side_of z)) (zone_is f S F 3 tt) ∙ each_side (λ s. side_named (side_of (zone_number (holding3 s))) ≡ s) refl refl s in
      follows f S (head_request f 3 (holding3 s)) 3 refl e t (ap (λ (p : Side). holding_pattern_descend p State) side ∙ q)

  -- ---- approach initiation
  from_2000 : (s : Side) (t : SCA) → vertical_approach_initiation s State ≡ t ∷ [] → LeadsTo f (head_request f 4 (holding2 s)) t
  unfolding vertical_approach_initiation starts_from side_of
  from_2000 s t q =
      let F = somebody f (holding2 s) _ t q in
      let r = head_request f 4 (holding2 s) in
      let zone = zone_is f S F 4 tt in
      let zn = zone_number (holding2 s) in
      let u = each_side (λ s. T (within 1 12 (zone_number (holding2 s)))) tt tt s in
      let own : side_of (zone_before f r) ≡ num s = ap side_of zone ∙ each_side (λ s. side_of (zone_number (holding2 s)) ≡ num s) refl refl s in
      let may = may_approach f.sequence r.number (zone_ahead f r) in
      let both : (base_free f (side_of (zone_before f r)) && may) ≡ true =
      sym (asked.initiates (head f S F 4 tt) u s own)
      ∙ tested (may_initiate State s (seen f zn F.x)) _ t (sym (first_of F _) ∙ q) in
      let p22 : (within 5 6 zn || may) ≡ true = ap (λ (b : Bool). within 5 6 zn || b) (input.both_right (base_free f (side_of (zone_before f r))) may both) ∙ or-true (within 5 6 zn) in
      let p23 : (within 5 6 zn || base_free f (side_of zn)) ≡ true =
      ap (λ (b : Bool). within 5 6 zn || b) (ap (λ (z : ℕ). base_free f (side_of z)) (sym zone) ∙ input.both_left (base_free f (side_of (zone_before f r))) may both) ∙ or-true (within 5 6 zn) in
      let e =
      moves_on_lem f S F 4 tt (each_side (λ s. starts_from 4 (zone_number (holding2 s)) ≡ true) refl refl s)
      (input.none_refused ((22, within 5 6 zn || may) ∷ (23, within 5 6 zn || base_free f (side_of zn)) ∷ []) (p22, (p23, tt))) in
      let side = ap (λ (z : ℕ). side_named (side_of z)) zone ∙ each_side (λ s. side_named (side_of (zone_number (holding2 s))) ≡ s) refl refl s in
      let not-lateral : within 5 6 (zone_before f r) ≡ false = ap (within 5 6) zone ∙ each_side (λ s. within 5 6 (zone_number (holding2 s)) ≡ false) refl refl s in
      follows f S r 4 refl e t (ap (λ (T : Transition). T State) (if_false _ _ not-lateral) ∙ ap (λ (p : Side). vertical_approach_initiation p State) side ∙ q)

  from_lateral : (s : Side) (t : SCA) → lateral_approach_initiation s State ≡ t ∷ [] → LeadsTo f (head_request f 4 (lez s)) t
  unfolding lateral_approach_initiation starts_from side_of
  from_lateral s t q =
      let F = somebody f (lez s) _ t q in
      let r = head_request f 4 (lez s) in
      let zone = zone_is f S F 4 tt in
      let zn = zone_number (lez s) in
      let may = may_approach f.sequence r.number (zone_ahead f r) in
      let there : within 5 6 zn ≡ true = each_side (λ s. within 5 6 (zone_number (lez s)) ≡ true) refl refl s in
      let p22 : (within 5 6 zn || may) ≡ true = ap (λ (b : Bool). b || may) there in
      let p23 : (within 5 6 zn || base_free f (side_of zn)) ≡ true = ap (λ (b : Bool). b || base_free f (side_of zn)) there in
      let e =
      moves_on_lem f S F 4 tt (each_side (λ s. starts_from 4 (zone_number (lez s)) ≡ true) refl refl s)
      (input.none_refused ((22, within 5 6 zn || may) ∷ (23, within 5 6 zn || base_free f (side_of zn)) ∷ []) (p22, (p23, tt))) in
      let side = ap (λ (z : ℕ). side_named (side_of z)) zone ∙ each_side (λ s. side_named (side_of (zone_number (lez s))) ≡ s) refl refl s in
      follows f S r 4 refl e t (ap (λ (T : Transition). T State) (if_true _ _ (ap (within 5 6) zone ∙ there)) ∙ ap (λ (p : Side). lateral_approach_initiation p State) side ∙ q)

  -- ---- merge
  merging_on : (s : Side) (t : SCA) → merging s State ≡ t ∷ [] → leg_flown_out (aircraft_at f (zone_number (base s)) 1) ≡ true → LeadsTo f (head_request f 5 (base s)) t
  unfolding merging starts_from side_of
  merging_on s t q flown =
      let F = somebody f (base s) _ t q in
      let r = head_request f 5 (base s) in
      let zone = zone_is f S F 5 tt in
      let zn = zone_number (base s) in
      let u = each_side (λ s. T (within 1 12 (zone_number (base s)))) tt tt s in
      let may = may_merge f.sequence r.number (zone_ahead f r) in
      let met : may ≡ true = sym (asked.merges (head f S F 5 tt) u) ∙ tested _ _ t (sym (first_of F _) ∙ q) in
      let e =
      moves_on_lem f S F 5 tt (each_side (λ s. starts_from 5 (zone_number (base s)) ≡ true) refl refl s)
      (input.none_refused ((15, leg_flown_out (aircraft_at f zn 1)) ∷ (22, may) ∷ []) (flown, (met, tt))) in
      let side = ap (λ (z : ℕ). side_named (side_of z)) zone ∙ each_side (λ s. side_named (side_of (zone_number (base s))) ≡ s) refl refl s in
      follows f S r 5 refl e t (ap (λ (p : Side). merging p State) side ∙ q)

  -- ---- those with no side
  going_final : (t : SCA) → final_segment State ≡ t ∷ [] → leg_flown_out (aircraft_at f 11 1) ≡ true → LeadsTo f (head_request f 6 intermediate) t
  unfolding final_segment starts_from
  going_final t q flown =
      let F = somebody f intermediate _ t q in
      follows f S (head_request f 6 intermediate) 6 refl (moves_on_lem f S F 6 tt refl (input.none_refused ((15, leg_flown_out (aircraft_at f 11 1)) ∷ []) (flown, tt))) t q

  landing_on : (t : SCA) → landing State ≡ t ∷ [] → leg_flown_out (aircraft_at f 12 1) ≡ true → LeadsTo f (head_request f 7 final) t
  unfolding landing starts_from
  landing_on t q flown =
      let F = somebody f final _ t q in
      let free = sym (nobody_in_lem f runway) ∙ tested (nobody_in State runway) _ t (sym (first_of F _) ∙ q) in
      follows f S (head_request f 7 final) 7 refl (moves_on_lem f S F 7 tt refl (input.none_refused ((15, leg_flown_out (aircraft_at f 12 1)) ∷ (24, is_empty f 13) ∷ []) (flown, (free, tt)))) t q

  taxiing : (t : SCA) → taxing State ≡ t ∷ [] → LeadsTo f (head_request f 8 runway) t
  unfolding taxing starts_from
  taxiing t q = let F = somebody f runway _ t q in follows f S (head_request f 8 runway) 8 refl (moves_on_lem f S F 8 tt refl refl) t q

  exiting : (t : SCA) → exit State ≡ t ∷ [] → leg_flown_out (aircraft_at f 11 1) ≡ true → LeadsTo f (head_request f 9 intermediate) t
  unfolding exit starts_from
  exiting t q flown =
      let F = somebody f intermediate _ t q in
      let r = head_request f 9 intermediate in
      let zone = zone_is f S F 9 tt in
      let met : is_first f.sequence r.number ≡ true =
      sym (asked.first_is (head f S F 9 tt) tt)
      ∙ tested (model.first_in_sequence (seen f 11 F.x)) _ t (sym (first_of F _) ∙ q) in
      follows f S r 9 refl (moves_on_lem f S F 9 tt refl (input.none_refused ((15, leg_flown_out (aircraft_at f 11 1)) ∷ (22, is_first f.sequence r.number) ∷ []) (flown, (met, tt)))) t q

  missing : (t : SCA) → sca_missed_approach State ≡ t ∷ [] → LeadsTo f (head_request f 10 final) t
  unfolding sca_missed_approach starts_from
  missing t q = let F = somebody f final _ t q in follows f S (head_request f 10 final) 10 refl (moves_on_lem f S F 10 tt refl refl) t q

  -- ---- lowest available altitude
  holding : (s : Side) (t : SCA) → lowest_available_altitude s State ≡ t ∷ [] → leg_flown_out (aircraft_at f (zone_number (maz s)) 1) ≡ true → LeadsTo f (head_request f 11 (maz s)) t
  unfolding lowest_available_altitude starts_from side_of
  holding s t q flown =
      let F = somebody f (maz s) _ t q in
      let zone = zone_is f S F 11 tt in
      let e =
      moves_on_lem f S F 11 tt (each_side (λ s. starts_from 11 (zone_number (maz s)) ≡ true) refl refl s)
      (input.none_refused ((15, leg_flown_out (aircraft_at f (zone_number (maz s)) 1)) ∷ []) (flown, tt)) in
      let side = ap (λ (z : ℕ). side_named (side_of z)) zone ∙ each_side (λ s. side_named (side_of (zone_number (maz s))) ≡ s) refl refl s in
      follows f S (head_request f 11 (maz s)) 11 refl e t (ap (λ (p : Side). lowest_available_altitude p State) side ∙ q)

  -- ---- entries
  module _ (new : Entrant) (t : T (may_come f new)) where
    abbrev not_0 : Bool
    not_0 = not (eqb new.number 0)

    abbrev unused : Bool
    unused = eqb (place_of f new.number).zone 0

    abbrev fast : Bool
    fast = within 1 fastest new.speed

    abbrev desked : Bool
    desked = within 1 desks new.desk

    three : (not_0 && unused && fast) ≡ true
    three = input.both_left (not_0 && unused && fast) desked (passed {b = not_0 && unused && fast && desked} t)

    two : (not_0 && unused) ≡ true
    two = input.both_left (not_0 && unused) fast three

    is_unused : unused ≡ true
    is_unused = input.both_right not_0 unused two

    entry_allowed : (k : ℕ) → 1 ≤ k → k ≤ 2 → (s : Side) → input_number (entry_request new k s) ≡ 0
    entry_allowed k l h s =
        none_broken (entry_request new k s)
        (subst (Keeps (entry_request new k s)) (sym (asked_of_entry k l h))
        (record {
          desk = input.both_right (not_0 && unused && fast) desked (passed {b = not_0 && unused && fast && desked} t);
          kind = input.within_yes 1 12 k l (omega arith);
          side = each_side (λ s. within 1 2 (num s) ≡ true) refl refl s;
          number = input.both_left not_0 unused two;
          amount = input.both_right (not_0 && unused) fast three;
        }))

  coming_laterally : (s : Side) (t : SCA) → lateral_entry s State ≡ t ∷ [] → (new : Entrant) → T (may_come f new) → LeadsTo f (entry_request new 2 s) t
  unfolding lateral_entry
  coming_laterally s t q new m =
      let r = entry_request new 2 s in
      let none : eqb (potential_of f (num s)) 0 ≡ true = ap (λ (m : ℕ). eqb m 0) (sym (virtual_is f S.bounds s)) ∙ tested (eqb (virtual State s) 0) _ t q in
      let e =
      accepted_by f S r (entry_allowed new m 2 (omega arith) (omega arith) s)
      (ap first_refused (checks_at f r refl) ∙ input.none_refused (absent_checks (place_before f r) ++ lateral_needs f (num s)) (is_unused new m, (none, tt))) in
      follows f S r 2 refl e t (ap (λ (p : Side). lateral_entry p State) (each_side (λ s. side_named (num s) ≡ s) refl refl s) ∙ q)

  coming_vertically : (s : Side) (t : SCA) → vertical_entry s State ≡ t ∷ [] → (new : Entrant) → T (may_come f new) → LeadsTo f (entry_request new 1 s) t
  unfolding vertical_entry
  coming_vertically s t q new m =
      let r = entry_request new 1 s in
      let a = ltb (virtual State s) 2 in
      let b = not (approach_assigned State s) in
      let c = nobody_in State (maz s) in
      let d = nobody_in State (lez s) in
      let g = nobody_in State (holding3 s) in
      let five : (a && b && c && d && g) ≡ true = tested (a && b && c && d && g) _ t q in
      let four = input.both_left (a && b && c && d) g five in
      let three = input.both_left (a && b && c) d four in
      let two = input.both_left (a && b) c three in
      let empty : (z : ScaZone) (n : ℕ) → n ≡ zone_number z → nobody_in State z ≡ true → is_empty f n ≡ true = λ z n p i. ap (is_empty f) p ∙ sym (nobody_in_lem f z) ∙ i in
      let p16 : ltb (potential_of f (num s)) 2 ≡ true = ap (λ (m : ℕ). ltb m 2) (sym (virtual_is f S.bounds s)) ∙ input.both_left a b two in
      let p17 : not (approach_holds f (num s)) ≡ true = ap not (sym (approach_is f S.bounds s)) ∙ input.both_right a b two in
      let p18 = empty (maz s) (missed (num s)) (each_side (λ s. missed (num s) ≡ zone_number (maz s)) refl refl s) (input.both_right (a && b) c three) in
      let p19 = empty (lez s) (lateral (num s)) (each_side (λ s. lateral (num s) ≡ zone_number (lez s)) refl refl s) (input.both_right (a && b && c) d four) in
      let free = input.both_right (a && b && c && d) g five in
      let p20 : (is_empty f (num s) || is_empty f (at2000 (num s))) ≡ true =
      ap (λ (x : Bool). x || is_empty f (at2000 (num s))) (empty (holding3 s) (num s) (each_side (λ s. num s ≡ zone_number (holding3 s)) refl refl s) free) in
      let e =
      accepted_by f S r (entry_allowed new m 1 (omega arith) (omega arith) s)
      (ap first_refused (checks_at f r refl) ∙ input.none_refused (absent_checks (place_before f r) ++ vertical_needs f (num s)) (is_unused new m, (p16, (p17, (p18, (p19, (p20, tt))))))) in
      follows f S r 1 refl e t (ap (λ (p : Side). entry_above p State) (each_side (λ s. side_named (num s) ≡ s) refl refl s) ∙ if_true _ _ free ∙ q)

  -- ---- every transition
  pub enabled : Enabled f
  enabled (vertically s) t q new m = coming_vertically s t q new m
  enabled (laterally s) t q new m = coming_laterally s t q new m
  enabled (descends s) t q new m = descending s t q
  enabled (initiates s) t q new m = from_2000 s t q
  enabled (initiates_lateral s) t q new m = from_lateral s t q
  enabled (merges s) t q new m = merging_on s t q (passed m)
  enabled exits t q new m = exiting t q (passed m)
  enabled goes_final t q new m = going_final t q (passed m)
  enabled lands t q new m = landing_on t q (passed m)
  enabled taxies t q new m = taxiing t q
  enabled misses t q new m = missing t q
  enabled (holds s) t q new m = holding s t q (passed m)
