-- Every state that NASA's transitions reach from the empty one is the state of the field after a list of accepted requests, from every empty field that a list may
-- start from. Assumes nothing.
use mathlib.Core.Path.{◌≡◌, refl, sym, ap, ◌∙◌, subst}
use mathlib.Core.Bool.{true, not, ◌&&◌}
use mathlib.Core.List.{List, [], ◌∷◌, ◌++◌}
use Prim.Native.Nat.{ℕ, zero, suc}
use native.Mathlib.Omega.{arith}
use borrow.Author.Tests.{eq-eqb}
use lib.Dec.{T, eqb}
use lib.Ieee.Fits.{and_i, and_l, and_r}
use lib.ListN.{get_or}
use Rattle.limits.specs.Limits.{longest_tick, most_ticks}
use Rattle.request.specs.Input.{within}
use Rattle.request.specs.declared.Request.{Request}
use Rattle.request.proofs.InputTests as input
use Rattle.field.specs.declared.Aircraft as field
use Rattle.field.specs.declared.Field.{Field}
use Rattle.field.specs.Airspace.{nobody, in_zone, leg_flown_out}
use Rattle.field.specs.Lists.{every}
use Rattle.questions.specs.Find.{place_of, aircraft_at}
use Rattle.tick.specs.Tick.{ticked}
use Rattle.rules.specs.Step.{number_of, step_of}
use Rattle.rules.specs.Start.{empty_start}
use Rattle.rules.specs.Play.{field_after, played, all_accepted}
use Rattle.rules.specs.Reason.{Sound}
use Rattle.demand.specs.Demand.{all_flown_out}
use Rattle.rules.proofs.Checks.{effect_at}
use Rattle.rules.proofs.StepLaws.{number_is, field_accepted}
use Rattle.field.proofs.TestLaws.{pass, passed, every_from}
use Rattle.reason.proofs.Reason.{start_sound, sound_after, reason_kept}
use Rattle.press.specs.Press.{long_tick}
use Rattle.press.proofs.Proposals.{tick_accepted}
use Rattle.emptied.proofs.Arriving.{FlownAfter, all_arrive, after_tick, all_flown}
use Rattle.nasa.specs.Definitions.{ScaZone, maz, base, intermediate, final, SCA}
use Rattle.nasa.specs.Rules.{zone_number, merging, exit, final_segment, landing, lowest_available_altitude}
use Rattle.nasa.specs.Stands.{state_of}
use Rattle.nasa.specs.Enabled.{Name, vertically, laterally, descends, initiates, initiates_lateral, merges, holds, exits, goes_final}
use Rattle.nasa.specs.Enabled.{lands, taxies, misses, transition, Entrant, request_for, may_come, flown_out_in, ready}
use Rattle.nasa.specs.Runs.{Reached, start, onward}
use Rattle.nasa.proofs.DescendFinalTaxi.{each_side}
use Rattle.nasa.proofs.StepsAsTransitions.{ticked_state}
use Rattle.nasa.proofs.States.{First}
use Rattle.nasa.proofs.Enabled.{somebody}
use Rattle.nasa.proofs.Followed.{enabled}
use Rattle.nasa.proofs.ListsAsRuns.{start_state}
use Rattle.nasa_runs.specs.AllRuns.{Comes, AllRuns}
use Rattle.nasa_runs.proofs.Fresh.{new_number, not_found}

-- one list after another
after_both : (f : Field) (xs ys : List Request) → field_after f (xs ++ ys) ≡ field_after (field_after f xs) ys
after_both f [] ys = refl
after_both f (x ∷ xs) ys = after_both (step_of f x).field xs ys

accepted_both : (f : Field) (xs ys : List Request) → T (all_accepted (played f xs)) → T (all_accepted (played (field_after f xs) ys)) → T (all_accepted (played f (xs ++ ys)))
accepted_both f [] ys t u = u
accepted_both f (x ∷ xs) ys t u =
    let g = (step_of f x).field in
    let here = eqb (step_of f x).answer.number 0 in
    and_i here (all_accepted (played g (xs ++ ys))) (and_l here (all_accepted (played g xs)) t) (accepted_both g xs ys (and_r here (all_accepted (played g xs)) t) u)

-- one accepted request, and an accepted list after it
accepted_first : (f : Field) (x : Request) (xs : List Request) → (step_of f x).answer.number ≡ 0 → T (all_accepted (played (step_of f x).field xs)) → T (all_accepted (played f (x ∷ xs)))
accepted_first f x xs e u =
    let n = (step_of f x).answer.number in
    and_i (eqb n 0) (all_accepted (played (step_of f x).field xs)) (pass (eq-eqb n 0 e)) u

-- ---- ticks until everyone has flown its leg out
record Flown (f : Field) : Type 0 where
  requests : List Request
  accepted : T (all_accepted (played f requests))
  same_state : state_of (field_after f requests) ≡ state_of f
  sound : Sound (field_after f requests)
  flown : T (all_flown_out (field_after f requests))

fly : (k : ℕ) (f : Field) → Sound f → FlownAfter k f → Flown f
fly zero f S h = record { requests = []; accepted = tt; same_state = refl; sound = S; flown = all_flown f h }
fly (suc k) f S h =
    let g = (step_of f long_tick).field in
    let e : number_of f long_tick ≡ 0 = tick_accepted f S.bounds in
    let is : g ≡ ticked f longest_tick = field_accepted f long_tick e ∙ effect_at f long_tick {k = 12} refl in
    let F = fly k g (reason_kept f S long_tick).sound (subst (FlownAfter k) (sym is) (after_tick f k h)) in
    record {
      requests = long_tick ∷ F.requests;
      accepted = accepted_first f long_tick F.requests (number_is f long_tick ∙ e) F.accepted;
      same_state = F.same_state ∙ ap state_of is ∙ ticked_state f longest_tick;
      sound = F.sound;
      flown = F.flown;
    }

-- ---- then every transition that leads on has its request ready
module _ (f : Field) (h : T (all_flown_out f)) where
  out : (z : ScaZone) → T (within 7 12 (zone_number z)) → First f z → T (flown_out_in f z)
  unfolding all_flown_out aircraft_at
  out z u F =
      let zn = zone_number z in
      let low = input.within_low 7 12 zn (passed u) in
      let high = input.within_high 7 12 zn (passed u) in
      let all = every_from (λ z. every leg_flown_out (in_zone f z)) 7 6 h zn low (omega arith) in
      let one = and_l (leg_flown_out F.x) (every leg_flown_out F.rest) (subst (λ (l : List field.Aircraft). T (every leg_flown_out l)) F.here all) in
      subst (λ (l : List field.Aircraft). T (leg_flown_out (get_or (nobody ∷ l) 1 nobody))) (sym F.here) one

  is_ready : (new : Entrant) → T (may_come f new) → (name : Name) (s : SCA) → transition name (state_of f) ≡ s ∷ [] → T (ready f new name)
  unfolding merging exit final_segment landing lowest_available_altitude
  is_ready new m (vertically p) s q = m
  is_ready new m (laterally p) s q = m
  is_ready new m (descends p) s q = tt
  is_ready new m (initiates p) s q = tt
  is_ready new m (initiates_lateral p) s q = tt
  is_ready new m (merges p) s q = out (base p) (each_side (λ p. T (within 7 12 (zone_number (base p)))) tt tt p) (somebody f (base p) _ s q)
  is_ready new m exits s q = out intermediate tt (somebody f intermediate _ s q)
  is_ready new m goes_final s q = out intermediate tt (somebody f intermediate _ s q)
  is_ready new m lands s q = out final tt (somebody f final _ s q)
  is_ready new m taxies s q = tt
  is_ready new m misses s q = tt
  is_ready new m (holds p) s q = out (maz p) (each_side (λ p. T (within 7 12 (zone_number (maz p)))) tt tt p) (somebody f (maz p) _ s q)

-- ---- every run
module _ (empty : Field) (begins : T (empty_start empty)) where
  one_more : {s t : SCA} → Comes empty s → (name : Name) → transition name s ≡ t ∷ [] → Comes empty t
  one_more {s} {t} C name q =
      let f = field_after empty C.requests in
      let S : Sound f = sound_after empty (start_sound empty begins) C.requests in
      let F = fly most_ticks f S (all_arrive f S.bounds most_ticks (omega arith)) in
      let g = field_after f F.requests in
      let N = new_number g F.sound.bounds in
      let new : Entrant = record { number = N.number; speed = 1; desk = 1 } in
      let not_0 = not (eqb N.number 0) in
      let unused = eqb (place_of g N.number).zone 0 in
      let both = and_i not_0 unused (pass (input.nonzero_yes N.number N.low)) (pass (not_found g N.number N.absent)) in
      let may : T (may_come g new) = and_i (not_0 && unused && true) true (and_i (not_0 && unused) true both tt) tt in
      let on : transition name (state_of g) ≡ t ∷ [] = ap (transition name) (F.same_state ∙ C.there) ∙ q in
      let E = enabled g F.sound name t on new (is_ready g F.flown new may name t on) in
      let r = request_for g new name in
      record {
        requests = C.requests ++ (F.requests ++ (r ∷ []));
        accepted =
            accepted_both empty C.requests (F.requests ++ (r ∷ [])) C.accepted
            (accepted_both f F.requests (r ∷ []) F.accepted (accepted_first g r [] E.accepted tt));
        there = ap state_of (after_both empty C.requests (F.requests ++ (r ∷ [])) ∙ after_both f F.requests (r ∷ [])) ∙ E.leads_to_is;
      }

  comes : (s : SCA) → Reached s → Comes empty s
  comes s start = record { requests = []; accepted = tt; there = start_state empty begins }
  comes s (onward c name q) = one_more (comes _ c) name q

pub all_runs : AllRuns
all_runs f t s c = comes f t s c
