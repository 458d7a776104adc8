-- The reason is kept by every request, and holds after every list of them from every empty field that a list may start from; so whoever heads final always has room at its
-- side. Assumes nothing.
use mathlib.Core.Path.{◌≡◌, sym, ap, ◌∙◌, subst}
use mathlib.Core.Logic.{inl, inr}
use mathlib.Core.Bool.{Bool, true, false≢true}
use mathlib.Core.List.{List, [], ◌∷◌, ◌++◌}
use Prim.Native.Nat.{ℕ, ◌≤◌}
use lib.Dec.{T, eqb}
use lib.Ieee.Fits.{and_i}
use native.Mathlib.Omega.{arith}
use borrow.Author.Tests.{eq-eqb, eqb-false}
use Rattle.request.specs.Input.{first_refused, input_number}
use Rattle.request.specs.declared.Request.{Request}
use Rattle.request.proofs.InputTests as input
use Rattle.field.specs.declared.Legs.{Legs}
use Rattle.field.specs.declared.Field.{Field}
use Rattle.field.specs.Airspace.{empty_field}
use Rattle.questions.specs.Counts.{in_area}
use Rattle.questions.specs.Find.{place_of, fix_of}
use Rattle.bounds.specs.Bounds.{within_bounds}
use Rattle.fits.specs.Fits.{legal_legs}
use Rattle.order.specs.Model.{right_side}
use Rattle.rules.specs.Kinds.{place_before, starts_from, head_checks, zone_before}
use Rattle.rules.specs.Step.{checks_of, effect_of, number_of, step_of}
use Rattle.rules.specs.Play.{field_after}
use Rattle.rules.specs.Start.{empty_start}
use Rattle.rules.specs.Reason.{Reason, Sound, KeptBy, ReasonHolds, AlwaysRoom, NotReached}
use Rattle.rules.specs.Examples.{crowded}
use Rattle.field.proofs.TestLaws.{failed, passed, pass, decided, if_true, if_false}
use Rattle.line.proofs.Line.{empty_is}
use Rattle.rules.proofs.Checks.{owned, checks_at}
use Rattle.rules.proofs.StepLaws.{number_is}
use Rattle.rules.proofs.SameStep.{same_sym}
use Rattle.rules.proofs.Starts.{start_same, start_legal}
use Rattle.demand.proofs.Demand.{empty_orderly}
use Rattle.rules.proofs.Cases.{bounds_not_enough}
use Rattle.reason.proofs.Room.{reason_gives_room}
use Rattle.reason.proofs.Invariant.{reason_orderly}
use Rattle.reason.proofs.StaysSound.{orderly_sound, orderly_kept}
use Rattle.reason.proofs.SameStep.{sound_same, kept_same}
use Rattle.reason.proofs.Tidied.{tidied, tidied_zone, tidied_same}

-- ---- one request, on any field

-- on any field with its places, within the bounds and with the reason, every request keeps these, and neither 10 nor 25 is answered
pub reason_kept : (f : Field) → Sound f → (r : Request) → KeptBy f r
reason_kept f s r =
    let same = tidied_same f s in
    let o = reason_orderly (tidied f) (sound_same f (tidied f) same s) (tidied_zone f) in
    kept_same f (tidied f) same s r (subst (λ (g : Field). KeptBy g r) (sym o.is) (orderly_kept o.first o.line o.runway o.legs o.orderly r))

-- so the number of a request is neither there
pub neither_10_nor_25 : (f : Field) → Sound f → (r : Request) → (number_of f r ≡ 10 → ⊥) × (number_of f r ≡ 25 → ⊥)
neither_10_nor_25 f s r =
    let k = reason_kept f s r in
    (λ e. eqb-false _ 10 (failed k.not_10) (number_is f r ∙ e), λ e. eqb-false _ 25 (failed k.not_25) (number_is f r ∙ e))

-- ---- after every list

-- the empty field with legal legs has its places, the bounds and the reason, ..
pub empty_sound : (legs : Legs) → T (legal_legs legs) → Sound (empty_field legs)
empty_sound legs l = subst Sound (sym (empty_is legs)) (orderly_sound right_side [] [] legs (empty_orderly legs l))

-- .. and so has every empty field that a list may start from, ..
pub start_sound : (f : Field) → T (empty_start f) → Sound f
start_sound f t = sound_same (empty_field f.legs) f (same_sym (start_same f t)) (empty_sound f.legs (start_legal f t))

-- .. and every field after a list from one that has them
pub sound_after : (f : Field) → Sound f → (rs : List Request) → Sound (field_after f rs)
sound_after f s [] = s
sound_after f s (r ∷ rs) = sound_after (step_of f r).field (reason_kept f s r).sound rs

-- the reason holds after every list of requests
pub reason_holds : ReasonHolds
reason_holds f t rs = (sound_after f (start_sound f t) rs).reason

-- whoever heads final after any list finds at most one aircraft in the area of its fix
pub always_room : AlwaysRoom
always_room f t rs = let s = sound_after f (start_sound f t) rs in reason_gives_room (field_after f rs) s.reason s.bounds

-- the field on which 25 refuses a miss is reached by no list
pub crowded_not_reached : NotReached crowded
crowded_not_reached f t rs e = false≢true (sym bounds_not_enough.no_room ∙ passed (subst Reason e (reason_holds f t rs)).room_to_miss_is)

-- ---- a missed approach that is accepted

-- what the acceptance of a miss tells of the field
record Missing (f : Field) (r : Request) : Type 0 where
  bounds : within_bounds f ≡ true
  starts : starts_from 10 (zone_before f r) ≡ true
  heads : eqb (place_of f r.number).place 1 ≡ true

missing : (f : Field) (r : Request) → r.kind ≡ 10 → number_of f r ≡ 0 → Missing f r
unfolding number_of
missing f r k e =
    let checks = (10, within_bounds f) ∷ checks_of f r ++ ((25, within_bounds (effect_of f r)) ∷ []) in
    let p : first_refused checks ≡ 0 = elim (decided (eqb (input_number r) 0)) [
      | inl b ↦ sym (if_true (first_refused checks) (input_number r) b) ∙ e
      | inr b ↦ absurd (eqb-false (input_number r) 0 b (sym (if_false (first_refused checks) (input_number r) b) ∙ e))
    ] in
    let q : first_refused ((10, within_bounds f) ∷ head_checks 10 (place_before f r) (owned f r) ++ ((25, within_bounds (effect_of f r)) ∷ [])) ≡ 0 =
    ap (λ (l : List (ℕ × Bool)). first_refused ((10, within_bounds f) ∷ l ++ ((25, within_bounds (effect_of f r)) ∷ []))) (sym (checks_at f r k)) ∙ p in
    let known = input.passed ((10, within_bounds f) ∷ head_checks 10 (place_before f r) (owned f r) ++ ((25, within_bounds (effect_of f r)) ∷ [])) (tt, (tt, (tt, (tt, (tt, (tt, tt)))))) q in
    record { bounds = known.0; starts = known.1.1.1.0; heads = known.1.1.1.1.0 }

starts_final : (z : ℕ) → starts_from 10 z ≡ true → eqb z 12 ≡ true
unfolding starts_from
starts_final z e = let low = input.within_low 12 12 z e in let high = input.within_high 12 12 z e in eq-eqb z 12 (omega arith)

-- when an aircraft on final misses, its side's area holds at most one aircraft: of any field that has the reason
pub miss_finds_room : (f : Field) → Reason f → (r : Request) → r.kind ≡ 10 → (step_of f r).answer.number ≡ 0 → in_area f (fix_of f r.number) ≤ 1
miss_finds_room f c r k e =
    let m = missing f r k (sym (number_is f r) ∙ e) in
    reason_gives_room f c (pass m.bounds) r.number
    (and_i (eqb (place_of f r.number).zone 12) (eqb (place_of f r.number).place 1) (pass (starts_final (zone_before f r) m.starts)) (pass m.heads))
