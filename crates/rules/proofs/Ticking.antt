-- An accepted tick, on any field: each who flies is given its own advance, and everyone else nothing. Assumes nothing.
use mathlib.Core.Path.{◌≡◌, refl, sym, ap, ◌∙◌, subst⁻¹}
use mathlib.Core.Bool.{Bool, true, false, cond, ◌&&◌}
use mathlib.Core.List.{List, [], ◌∷◌, map}
use Prim.Native.Nat.{ℕ, zero, suc, ◌≤◌}
use native.Mathlib.Omega.{arith}
use lib.Dec.{T, leb, ltb, eqb, leb→le}
use lib.Ieee.{Float, eq, of_int}
use lib.Ieee.Fits.{and_l, and_r}
use lib.ListN.{get_or, drop, get_or-map}
use borrow.Author.Tests.{ltb-false}
use Rattle.leg.specs.Progress.{whole, progress_after, waited_with}
use Rattle.leg.specs.declared.Progress.{Progress}
use Rattle.leg.specs.declared.Progress.TheVariants.{Waiting, Flying}
use Rattle.request.specs.declared.Request.{Request}
use Rattle.field.specs.declared.Aircraft.{Aircraft}
use Rattle.field.specs.declared.Zone.{Zone}
use Rattle.field.specs.declared.Field.{Field}
use Rattle.field.specs.Airspace.{is_flying_zone, nobody, zone_of}
use Rattle.field.specs.Lists.{every}
use Rattle.field.proofs.TestLaws.{pass, passed, every_from}
use Rattle.bounds.specs.Bounds.{is_nobody, zone_kept, within_bounds}
use Rattle.fits.specs.Fits.{is_waiting}
use Rattle.tick.specs.Tick.{ticked_aircraft, ticked}
use Rattle.laws.proofs.BoundLaws.{within_e}
use Rattle.laws.proofs.TickLaws.{ticked_at, places_ticked, length_kept, zone_ticked}
use Rattle.rules.specs.Step.{effect_for, effect_of, step_of}
use Rattle.rules.specs.Kinds.{zone_before, zone_ahead}
use Rattle.rules.specs.Ticking.{at_place, is_flying, OwnAdvance}
use Rattle.rules.proofs.StepLaws.{number_is, field_accepted}
use Rattle.rules.proofs.Refusals.{accepted_from_within}

-- who waits is left as it is
waits_on : (amount : ℕ) (a : Aircraft) → T (is_waiting a.progress) → ticked_aircraft amount a ≡ a
unfolding ticked_aircraft
waits_on amount a t = by a.progress t
  where
    with_progress : Progress → Float → Aircraft
    with_progress q waited = record { number = a.number; fix = a.fix; speed = a.speed; progress = q; waited = waited; leg = a.leg; desk = a.desk }

    by : (p : Progress) → T (is_waiting p) → with_progress (progress_after p a.speed amount a.leg) (waited_with p a.waited a.speed amount a.leg) ≡ with_progress p a.waited
    by Waiting t = refl
    by (Flying miles) t = absurd t

-- a place as the empty field has it is nobody
nobody_there : T (is_nobody nobody)
unfolding is_nobody eq of_int
nobody_there = tt

-- so nobody stays nobody
nobody_ticked : (amount z : ℕ) → ticked_at amount z nobody ≡ nobody
nobody_ticked amount z = by (is_flying_zone z)
  where
    by : (b : Bool) → cond b (ticked_aircraft amount nobody) nobody ≡ nobody
    by true = waits_on amount nobody tt
    by false = refl

-- a place past a length passes what all of them pass
past_place : (p : Aircraft → Bool) (l : List Aircraft) (n place : ℕ) → T (p nobody) → T (every p (drop n l)) → n ≤ place → T (p (get_or l place nobody))
past_place p [] n place z t h = z
past_place p (a ∷ l) zero zero z t h = and_l (p a) (every p l) t
past_place p (a ∷ l) zero (suc place) z t h = past_place p l zero place z (and_r (p a) (every p l) t) (omega arith)
past_place p (a ∷ l) (suc n) zero z t h = absurd (omega arith)
past_place p (a ∷ l) (suc n) (suc place) z t h = past_place p l n place z t (omega arith)

module _ (f : Field) (amount : ℕ) where
  -- a place after the tick
  place_ticked : (z place : ℕ) → at_place (ticked f amount) z place ≡ ticked_at amount z (at_place f z place)
  place_ticked z place =
      let t = ticked_at amount z in
      let l = (zone_of f z).aircraft in
      ap (λ (q : Zone). get_or q.aircraft place nobody) (zone_ticked f amount z)
      ∙ ap (λ (places : List Aircraft). get_or places place nobody) (places_ticked amount z (zone_of f z))
      ∙ sym (ap (get_or (map t l) place) (nobody_ticked amount z))
      ∙ get_or-map t l place nobody

  at_ticked : (z : ℕ) (a : Aircraft) {b : Bool} → is_flying_zone z ≡ b → ticked_at amount z a ≡ cond b (ticked_aircraft amount a) a
  at_ticked z a e = ap (λ (b : Bool). cond b (ticked_aircraft amount a) a) e

  module _ (w : T (within_bounds f)) where
    -- past a length everyone waits
    past_waits : (z place : ℕ) → is_flying_zone z ≡ true → (zone_of f z).length ≤ place → T (is_waiting (at_place f z place).progress)
    unfolding is_nobody zone_kept is_flying_zone
    past_waits z place e h =
        let b = pass e in
        let a = at_place f z place in
        let q = zone_of f z in
        let low = leb→le 7 z (and_l (leb 7 z) (leb z 12) b) in
        let high = leb→le z 12 (and_r (leb 7 z) (leb z 12) b) in
        let kept = every_from (λ y. zone_kept (zone_of f y)) 1 13 (within_e f w).zones_kept z (omega arith) (omega arith) in
        let there = past_place is_nobody q.aircraft q.length place nobody_there (and_r (leb q.length 4) (every is_nobody (drop q.length q.aircraft)) kept) h in
        and_r (eqb a.number 0 && eqb a.fix 0 && eqb a.speed 0 && eqb a.desk 0 && eq a.waited (whole 0) && eq a.leg (whole 0)) (is_waiting a.progress) there

    others_kept : (z place : ℕ) → is_flying f z place ≡ false → at_place (ticked f amount) z place ≡ at_place f z place
    others_kept z place e = place_ticked z place ∙ by (is_flying_zone z) refl
      where
        by : (b : Bool) → is_flying_zone z ≡ b → ticked_at amount z (at_place f z place) ≡ at_place f z place
        by false g = at_ticked z (at_place f z place) g
        by true g =
            let past = ltb-false place (zone_of f z).length (sym (ap (λ (b : Bool). b && ltb place (zone_of f z).length) g) ∙ e) in
            at_ticked z (at_place f z place) g ∙ waits_on amount (at_place f z place) (past_waits z place g past)

    own_advances : OwnAdvance f amount (ticked f amount)
    unfolding ticked
    own_advances =
        record {
          flying = λ z place t h. place_ticked z place ∙ at_ticked z (at_place f z place) (passed t);
          others = others_kept;
          lengths = λ z. ap (λ (q : Zone). q.length) (zone_ticked f amount z) ∙ length_kept amount z (zone_of f z);
          sequence = refl;
          next = refl;
          legs = refl;
        }

-- what a tick does, by its kind
pub tick_effect : (f : Field) (r : Request) → r.kind ≡ 12 → effect_of f r ≡ ticked f r.amount
unfolding effect_of
tick_effect f r e = ap (λ (kind : ℕ). effect_for kind f r (zone_before f r) (zone_ahead f r)) e

pub own_advance : (f : Field) (r : Request) → r.kind ≡ 12 → (step_of f r).answer.number ≡ 0 → OwnAdvance f r.amount (step_of f r).field
own_advance f r e n =
    subst⁻¹ (OwnAdvance f r.amount) (field_accepted f r (sym (number_is f r) ∙ n) ∙ tick_effect f r e) (own_advances f r.amount (accepted_from_within f r n))
