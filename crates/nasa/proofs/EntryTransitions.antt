-- Kinds 1 and 2, each of any field with its places: an accepted one is its transition. Assumes nothing.
use mathlib.Core.Path.{◌≡◌, refl, sym, ap, ◌∙◌, subst}
use mathlib.Core.Logic.{inl, inr}
use mathlib.Core.Bool.{Bool, true, false, not, ◌&&◌, true≢false}
use mathlib.Core.List.{List, [], ◌∷◌, ◌++◌}
use Prim.Native.Nat.{ℕ, ◌≤◌, ◌<◌}
use native.Mathlib.Omega.{arith}
use borrow.Author.Tests.{eqb-true, eqb-false, eq-eqb}
use lib.Dec.{T, eqb, ltb}
use lib.Ieee.Fits.{and_i}
use lib.ListN.{length}
use Rattle.leg.specs.Ticks.{Between}
use Rattle.request.specs.Input.{within, first_refused}
use Rattle.request.specs.declared.Request.{Request}
use Rattle.request.proofs.InputTests as input
use Rattle.request.proofs.ByKind.{kind_known, entry_known}
use Rattle.field.specs.declared.Aircraft as field
use Rattle.field.specs.declared.Field.{Field}
use Rattle.questions.specs.declared.Place.{Place}
use Rattle.field.specs.Airspace.{side_of, at3000, at2000, lateral, missed, everywhere, zone_of, in_zone, arrived}
use Rattle.field.specs.Lists.{is_in, every}
use Rattle.questions.specs.Counts.{how_many, is_empty, counted_for, approach_holds, potential_of}
use Rattle.questions.specs.Find.{place_of, aircraft_at, numbers_in}
use Rattle.bounds.specs.Bounds.{within_bounds}
use Rattle.rules.specs.declared.Answer.{Answer}
use Rattle.rules.specs.Kinds.{place_before, absent_checks, vertical_needs, lateral_needs, moved, entered}
use Rattle.rules.specs.Step.{effect_of, number_of, step_of}
use Rattle.rules.specs.Reason.{has_places}
use Rattle.order.specs.Model.{Side, right_side, left_side, num}
use Rattle.rules.proofs.Checks.{checks_at, effect_at}
use Rattle.rules.proofs.StepLaws.{number_is, field_accepted}
use Rattle.rules.proofs.Refusals.{passes}
use Rattle.field.proofs.TestLaws.{decided, pass, passed, if_true, if_false}
use Rattle.questions.proofs.FindLaws.{at, found_exactly}
use Rattle.laws.proofs.EditLaws.{Shaped}
use Rattle.moves.proofs.EnterAbove.{enters_empty}
use Rattle.descent.specs.Entry.{descend_before, descended_before, TwoSteps}
use Rattle.descent.proofs.Descent.{alone_above, found_above}
use Rattle.descent.proofs.Entry.{in_two_steps, was_20}
use Rattle.nasa.specs.Definitions.{ScaZone, holding3, holding2, lez, maz, SCA, approach_assigned, virtual}
use Rattle.nasa.specs.Rules.{nobody_in, zone_number, vertical_entry, lateral_entry, holding_pattern_descend}
use Rattle.nasa.specs.Stands.{side_named, state_of, side_before, entry_above, Is}
use Rattle.nasa.proofs.States.{Move, moved_shaped, put_here}
use Rattle.nasa.proofs.AcceptedHead.{differing, move, nobody_in_lem, AcceptedOfKind, bounded, shape}
use Rattle.nasa.proofs.DescendFinalTaxi.{leads, each_side, descend_is}
use Rattle.nasa.proofs.StateCounts.{virtual_is, approach_is}
use Rattle.nasa.proofs.Entering.{Newcomer, entered_state}

-- a field with its shape has its places
pub places_of : (f : Field) → Shaped f → T (has_places f)
unfolding has_places
places_of f k =
    let z = eqb (length f.zones) 13 in
    let a = every (λ z. eqb (length (zone_of f z).aircraft) 4) everywhere in
    let n = eqb (length f.sequence.numbers) 4 in
    and_i (z && a) n
    (and_i z a (pass (eq-eqb (length f.zones) 13 k.zones))
    (each (λ z. eqb (length (zone_of f z).aircraft) 4) everywhere (λ z. pass (eq-eqb (length (zone_of f z).aircraft) 4 (k.zone z).places))))
    (pass (eq-eqb (length f.sequence.numbers) 4 k.sequence.places))
  where
    each : (p : ℕ → Bool) (zs : List ℕ) → ((z : ℕ) → T (p z)) → T (every p zs)
    each p [] h = tt
    each p (z ∷ zs) h = and_i (p z) (every p zs) (h z) (each p zs h)

-- the side that an entry asks for
record Entry (r : Request) : Type 0 where
  side : Side
  asks : r.side ≡ num side
  named : side_named r.side ≡ side
  between : Between 1 2 r.side

entry : (f : Field) (r : Request) → r.kind ≤ 2 → number_of f r ≡ 0 → Entry r
entry f r l e =
    let i = (passes f r e).input in
    let known = entry_known r i (kind_known r i).low l in
    let b : Between 1 2 r.side = record { least = known.side_low; most = known.side_high } in
    elim (decided (eqb r.side 1)) [
      | inl q ↦ let n = eqb-true r.side 1 q in record { side = right_side; asks = n; named = ap side_named n; between = b }
      | inr q ↦ let n : r.side ≡ 2 = let m = eqb-false r.side 1 q in omega arith in record { side = left_side; asks = n; named = ap side_named n; between = b }
    ]

absent_from : (f : Field) (n : ℕ) → eqb (place_of f n).zone 0 ≡ true → is_in n (numbers_in f everywhere) ≡ false
absent_from f n e = go (is_in n (numbers_in f everywhere)) (sym e ∙ found_exactly f n)
  where
    go : (b : Bool) → true ≡ not b → b ≡ false
    go true q = absurd (true≢false q)
    go false q = refl

-- those lateral at a side are counted for it
counted : (f : Field) (s : Side) → how_many f (zone_number (lez s)) ≤ potential_of f (num s)
unfolding potential_of counted_for
counted f right_side = omega arith
counted f left_side = omega arith

-- what an accepted entry to zone z has passed
newcomer : {f : Field} {r : Request} {k : ℕ} → AcceptedOfKind f r k → (E : Entry r) (z : ScaZone) → T (within 1 12 (zone_number z)) → eqb (place_of f r.number).zone 0 ≡ true
    → how_many f (zone_number z) < 4 → effect_of f r ≡ entered f r (zone_number z) → Newcomer f r E.side z
newcomer {f} {r} A E z u unused few into =
    record {
      bounds = bounded A;
      shaped = shape A;
      asks = E.asks;
      inside = u;
      absent = absent_from f r.number unused;
      room = few;
      after = pass (sym (ap within_bounds into) ∙ (passes f r A.accepted).after);
    }

-- ---- kind 2
module _ (f : Field) (h : T (has_places f)) (r : Request) (k : r.kind ≡ 2) (e : number_of f r ≡ 0) where
  pub lateral_is : Is f r (lateral_entry (side_named r.side))
  unfolding lateral_entry
  lateral_is =
      let E = entry f r (omega arith) e in
      let s = E.side in
      let zone = each_side (λ s. lateral (num s) ≡ zone_number (lez s)) refl refl s in
      let into : effect_of f r ≡ entered f r (zone_number (lez s)) = effect_at f r k ∙ ap (λ (y : ℕ). entered f r (lateral y)) E.asks ∙ ap (entered f r) zone in
      let checks = absent_checks (place_before f r) ++ lateral_needs f r.side in
      let met = input.passed checks (tt, (tt, tt)) (sym (ap first_refused (checks_at f r k)) ∙ (passes f r e).checks) in
      let none : potential_of f (num s) ≡ 0 = ap (potential_of f) (sym E.asks) ∙ eqb-true (potential_of f r.side) 0 met.1.0 in
      let few : how_many f (zone_number (lez s)) < 4 = let c = counted f s in omega arith in
      let A : AcceptedOfKind f r 2 = record { places = h; kind = k; accepted = e } in
      subst (λ (q : Side). Is f r (lateral_entry q)) (sym E.named)
      (leads f r (lateral_entry s) e (entered_state (newcomer A E (lez s) (each_side (λ s. T (within 1 12 (zone_number (lez s)))) tt tt s) met.0 few into)) into
      (if_true _ [] (ap (λ (m : ℕ). eqb m 0) (virtual_is f (bounded A) s ∙ none))))

-- ---- kind 1, where nobody is at 3000
module _ {f : Field} {r : Request} (A : AcceptedOfKind f r 1) (E : Entry r) (free : is_empty f (zone_number (holding3 E.side)) ≡ true) where
  vertical_is : Is f r (vertical_entry E.side)
  unfolding vertical_entry
  vertical_is =
      let s = E.side in
      let asks = E.asks in
      let own = asks ∙ each_side (λ s. num s ≡ zone_number (holding3 s)) refl refl s in
      let into : effect_of f r ≡ entered f r (zone_number (holding3 s)) = enters_empty f r A.kind (ap (is_empty f) own ∙ free) ∙ ap (entered f r) own in
      let checks = absent_checks (place_before f r) ++ vertical_needs f r.side in
      let met = input.passed checks (tt, (tt, (tt, (tt, (tt, (tt, tt)))))) (sym (ap first_refused (checks_at f r A.kind)) ∙ (passes f r A.accepted).checks) in
      let few : how_many f (zone_number (holding3 s)) < 4 = let n = eqb-true (how_many f (zone_number (holding3 s))) 0 free in omega arith in
      let t = bounded A in
      let p16 : ltb (virtual (state_of f) s) 2 ≡ true = ap (λ (m : ℕ). ltb m 2) (virtual_is f t s ∙ ap (potential_of f) (sym asks)) ∙ met.1.0 in
      let p17 : not (approach_assigned (state_of f) s) ≡ true = ap not (approach_is f t s ∙ ap (approach_holds f) (sym asks)) ∙ met.1.1.0 in
      let at-missed = each_side (λ s. zone_number (maz s) ≡ missed (num s)) refl refl s in
      let at-lateral = each_side (λ s. zone_number (lez s) ≡ lateral (num s)) refl refl s in
      let p18 : nobody_in (state_of f) (maz s) ≡ true = nobody_in_lem f (maz s) ∙ ap (is_empty f) (at-missed ∙ ap missed (sym asks)) ∙ met.1.1.1.0 in
      let p19 : nobody_in (state_of f) (lez s) ≡ true = nobody_in_lem f (lez s) ∙ ap (is_empty f) (at-lateral ∙ ap lateral (sym asks)) ∙ met.1.1.1.1.0 in
      let p20 : nobody_in (state_of f) (holding3 s) ≡ true = nobody_in_lem f (holding3 s) ∙ free in
      let new = newcomer A E (holding3 s) (each_side (λ s. T (within 1 12 (zone_number (holding3 s)))) tt tt s) met.0 few into in
      leads f r (vertical_entry s) A.accepted (entered_state new) into (if_true _ [] (all_five p16 p17 p18 p19 p20))
    where
      all_five : {a b c d g : Bool} → a ≡ true → b ≡ true → c ≡ true → d ≡ true → g ≡ true → (a && b && c && d && g) ≡ true
      all_five {a} {b} {c} {d} {g} p q u v w = rw (p, q, u, v, w)

-- ---- kind 1, where somebody is at 3000: the descend of that one, and then the entry
module _ {f : Field} {r : Request} (A : AcceptedOfKind f r 1) (E : Entry r) (taken : is_empty f (zone_number (holding3 E.side)) ≡ false) where
  abbrev s : Side
  s = E.side

  abbrev up : ℕ
  up = zone_number (holding3 s)

  abbrev down : ℕ
  down = zone_number (holding2 s)

  own : r.side ≡ up
  own = E.asks ∙ each_side (λ s. num s ≡ zone_number (holding3 s)) refl refl s

  occupied : is_empty f (at3000 r.side) ≡ false
  occupied = ap (is_empty f) own ∙ taken

  two : TwoSteps f r
  two = in_two_steps f A.places r (was_20 f r A.kind (number_is f r ∙ A.accepted) occupied)

  -- the descend, and the field after it
  abbrev r₁ : Request
  r₁ = descend_before f r

  abbrev g : Field
  g = descended_before f r

  above : place_before f r₁ ≡ at r.side 1
  above = found_above f (bounded A) r.side E.between occupied

  e₁ : number_of f r₁ ≡ 0
  e₁ = sym (number_is f r₁) ∙ two.descend_accepted

  first_step : holding_pattern_descend s (state_of f) ≡ state_of g ∷ []
  unfolding side_of
  first_step =
      let side : side_before f r₁ ≡ s =
      ap (λ (p : Place). side_named (side_of p.zone)) above
      ∙ ap (λ (y : ℕ). side_named (side_of y)) own ∙ each_side (λ s. side_named (side_of (zone_number (holding3 s))) ≡ s) refl refl s in
      subst (λ (q : Side). Is f r₁ (holding_pattern_descend q)) side (descend_is f A.places r₁ refl e₁)

  lower : g ≡ moved f up down
  lower =
      let below = each_side (λ s. at2000 (zone_number (holding3 s)) ≡ zone_number (holding2 s)) refl refl s in
      field_accepted f r₁ e₁ ∙ effect_at f r₁ refl ∙ ap (λ (p : Place). moved f p.zone (at2000 p.zone)) above
      ∙ ap (λ (y : ℕ). moved f y (at2000 y)) own ∙ ap (moved f up) below

  -- it goes from 3000, where it is alone, to 2000
  alone : in_zone f up ≡ aircraft_at f r.side 1 ∷ []
  alone = ap (in_zone f) (sym own) ∙ alone_above f (bounded A) r.side E.between occupied

  abbrev below : Move f (holding3 s) (holding2 s)
  below = move (bounded A) (record { x = aircraft_at f r.side 1; rest = []; here = alone }) (holding2 s) (each_side (λ s. T (differing (holding3 s) (holding2 s))) tt tt s) (shape A)

  then_accepted : AcceptedOfKind g r 1
  then_accepted = record {
    places = subst (λ (q : Field). T (has_places q)) (sym lower) (places_of (moved f up down) (moved_shaped below));
    kind = A.kind;
    accepted = sym (number_is g r) ∙ ap (λ (a : Answer). a.number) (sym two.same_answer) ∙ number_is f r ∙ A.accepted;
  }

  then_free : is_empty g up ≡ true
  unfolding how_many moved
  then_free = ap (λ (q : Field). is_empty q up) lower ∙ ap (λ (l : List field.Aircraft). eqb (length l) 0) (put_here below (arrived f.legs down (aircraft_at f up 1)))

  second_step : vertical_entry s (state_of g) ≡ state_of (step_of f r).field ∷ []
  second_step = vertical_is then_accepted E then_free ∙ ap (λ (q : Field). state_of q ∷ []) (sym two.same_field)

  both_are : Is f r (entry_above s)
  both_are = if_false _ _ (nobody_in_lem f (holding3 s) ∙ taken) ∙ ap (λ (l : List SCA). elim l [ [] ↦ [] | (next ∷ rest) ↦ vertical_entry s next ]) first_step ∙ second_step

pub entry_is_lem : (f : Field) → T (has_places f) → (r : Request) → r.kind ≡ 1 → number_of f r ≡ 0 → Is f r (entry_above (side_named r.side))
entry_is_lem f h r k e =
    let A : AcceptedOfKind f r 1 = record { places = h; kind = k; accepted = e } in
    let E = entry f r (omega arith) e in
    subst (λ (q : Side). Is f r (entry_above q)) (sym E.named)
    (elim (decided (is_empty f (zone_number (holding3 E.side)))) [
      | inl q ↦ if_true _ _ (nobody_in_lem f (holding3 E.side) ∙ q) ∙ vertical_is A E q
      | inr q ↦ both_are A E q
    ])
