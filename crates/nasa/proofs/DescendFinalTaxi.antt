-- Kinds 3, 6 and 8, each of any field with its places: an accepted one is its transition. Assumes nothing.
use mathlib.Core.Path.{◌≡◌, refl, sym, ap, ◌∙◌, subst}
use mathlib.Core.Bool.{true}
use mathlib.Core.List.{[], ◌∷◌}
use Prim.Native.Nat.{ℕ}
use native.Mathlib.Omega.{arith}
use lib.Dec.{T}
use Rattle.request.specs.declared.Request.{Request}
use Rattle.field.specs.declared.Field.{Field}
use Rattle.field.specs.Airspace.{side_of, at2000}
use Rattle.questions.specs.Counts.{is_empty}
use Rattle.rules.specs.Kinds.{zone_before, starts_from, moved}
use Rattle.rules.specs.Step.{effect_of, number_of}
use Rattle.rules.specs.Reason.{has_places}
use Rattle.order.specs.Model.{Side, right_side, left_side}
use Rattle.rules.proofs.Checks.{effect_at, first_passes}
use Rattle.rules.proofs.StepLaws.{field_accepted}
use Rattle.field.proofs.TestLaws.{if_true}
use Rattle.line.proofs.CountedOnLine.{not_13}
use Rattle.rules.proofs.HeadOfRequest.{only_zone}
use Rattle.nasa.specs.Definitions.{ScaZone, holding3, holding2, intermediate, final, runway, SCA}
use Rattle.nasa.specs.Rules.{Transition, zone_number, holding_pattern_descend, final_segment, taxing}
use Rattle.nasa.specs.Stands.{side_named, state_of, side_before, Is}
use Rattle.nasa.proofs.States.{gone_state, there, moved_state}
use Rattle.nasa.proofs.AcceptedHead.{differing, both_inside, move, of_side, first_of, nobody_in_lem, AcceptedOfKind, Heads, heading, heads}

-- the step of an accepted request, by its kind's effect
pub leads : (f : Field) (r : Request) (t : Transition) {s : SCA} {g : Field} → number_of f r ≡ 0 → state_of g ≡ s → effect_of f r ≡ g → t (state_of f) ≡ s ∷ [] → Is f r t
leads f r t e i p q = q ∙ ap (λ (x : SCA). x ∷ []) (sym i) ∙ ap (λ (h : Field). state_of h ∷ []) (sym p ∙ sym (field_accepted f r e))

-- ---- by the side
pub each_side {ℓ} : (P : Side → Type ℓ) → P right_side → P left_side → (s : Side) → P s
each_side P p q right_side = p
each_side P p q left_side = q

-- ---- a request's aircraft goes to another zone: the state with it there
pub goes : {f : Field} {r : Request} {z : ScaZone} (a : Heads f r z) (w : ScaZone) → T (differing z w) → state_of (moved f (zone_number z) (zone_number w)) ≡ there a.first w
goes {f} {r} {z} a w d =
    let i = both_inside z w d in
    moved_state (move a.bounds a.first w d a.shaped) (not_13 (zone_number z) i.0 ∙ sym (not_13 (zone_number w) i.1))

-- ---- kind 3
module _ (f : Field) (h : T (has_places f)) (r : Request) (k : r.kind ≡ 3) (e : number_of f r ≡ 0) where
  accepted : AcceptedOfKind f r 3
  accepted = record { places = h; kind = k; accepted = e }

  descend_from_lem : (s : Side) → zone_before f r ≡ zone_number (holding3 s) → Is f r (holding_pattern_descend s)
  unfolding holding_pattern_descend
  descend_from_lem s at =
      let a = heads accepted refl (holding3 s) at in
      let below = each_side (λ s. at2000 (zone_number (holding3 s)) ≡ zone_number (holding2 s)) refl refl s in
      let to = ap at2000 at ∙ below in
      let free : is_empty f (at2000 (zone_before f r)) ≡ true = (first_passes 21 (is_empty f (at2000 (zone_before f r))) [] (omega arith) (heading accepted refl).others).0 in
      leads f r (holding_pattern_descend s) e (goes a (holding2 s) (each_side (λ s. T (differing (holding3 s) (holding2 s))) tt tt s))
      (effect_at f r k ∙ ap (moved f (zone_before f r)) to ∙ ap (λ (y : ℕ). moved f y (zone_number (holding2 s))) at)
      (first_of a.first _ ∙ if_true _ [] (nobody_in_lem f (holding2 s) ∙ ap (is_empty f) (sym to) ∙ free))

  pub descend_is : Is f r (holding_pattern_descend (side_before f r))
  unfolding starts_from side_of
  descend_is =
      let s = of_side holding3 1 refl refl (zone_before f r) (heading accepted refl).starts in
      let own : side_before f r ≡ s.0 = ap (λ (z : ℕ). side_named (side_of z)) s.1 ∙ each_side (λ s. side_named (side_of (zone_number (holding3 s))) ≡ s) refl refl s.0 in
      subst (λ (t : Side). Is f r (holding_pattern_descend t)) (sym own) (descend_from_lem s.0 s.1)

-- ---- kind 6
module _ (f : Field) (h : T (has_places f)) (r : Request) (k : r.kind ≡ 6) (e : number_of f r ≡ 0) where
  pub final_is : Is f r final_segment
  unfolding final_segment starts_from
  final_is =
      let A : AcceptedOfKind f r 6 = record { places = h; kind = k; accepted = e } in
      let a = heads A refl intermediate (only_zone 11 (zone_before f r) (heading A refl).starts) in
      leads f r final_segment e (goes a final tt) (effect_at f r k) (first_of a.first _)

-- ---- kind 8
module _ (f : Field) (h : T (has_places f)) (r : Request) (k : r.kind ≡ 8) (e : number_of f r ≡ 0) where
  pub taxi_is : Is f r taxing
  unfolding taxing starts_from
  taxi_is =
      let A : AcceptedOfKind f r 8 = record { places = h; kind = k; accepted = e } in
      let a = heads A refl runway (only_zone 13 (zone_before f r) (heading A refl).starts) in
      leads f r taxing e (gone_state a.first a.shaped) (effect_at f r k) (first_of a.first _)
