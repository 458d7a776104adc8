-- The index that a step keeps up: where the request leads, by the field and the index before it. Assumes nothing.
use mathlib.Core.Path.{◌≡◌, sym, ap, ◌∙◌, subst⁻¹}
use mathlib.Core.List.{List}
use Prim.Native.Nat.{ℕ, ◌+◌, ◌-◌, ◌≤◌}
use lib.Dec.{T}
use native.Mathlib.Omega.{arith}
use lib.ListN.{get_or}
use mir.Val.{Val}
use denote.Laws.{Is}
use Rattle.leg.specs.Ticks.{Between}
use Rattle.request.specs.Input.{within}
use Rattle.request.specs.declared.Request.{Request}
use Rattle.field.specs.declared.Aircraft.{Aircraft}
use Rattle.field.specs.declared.Zone.{Zone}
use Rattle.field.specs.declared.Field.{Field}
use Rattle.field.specs.Airspace.{nobody, base, opposite, side_of, zone_of, queue_of, in_zone}
use Rattle.field.proofs.FieldKnown.{FieldKnown, field_known}
use Rattle.field.proofs.Shapes.{read, queue_read, zone_read}
use Rattle.field.proofs.TestLaws.{pass, if_true}
use Rattle.questions.specs.Counts.{how_many}
use Rattle.questions.specs.Find.{aircraft_at}
use Rattle.laws.proofs.EditLaws.{Shaped, how_many_is}
use Rattle.laws.proofs.BoundLaws.{shaped_within}
use Rattle.finder.specs.declared.Indexed.{Indexed}
use Rattle.finder.specs.Finder.{index_of, within_bounds_indexed}
use Rattle.finder.specs.contracts.Indexed as indexed
use Rattle.rules.specs.Kinds.{zone_before}
use Rattle.rules.specs.Step.{effect_of, number_of}
use Rattle.kept_up.specs.KeptUp.{leads_to, led_to, kept_up}
use Rattle.kept_up.proofs.Leads.{leads_alike}
use Rattle.rules.proofs.Refusals.{passes}
use Rattle.rules.proofs.HeadOfRequest.{on_final}
use Rattle.kept_up.proofs.FiveWays.{to}
use Rattle.kept_up.proofs.KeptUpOwn.{kept_up_own}
use Rattle.step.proofs.StepsByTests.{asked}
use Rattle.indexed.proofs.StepsIndexed.{field_within, index_own}

-- what is known of a field with an index that is a parameter, within the bounds
pub record IndexedKnown (x : Indexed) : Type 0 where
  pub field : FieldKnown x.field
  pub bounded : T (within_bounds_indexed x)

pub indexed_known : (x : Indexed) {vs : List Val} → Is indexed.the_row x vs → T (within_bounds_indexed x) → IndexedKnown x
indexed_known x p w = record { field = field_known x.field p.1.1.0; bounded = w }

-- what a step has read of a field for where a request leads: the zone of its aircraft and of the leader, how many are in the opposite base, at 3000 and at
-- 2000 of its side, and the fix of the first of final
pub record ReadFor (f : Field) (r : Request) (z ahead across above below fix : ℕ) : Type 0 where
  pub zone_is : z ≡ zone_before f r
  pub ahead_is : ahead ≡ asked f r
  pub across_is : across ≡ how_many f (base (opposite (side_of (zone_before f r))))
  pub above_is : above ≡ how_many f (side_of (zone_before f r))
  pub below_is : below ≡ how_many f (2 + side_of (zone_before f r))
  pub fix_is : 1 ≤ how_many f 12 → fix ≡ (aircraft_at f 12 1).fix

module _ {x : Indexed} (known : IndexedKnown x) where
  abbrev f : Field
  f = x.field

  shaped : Shaped f
  shaped = let k = known.field in shaped_within f (pass (field_within x known.bounded)) k.zones (λ z b. k.places z) k.numbers

  -- The length that is read of a zone is how many are in it, at most four.
  pub length_there : {to : ℕ} (d : Zone) → Between 1 13 to → (get_or f.zones (to - 1) d).length ≡ how_many f to
  length_there {to} d b = ap (λ (q : Zone). q.length) (zone_read f to d known.field.zones b.least b.most) ∙ sym (how_many_is f shaped to)

  pub length_at : {i to : ℕ} (d : Zone) → i ≡ to - 1 → Between 1 13 to → (get_or f.zones i d).length ≡ how_many f to
  length_at d e b = ap (λ (k : ℕ). (get_or f.zones k d).length) e ∙ length_there d b

  pub few_there : {to : ℕ} (d : Zone) → Between 1 13 to → (get_or f.zones (to - 1) d).length ≤ 4
  few_there {to} d b = subst⁻¹ (λ (q : Zone). q.length ≤ 4) (zone_read f to d known.field.zones b.least b.most) (shaped.zone to).fits

  -- The fix that is read of the first of final, where somebody is there.
  pub fix_there : (d : Zone) (a : Aircraft) → 1 ≤ how_many f 12 → (get_or (get_or f.zones 11 d).aircraft 0 a).fix ≡ (aircraft_at f 12 1).fix
  unfolding aircraft_at how_many in_zone
  fix_there d a some =
      ap (λ (q : Zone). (get_or q.aircraft 0 a).fix) (zone_read f 12 d known.field.zones (omega arith) (omega arith))
      ∙ ap (λ (x : Aircraft). x.fix) (sym (queue_read (zone_of f 12) 0 a some) ∙ read (queue_of (zone_of f 12)) 0 a nobody some)

  module _ {r : Request} (e : number_of f r ≡ 0) {z ahead across above below fix : ℕ} (reads : ReadFor f r z ahead across above below fix) where
    -- The zone by what was read is where the request leads.
    led_there : leads_to r.kind r z f.sequence ahead across above below fix ≡ to f r r.kind
    led_there =
        (λ i. leads_to r.kind r (reads.zone_is i) f.sequence ahead (reads.across_is i) (reads.above_is i) (reads.below_is i) fix)
        ∙ leads_alike r.kind r (zone_before f r) f.sequence _ _ _ (λ k. reads.ahead_is ∙ if_true _ _ (ap (within 4 5) k))
        (λ k. reads.fix_is (on_final (passes f r e) k))

    -- The index kept up from the one before is that of the field after.
    pub kept_up_after : {zone there : ℕ} {g : Field} → zone ≡ leads_to r.kind r z f.sequence ahead across above below fix → there ≡ how_many f zone → g ≡ effect_of f r → (r.kind ≡ 12 → ⊥)
        → kept_up z (led_to r.kind r.number zone (there + 1)) x.index ≡ index_of g
    kept_up_after {zone} {there} q h a t =
        let led : zone ≡ to f r r.kind = q ∙ led_there in
        let place : there ≡ how_many f (to f r r.kind) = h ∙ ap (how_many f) led in
        (λ i. kept_up (reads.zone_is i) (led_to r.kind r.number (led i) (place i + 1)) (index_own x known.bounded i)) ∙ kept_up_own f shaped r e t ∙ sym (ap index_of a)
