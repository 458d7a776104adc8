-- Two fields with the same queues: where the one has the reason, the bounds and its places, the other has them, and what a request keeps of the one it keeps of
-- the other. Assumes nothing.
use mathlib.Core.Path.{◌≡◌, sym, ap, ◌∙◌, subst, fun_ext}
use mathlib.Core.Logic.{inl, inr}
use mathlib.Core.Bool.{Bool, not, ◌&&◌}
use mathlib.Core.List.{List, [], map}
use Prim.Native.Nat.{ℕ}
use lib.Dec.{T, eqb}
use lib.ListN.{length}
use lib.Ieee.Fits.{and_i, and_r}
use borrow.Author.Tests.{eqb-true, eqb-false, eq-eqb}
use Rattle.request.specs.declared.Request.{Request}
use Rattle.field.specs.declared.Aircraft.{Aircraft}
use Rattle.field.specs.declared.Sequence.{Sequence}
use Rattle.field.specs.declared.Field.{Field}
use Rattle.field.specs.Airspace.{right, left, everywhere, zone_of, in_zone, order_of}
use Rattle.field.specs.Lists.{every}
use Rattle.rules.specs.Step.{effect_of, number_of, step_of}
use Rattle.rules.specs.Reason.{Listed, listed, sequence_listed, those, is_in_zone, is_in_area, never_falls, each_among, from_landing, height_in}
use Rattle.rules.specs.Reason.{has_room, lateral_free, approach_order, area_order, room_to_miss, lateral_order, Reason, has_places, Sound, KeptBy}
use Rattle.field.proofs.TestLaws.{pass, decided}
use Rattle.line.proofs.Orderly.{every_zone}
use Rattle.laws.proofs.SameQueues.{Same, queues_same, within_same}
use Rattle.rules.proofs.SameStep.{same_sym, place_same, fix_same, effect_same, number_same}
use Rattle.rules.proofs.StepLaws.{number_is, field_accepted, field_refused}

-- ---- places, bounds and reason of the one are those of the other
reason_same : {f g : Field} → Same f g → Reason f → Reason g
unfolding sequence_listed approach_order area_order room_to_miss lateral_order
reason_same {f} {g} s c =
    record {
      approach_order_is = subst T (ap (λ (l : List Listed). never_falls (map (λ a. from_landing a.zone) l)) same) c.approach_order_is;
      area_order_is = subst T (ap (λ (l : List Listed). ordered l right && ordered l left) same) c.area_order_is;
      room_to_miss_is = subst T (ap (λ (l : List Listed). each_among has_room [] l) same) c.room_to_miss_is;
      lateral_entry_is = subst T (ap (λ (l : List Listed). each_among lateral_free [] l) same) c.lateral_entry_is;
      queues_agree =
          λ z t.
          ap (λ (h : ℕ → List Aircraft). map (λ (a : Aircraft). a.number) (h z)) (sym (queues_same f g s))
          ∙ c.queues_agree z t ∙ ap (λ (l : List Listed). map (λ (a : Listed). a.number) (those (is_in_zone z) l)) same;
    }
  where
    ordered : List Listed → ℕ → Bool
    ordered l side = never_falls (map (λ a. height_in side a.zone) (those (is_in_area side) l))

    one : (n : ℕ) → listed f n ≡ listed g n
    one n = λ i. record { number = n; zone = (place_same s n i).zone; fix = fix_same s n i }

    same : map (listed f) (order_of f.sequence) ≡ map (listed g) (order_of g.sequence)
    same = ap (λ (h : ℕ → Listed). map h (order_of f.sequence)) (fun_ext one) ∙ ap (λ (q : Sequence). map (listed g) (order_of q)) s.sequence

pub sound_same : (f g : Field) → Same f g → Sound f → Sound g
unfolding has_places
sound_same f g s k = record { places = places; bounds = within_same f g s k.bounds; reason = reason_same s k.reason }
  where
    zones : (f : Field) → Bool
    zones f = eqb (length f.zones) 13 && every (λ z. eqb (length (zone_of f z).aircraft) 4) everywhere

    long : (q : Sequence) → Bool
    long q = eqb (length q.numbers) 4

    places : T (zones g && long g.sequence)
    places =
        and_i (zones g) (long g.sequence)
        (and_i (eqb (length g.zones) 13) (every (λ z. eqb (length (zone_of g z).aircraft) 4) everywhere) (pass (eq-eqb (length g.zones) 13 s.zones_too))
        (every_zone (λ z. eqb (length (zone_of g z).aircraft) 4) everywhere tt (λ z t. pass (eq-eqb (length (zone_of g z).aircraft) 4 (s.zone z).other.shaped.places))))
        (subst (λ (q : Sequence). T (long q)) s.sequence (and_r (zones f) (long f.sequence) k.places))

-- what a request keeps of the one it keeps of the other
pub kept_same : (f g : Field) → Same f g → Sound f → (r : Request) → KeptBy g r → KeptBy f r
kept_same f g s k r c =
    let n = number_same s r in
    let same : (step_of g r).answer.number ≡ (step_of f r).answer.number = number_is g r ∙ sym n ∙ sym (number_is f r) in
    record {
      sound =
          elim (decided (eqb (number_of f r) 0)) [
            | inl e ↦
                let zero = eqb-true (number_of f r) 0 e in
                subst Sound (sym (field_accepted f r zero))
                (sound_same (effect_of g r) (effect_of f r) (same_sym (effect_same s r)) (subst Sound (field_accepted g r (sym n ∙ zero)) c.sound))
            | inr e ↦ subst Sound (sym (field_refused f r (eqb-false (number_of f r) 0 e))) k
          ];
      not_10 = subst (λ (m : ℕ). T (not (eqb m 10))) same c.not_10;
      not_25 = subst (λ (m : ℕ). T (not (eqb m 25))) same c.not_25;
    }
