-- A field with its places, within the bounds and with the reason, beside the field with the same queues whose places past the lengths are as those of an empty field. Assumes nothing.
use mathlib.Core.Path.{◌≡◌, refl, sym, ap, ◌∙◌, subst}
use mathlib.Core.Logic.{◌⊎◌, inl, inr}
use mathlib.Core.Bool.{true, false}
use Prim.Native.Nat.{ℕ, ◌≤◌, ◌<◌}
use native.Mathlib.Omega.{arith}
use borrow.Author.Tests.{leb-false}
use lib.Dec.{T, leb, leb→le}
use lib.ListN.{length, drop}
use lib.Seq.{length-take-le}
use lib.Ieee.Fits.{and_i, and_l}
use Rattle.request.specs.Input.{within}
use Rattle.field.specs.declared.Zone.{Zone}
use Rattle.field.specs.declared.Field.{Field}
use Rattle.field.specs.Airspace.{nobody, empty_zone, everywhere, zone_of, queue_of, in_zone}
use Rattle.field.specs.Lists.{every}
use Rattle.bounds.specs.Bounds.{is_nobody, zone_kept}
use Rattle.rules.specs.Reason.{Sound}
use Rattle.field.proofs.TestLaws.{pass, decided}
use Rattle.field.proofs.NumberLists.{every_listed}
use Rattle.laws.proofs.BoundLaws.{within_each}
use Rattle.laws.proofs.EditLaws.{no_zone_empty}
use Rattle.laws.proofs.SameQueues.{SameZone, Same, kept_empty, same_zone_lem}
use Rattle.line.proofs.Line.{zone_for, queue_for, field_by, zone_by}
use Rattle.line.proofs.CountedOnLine.{in_everywhere}
use Rattle.line.proofs.Orderly.{kept_for}
use Rattle.reason.proofs.StaysSound.{four_places}
use Rattle.reason.proofs.Invariant.{parts, Places, places_parts}

-- the field with the same queues and with nobody past them
abbrev pub tidied : Field → Field
tidied f = field_by (λ z. zone_for (in_zone f z)) f.sequence f.next f.legs

pub tidied_zone : (f : Field) (z : ℕ) → T (within 1 13 z) → zone_of (tidied f) z ≡ zone_for (in_zone (tidied f) z)
unfolding in_zone
tidied_zone f z t =
    let e = zone_by (λ z. zone_for (in_zone f z)) f.sequence f.next f.legs z t in
    e ∙ ap zone_for (sym (ap queue_of e ∙ queue_for (in_zone f z)))

-- a zone that is kept as bound e asks, and the zone of its queue
beside : (q : Zone) → length q.aircraft ≡ 4 → T (zone_kept q) → SameZone q (zone_for (queue_of q))
unfolding zone_kept queue_of
beside q e t =
    let fits : q.length ≤ 4 = leb→le q.length 4 (and_l (leb q.length 4) (every is_nobody (drop q.length q.aircraft)) t) in
    let count : length (queue_of q) ≡ q.length = length-take-le q.length q.aircraft (omega arith) in
    let few : length (queue_of q) ≤ 4 = omega arith in
    record {
      one = record { shaped = record { places = e; fits = fits }; kept = t };
      other = record { shaped = record { places = four_places (queue_of q) nobody few; fits = few }; kept = kept_for (queue_of q) few };
      count = sym count;
      queue = sym (queue_for (queue_of q));
    }

-- the two have the same queues
pub tidied_same : (f : Field) → Sound f → Same f (tidied f)
unfolding in_zone
tidied_same f k =
    record {
      zones = places.thirteen;
      zones_too = refl;
      zone = λ z. each z (decided (leb 1 z)) (decided (leb z 13));
      sequence = refl;
      next = refl;
      legs = refl;
    }
  where
    places : Places f
    places = places_parts f k.places

    kept : T (every (λ z. zone_kept (zone_of f z)) everywhere)
    kept = (parts f (within_each f k.bounds)).kept

    none : (z : ℕ) → (z ≡ 0) ⊎ (13 < z) → SameZone (zone_of f z) (zone_of (tidied f) z)
    none z h = rw (no_zone_empty f places.thirteen z h, no_zone_empty (tidied f) refl z h) (same_zone_lem empty_zone kept_empty)

    each : (z : ℕ) → (leb 1 z ≡ true) ⊎ (leb 1 z ≡ false) → (leb z 13 ≡ true) ⊎ (leb z 13 ≡ false) → SameZone (zone_of f z) (zone_of (tidied f) z)
    each z (inl a) (inl b) =
        let t : T (within 1 13 z) = and_i (leb 1 z) (leb z 13) (pass a) (pass b) in
        subst (SameZone (zone_of f z)) (sym (zone_by (λ z. zone_for (in_zone f z)) f.sequence f.next f.legs z t))
        (beside (zone_of f z) (places.four z t) (every_listed (λ z. zone_kept (zone_of f z)) everywhere z kept (in_everywhere z t)))
    each z (inr a) b = none z (inl (let h = leb-false 1 z a in omega arith))
    each z (inl a) (inr b) = none z (inr (leb-false z 13 b))
