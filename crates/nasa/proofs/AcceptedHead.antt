-- What an accepted request of kinds 3 to 11 tells of the field: where its aircraft is, and the queue there. Assumes nothing.
use mathlib.Core.Path.{◌≡◌, sym, ap, ◌∙◌}
use mathlib.Core.Logic.{◌≢◌, inl, inr}
use mathlib.Core.Bool.{Bool, true, not, ◌&&◌}
use mathlib.Core.List.{List, map}
use Prim.Native.Nat.{ℕ, suc, ◌<◌}
use native.Mathlib.Omega.{arith}
use borrow.Author.Tests.{eqb-true, eqb-false}
use lib.Dec.{T, eqb, leb, leb→le}
use lib.Ieee.Fits.{and_l, and_r}
use lib.ListN.{length, length-map}
use Rattle.leg.specs.Ticks.{Between}
use Rattle.request.specs.Input.{within}
use Rattle.request.specs.declared.Request.{Request}
use Rattle.request.proofs.InputTests as input
use Rattle.field.specs.declared.Aircraft as field
use Rattle.field.specs.declared.Field.{Field}
use Rattle.field.specs.Airspace.{in_zone}
use Rattle.questions.specs.Counts.{how_many, is_empty}
use Rattle.bounds.specs.Bounds.{within_bounds}
use Rattle.rules.specs.Kinds.{place_before, zone_before}
use Rattle.rules.specs.Step.{number_of}
use Rattle.rules.specs.Reason.{has_places}
use Rattle.order.specs.Model.{Side, right_side, left_side}
use Rattle.rules.proofs.HeadOfRequest as request
use Rattle.rules.proofs.Checks.{HeadPassed, besides, owned}
use Rattle.rules.proofs.Refusals.{Passes, passes}
use Rattle.field.proofs.TestLaws.{decided, failed}
use Rattle.laws.proofs.EditLaws.{Shaped}
use Rattle.laws.proofs.RoomLaws.{room_in}
use Rattle.descent.proofs.Descent.{shaped}
use Rattle.nasa.specs.Definitions.{ScaAircraft, ScaZone, SCA}
use Rattle.nasa.specs.Rules.{for_first, nobody_in, zone_number}
use Rattle.nasa.specs.Stands.{seen, state_of}
use Rattle.nasa.proofs.States.{First, someone, Move}

-- ---- two zones

-- of the operation area, and not the same
abbrev pub differing : ScaZone → ScaZone → Bool
differing z w = within 1 12 (zone_number z) && within 1 12 (zone_number w) && not (eqb (zone_number z) (zone_number w))

-- they have different numbers, ..
pub unlike : (z w : ScaZone) → T (differing z w) → zone_number z ≢ zone_number w
unlike z w d = eqb-false (zone_number z) (zone_number w) (failed (and_r (within 1 12 (zone_number z) && within 1 12 (zone_number w)) (not (eqb (zone_number z) (zone_number w))) d))

-- .. each of the operation area
pub both_inside : (z w : ScaZone) → T (differing z w) → T (within 1 12 (zone_number z)) × T (within 1 12 (zone_number w))
both_inside z w d =
    let a = within 1 12 (zone_number z) in
    let b = within 1 12 (zone_number w) in
    let t = and_l (a && b) (not (eqb (zone_number z) (zone_number w))) d in
    (and_l a b t, and_r a b t)

module _ {f : Field} {z : ScaZone} (t : T (within_bounds f)) (F : First f z) (w : ScaZone) (d : T (differing z w)) where
  -- where the one has somebody the other has room, ..
  pub has_room : how_many f (zone_number w) < 4
  has_room = let i = both_inside z w d in room_in f t (between i.0) (between i.1) (λ q. unlike z w d (sym q)) (someone F)
    where
      between : {n : ℕ} → T (within 1 12 n) → Between 1 12 n
      between {n} t = record { least = leb→le 1 n (and_l (leb 1 n) (leb n 12) t); most = leb→le n 12 (and_r (leb 1 n) (leb n 12) t) }

  -- .. and the first can go there
  abbrev pub move : Shaped f → Move f z w
  move k = record { shaped = k; first = F; apart = λ q. unlike z w d (sym q); room = has_room }

-- ---- one of two zones, by its side
pub of_side : (zs : Side → ScaZone) (low : ℕ) → zone_number (zs right_side) ≡ low → zone_number (zs left_side) ≡ suc low → (z : ℕ) → within low (suc low) z ≡ true → (s : Side) × (z ≡ zone_number (zs s))
of_side zs low p q z t =
    let l = input.within_low low (suc low) z t in
    let h = input.within_high low (suc low) z t in
    elim (decided (eqb z low)) [
      | inl e ↦ (right_side, eqb-true z low e ∙ sym p)
      | inr e ↦ (left_side, (let n = eqb-false z low e in omega arith) ∙ sym q)
    ]

-- ---- the queues of a state

-- a transition of a zone with a first goes on with it and the rest
pub first_of : {f : Field} {z : ScaZone} (F : First f z) (next : ScaAircraft → List ScaAircraft → List SCA)
    → for_first ((state_of f).queue z) next ≡ next (seen f (zone_number z) F.x) (map (seen f (zone_number z)) F.rest)
unfolding state_of
first_of {f} {z} F next = ap (λ (l : List field.Aircraft). for_first (map (seen f (zone_number z)) l) next) F.here

pub how_many_in : (f : Field) (z : ScaZone) → length ((state_of f).queue z) ≡ how_many f (zone_number z)
unfolding state_of how_many
how_many_in f z = length-map (in_zone f (zone_number z)) (seen f (zone_number z))

pub nobody_in_lem : (f : Field) (z : ScaZone) → nobody_in (state_of f) z ≡ is_empty f (zone_number z)
nobody_in_lem f z = ap (λ (n : ℕ). eqb n 0) (how_many_in f z)

-- ---- an accepted request

-- a request of kind k is accepted, on a field with its places
pub record AcceptedOfKind (f : Field) (r : Request) (k : ℕ) : Type 0 where
  pub places : T (has_places f)
  pub kind : r.kind ≡ k
  pub accepted : number_of f r ≡ 0

-- a request's aircraft is at the head of zone z, on a field within the bounds and with its places
pub record Heads (f : Field) (r : Request) (z : ScaZone) : Type 0 where
  pub bounds : T (within_bounds f)
  pub shaped : Shaped f
  pub first : First f z
  pub named : first.x.number ≡ r.number

module _ {f : Field} {r : Request} {k : ℕ} (A : AcceptedOfKind f r k) where
  passed : Passes f r
  passed = passes f r A.accepted

  pub bounded : T (within_bounds f)
  bounded = request.bounded passed

  pub shape : Shaped f
  shape = shaped f A.places bounded

  module _ (m : within 3 11 k ≡ true) where
    -- it has passed 12, 26, 13 and 14, and what its kind needs besides
    pub heading : HeadPassed k (place_before f r) (owned f r) (besides f r k)
    heading = request.heading passed A.kind m

    pub heads : (z : ScaZone) → zone_before f r ≡ zone_number z → Heads f r z
    heads z e =
        let h = request.heads passed A.kind m in
        record { bounds = bounded; shaped = shape; first = record { x = h.head; rest = h.behind; here = ap (in_zone f) (sym e) ∙ h.here }; named = h.named }
