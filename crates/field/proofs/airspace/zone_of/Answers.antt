-- `field::airspace::zone_of` meets its contract: zone z stands at the index before it, and what is no zone is empty. Assumes nothing.
use mathlib.Core.Path.{◌≡◌, refl, sym, ◌∙◌}
use Prim.Native.Nat.{ℕ, zero, suc, ◌≤◌}
use native.Mathlib.Omega.{arith}
use lib.ListN.{length, get_or-eq_default}
use Rattle.field.specs.declared.Field.{Field}
use Rattle.field.specs.Airspace.{zone_of, empty_zone}
use Rattle.field.proofs.FieldKnown.{field_known}
use Rattle.field.proofs.Shapes.{zone_read}
use Rattle.field.proofs.airspace.zone_of.Goals.{in_default-via-then-zone-lt1, in_default-via-else-zone-lt1+else-zone-lt14}
use Rattle.field.proofs.airspace.zone_of.Goals as goal

pub returns-in-1-to-13 : goal.returns-in-1-to-13
returns-in-1-to-13 c =
    let f = c.args.f in
    zone_read f c.args.zone _ (field_known f c.well_formed.0).zones (omega arith) (omega arith)

elsewhere : (f : Field) (z : ℕ) → length f.zones ≡ 13 → (1 ≤ z → 14 ≤ z) → empty_zone ≡ zone_of f z
unfolding zone_of
elsewhere f zero n h = refl
elsewhere f (suc i) n h = let past : length f.zones ≤ i = omega (arith, h (omega arith)) in sym (get_or-eq_default f.zones empty_zone past)

pub returns-in_default : goal.returns-in_default
returns-in_default c =
    let f = c.args.f in
    let thirteen = (field_known f c.well_formed.0).zones in
    c.empty_zone.ensures
    ∙ elim c.in_default.branch [
      | in_default-via-then-zone-lt1 w ↦ elsewhere f c.args.zone thirteen (λ h. omega arith)
      | in_default-via-else-zone-lt1+else-zone-lt14 w ↦ elsewhere f c.args.zone thirteen (λ h. omega arith)
    ]
