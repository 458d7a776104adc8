-- `fits::zones_fit` meets its contract. The loop's invariant: everyone fits in the zones that it has passed. Assumes nothing.
use mathlib.Core.Path.{◌≡◌, sym, ap, ◌∙◌}
use Prim.Native.Nat.{◌+◌}
use native.Mathlib.Omega.{arith}
use Rattle.field.specs.declared.Zone.{Zone}
use Rattle.field.specs.Airspace.{queue_of, in_zone}
use Rattle.field.specs.Lists.{every}
use Rattle.field.proofs.Shapes.{zone_at}
use Rattle.field.proofs.FieldKnown.{field_known}
use Rattle.field.proofs.TestParts.{passed_more, passed_not}
use Rattle.fits.specs.Fits.{fits_zone}
use Rattle.fits.proofs.zones_fit.Invariants.{fit}
use Rattle.fits.proofs.zones_fit.Goals.{After-zone_fits}
use Rattle.fits.proofs.zones_fit.Goals as goal

tested : (c : After-zone_fits) → c.zone_fits.result ≡ fit c.args.f (c.loop-i.i + 1)
unfolding in_zone
tested c =
    let f = c.args.f in
    let i = c.loop-i.i in
    let thirteen = (field_known f c.well_formed.0).zones in
    c.zone_fits.ensures ∙ ap (λ (q : Zone). every (fits_zone f.legs (i + 1)) (queue_of q)) (zone_at f i _ (omega arith))

pub returns-then-not-zone_fits : goal.returns-then-not-zone_fits
returns-then-not-zone_fits c =
    let at = c.loop-i in
    sym (passed_not (fit c.args.f) 1 13 (at.i + 1) at.invariant (omega arith) (sym (tested (goal.at.returns-then-not-zone_fits c).After-zone_fits) ∙ c.if-not-zone_fits.true))

pub loop-i-preserved : goal.loop-i-preserved
loop-i-preserved c =
    let at = c.loop-i in
    passed_more (fit c.args.f) 1 13 (at.i + 1) at.invariant (omega arith) (sym (tested (goal.at.loop-i-preserved c).After-zone_fits) ∙ c.if-not-zone_fits.false)
