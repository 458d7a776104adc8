-- `questions::find::fix_of` meets its contract: the zone that was found is read where it stands. Assumes nothing.
use mathlib.Core.Path.{◌≡◌, sym, ap, ◌∙◌, subst⁻¹}
use mathlib.Core.List.{◌∷◌}
use Prim.Native.Nat.{ℕ, ◌≤◌}
use native.Mathlib.Omega.{arith}
use lib.ListN.{get_or}
use Rattle.field.specs.declared.Aircraft.{Aircraft}
use Rattle.field.specs.declared.Zone.{Zone}
use Rattle.questions.specs.declared.Place.{Place}
use Rattle.field.specs.Airspace.{nobody, queue_of, in_zone}
use Rattle.questions.specs.Find.{place_of, aircraft_at, fix_of}
use Rattle.questions.proofs.FindLaws.{place_within, nobody_nowhere}
use Rattle.field.proofs.FieldKnown.{field_known}
use Rattle.field.proofs.Shapes.{zone_read}
use Rattle.questions.proofs.find.fix_of.Goals.{After-place_of-at}
use Rattle.questions.proofs.find.fix_of.Goals as goal

within : (c : After-place_of-at) → c.place_of-at.result.zone ≤ 13
within c = subst⁻¹ (λ (p : Place). p.zone ≤ 13) c.place_of-at.ensures (place_within c.args.f c.args.number)

pub returns-then-zone-eq0 : goal.returns-then-zone-eq0
unfolding fix_of
returns-then-zone-eq0 c =
    let f = c.args.f in
    let at = place_of f c.args.number in
    let zone : at.zone ≡ 0 = ap (λ (p : Place). p.zone) (sym c.place_of-at.ensures) ∙ c.if-zone-eq0.true in
    sym (ap (λ (z : ℕ). (aircraft_at f z at.place).fix) zone ∙ ap (λ (a : Aircraft). a.fix) (nobody_nowhere f at.place))

pub offset_bounds-f-zone : goal.offset_bounds-f-zone
offset_bounds-f-zone c = omega (arith, within (goal.at.offset_bounds-f-zone c).After-place_of-at)

pub bounds-f-zone : goal.bounds-f-zone
bounds-f-zone c = omega (arith, within (goal.at.bounds-f-zone c).After-place_of-at)

pub returns : goal.returns
unfolding fix_of aircraft_at in_zone
returns c =
    let f = c.args.f in
    let thirteen = (field_known f c.well_formed.0).zones in
    let at = c.place_of-at.result in
    let here = zone_read f at.zone _ thirteen (omega arith) (within (goal.at.returns c).After-place_of-at) in
    ap (λ (a : Aircraft). a.fix)
    (c.aircraft_in-a.ensures
    ∙ ap (λ (q : Zone). get_or (nobody ∷ queue_of q) at.place nobody) here
    ∙ ap (λ (p : Place). aircraft_at f p.zone p.place) c.place_of-at.ensures)
