-- `effects::moved` meets its contract: both zones are written into one field, the second as it stands after the first. Assumes nothing.
use mathlib.Core.Path.{◌≡◌, refl, sym, ap, ◌∙◌}
use mathlib.Core.List.{List}
use mathlib.Core.Bool.{Bool, false, ◌&&◌}
use Prim.Native.Nat.{ℕ, zero, suc, ◌-◌, ◌≤◌}
use native.Mathlib.Omega.{arith}
use lib.Dec.{leb}
use borrow.Author.Tests.{le-leb, leb-false}
use Rattle.request.proofs.InputTests.{within_low, within_high}
use lib.Seq.{set_out}
use Rattle.request.specs.Input.{within}
use lib.ListN.{length, get_or, set, length-set}
use Rattle.field.specs.declared.Aircraft.{Aircraft}
use Rattle.field.specs.declared.Zone.{Zone}
use Rattle.field.specs.declared.Field.{Field}
use Rattle.field.specs.Airspace.{arrived}
use Rattle.edits.specs.Edits.{without_head, with_tail, with_zone}
use Rattle.field.proofs.Arrays.{set_from_one_lem}
use Rattle.field.proofs.Shapes.{zone_read}
use Rattle.questions.specs.Find.{aircraft_at}
use Rattle.rules.specs.Kinds.{head_gone, tail_put, moved}
use Rattle.std.proofs.Common.{rules}
use Rattle.effects.proofs.moved.Goals.{Joined-in_range, then-in_range, else-in_range}
use Rattle.effects.proofs.moved.Goals as goal

-- the field with another list of zones
abbrev zoned : Field → List Zone → Field
zoned f zones = record { zones = zones; sequence = f.sequence; next = f.next; legs = f.legs }

-- zone z written at the index before it
written : (f : Field) (z : ℕ) (q : Zone) → 1 ≤ z → zoned f (set f.zones (z - 1) q) ≡ with_zone f z q
unfolding with_zone
written f z q low = sym (ap (zoned f) (set_from_one_lem f.zones z q low))

-- the head of a zone taken off where the zone stands
head-off : (f : Field) (z : ℕ) {q : Zone} (d : Zone) → length f.zones ≡ 13 → 1 ≤ z → z ≤ 13 → q ≡ without_head (get_or f.zones (z - 1) d) → zoned f (set f.zones (z - 1) q) ≡ head_gone f z
unfolding head_gone
head-off f z {q} d long low high e = written f z q low ∙ ap (with_zone f z) (e ∙ ap without_head (zone_read f z d long low high))

-- an aircraft put at the tail of a zone where the zone stands
tail-on : (f : Field) (z : ℕ) (a : Aircraft) {q : Zone} (d : Zone) → length f.zones ≡ 13 → 1 ≤ z → z ≤ 13 → q ≡ with_tail (get_or f.zones (z - 1) d) a
    → zoned f (set f.zones (z - 1) q) ≡ tail_put f z a
unfolding tail_put
tail-on f z a {q} d long low high e = written f z q low ∙ ap (with_zone f z) (e ∙ ap (λ (p : Zone). with_tail p a) (zone_read f z d long low high))

-- what is no zone is left as it is
outside : (f : Field) (z : ℕ) (q : Zone) → length f.zones ≡ 13 → within 1 13 z ≡ false → f ≡ with_zone f z q
unfolding with_zone
outside f zero q long e = refl
outside f (suc i) q long e =
    let out = leb-false (suc i) 13 (ap (λ (b : Bool). b && leb (suc i) 13) (sym (le-leb 1 (suc i) (omega arith))) ∙ e) in
    ap (zoned f) (sym (set_out f.zones i q (omega arith)))

-- the field with the head taken off where the zone is one, and as it was where it is none
gone : (c : Joined-in_range) → c.if-in_range.after ≡ head_gone c.args.f c.args.from
unfolding head_gone
gone c =
    let f = c.args.f in
    let from = c.args.from in
    let long : length f.zones ≡ 13 = search rules in
    elim c.if-in_range.branch [
      | then-in_range w ↦
          let e = sym c.in_range.ensures ∙ w.if-in_range.true in
          w.after-is ∙ head-off f from _ long (within_low 1 13 from e) (within_high 1 13 from e) w.without_head.ensures
      | else-in_range w ↦ w.after-is ∙ outside f from _ long (sym c.in_range.ensures ∙ w.if-in_range.false)
    ]

-- it has its thirteen zones
whole : (c : Joined-in_range) → length c.if-in_range.after.zones ≡ 13
whole c =
    let f = c.args.f in
    let long : length f.zones ≡ 13 = search rules in
    elim c.if-in_range.branch [
      | then-in_range w ↦ ap (λ (g : Field). length g.zones) w.after-is ∙ length-set f.zones (c.args.from - 1) w.without_head.result ∙ long
      | else-in_range w ↦ ap (λ (g : Field). length g.zones) w.after-is ∙ long
    ]

-- what is put at the tail of a zone of such a field is the move, whatever the field and the aircraft are called
put : (f : Field) (from to : ℕ) {a b : Aircraft} {g : Field} → g ≡ head_gone f from → b ≡ aircraft_at f from 1 → a ≡ arrived f.legs to b → tail_put g to a ≡ moved f from to
unfolding moved
put f from to eg eb ea = cc

pub returns-then-in_range-2 : goal.returns-then-in_range-2
returns-then-in_range-2 c =
    let e = sym c.in_range-2.ensures ∙ c.if-in_range-2.true in
    let at = (goal.at.returns-then-in_range-2 c).Joined-in_range in
    tail-on c.if-in_range.after c.args.to c.arrived-a.result _ (whole at) (within_low 1 13 c.args.to e) (within_high 1 13 c.args.to e) c.with_tail.ensures
    ∙ put c.args.f c.args.from c.args.to (gone at) c.aircraft_at.ensures c.arrived-a.ensures

pub returns-else-in_range-2 : goal.returns-else-in_range-2
unfolding tail_put
returns-else-in_range-2 c =
    let at = (goal.at.returns-else-in_range-2 c).Joined-in_range in
    outside c.if-in_range.after c.args.to _ (whole at) (sym c.in_range-2.ensures ∙ c.if-in_range-2.false)
    ∙ put c.args.f c.args.from c.args.to (gone at) c.aircraft_at.ensures c.arrived-a.ensures
