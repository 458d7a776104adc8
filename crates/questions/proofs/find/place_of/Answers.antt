-- `questions::find::place_of` meets its contract. The loops' invariants: what is sought was in no zone and at no place that was passed. Assumes nothing.
use mathlib.Core.Bool.{cond}
use mathlib.Core.List.{[]}
use mathlib.Core.Path.{◌≡◌, refl, sym, ap, ◌∙◌}
use Prim.Native.Nat.{ℕ, suc, ◌+◌, ◌-◌, ◌<◌}
use native.Mathlib.Omega.{arith}
use native.Mathlib.Numerals.{add-one}
use borrow.Author.Tests.{eq-eqb, ne_eqb}
use lib.Dec.{eqb}
use lib.ListN.{drop, drop_of_length-le}
use Rattle.field.specs.declared.Field.{Field}
use Rattle.questions.specs.declared.Place.{Place}
use Rattle.field.specs.Airspace.{zones_from, queue_of, in_zone}
use Rattle.questions.specs.Find.{place_from, find_in, place_of}
use Rattle.field.proofs.Arrays.{next_of}
use Rattle.field.proofs.FieldKnown.{field_known}
use Rattle.field.proofs.Shapes.{zone_at}
use Rattle.field.proofs.TestLaws.{if_true, if_false}
use Rattle.questions.proofs.find.place_of.Goals as goal

-- the first zone of those left to look at, by the place of the number in it
module _ (f : Field) (number i p : ℕ) (low : i < 13) (e : place_from 1 number (in_zone f (i + 1)) ≡ p) where
  abbrev left : Place
  left = find_in f number (zones_from (i + 1 + 1) (13 - (i + 1)))

  first : find_in f number (zones_from (i + 1) (13 - i)) ≡ cond (eqb p 0) left (record { zone = i + 1; place = p })
  unfolding find_in
  first =
      let n : 13 - i ≡ suc (13 - (i + 1)) = omega arith in
      rw (add-one (i + 1))
      (ap (λ (k : ℕ). find_in f number (zones_from (i + 1) k)) n
      ∙ ap {B = Place} (λ (k : ℕ). cond (eqb k 0) (find_in f number (zones_from (suc (i + 1)) (13 - (i + 1)))) (record { zone = i + 1; place = k })) e)

pub zones-init : goal.zones-init
unfolding place_of
zones-init c = record { high = omega arith; none = refl; rest = refl }

pub loop-k-init : goal.loop-k-init
unfolding in_zone
loop-k-init c =
    let f = c.args.f in
    let thirteen = (field_known f c.well_formed.0).zones in
    record {
      passed = c.zones.invariant;
      zone = omega arith;
      this = c.queue-a-items.ensures ∙ ap queue_of (zone_at f c.zones.i _ (omega arith));
      rest = refl;
    }

-- one zone more, where all its places were passed
pub zones-preserved : goal.zones-preserved
zones-preserved c =
    let a = c.args in
    let i = c.zones.i in
    let k = c.loop-k.k in
    let at = c.loop-k.invariant in
    let xs = c.queue-a-items.result.now in
    let none : drop k xs ≡ [] = drop_of_length-le xs {i = k} c.loop-k-test.false in
    let absent = ap (place_from 1 a.number) (sym at.this) ∙ at.rest ∙ ap (place_from (k + 1) a.number) none in
    record { high = omega arith; none = at.passed.none; rest = at.passed.rest ∙ first a.f a.number i 0 at.zone absent }

pub returns-after-zones : goal.returns-after-zones
unfolding find_in
returns-after-zones c =
    let a = c.args in
    let i = c.zones.i in
    let at = c.zones.invariant in
    let thirteen = (field_known a.f c.well_formed.0).zones in
    let none : 13 - i ≡ 0 = omega arith in
    at.none ∙ sym (at.rest ∙ ap (λ (n : ℕ). find_in a.f a.number (zones_from (i + 1) n)) none)

-- the number stands there
pub returns-then-a-number : goal.returns-then-a-number
returns-then-a-number c =
    let a = c.args in
    let i = c.zones.i in
    let k = c.loop-k.k in
    let at = c.loop-k.invariant in
    let xs = c.queue-a-items.result.now in
    let here =
    ap (place_from 1 a.number) (sym at.this)
    ∙ at.rest
    ∙ ap (place_from (k + 1) a.number) (next_of xs k _ c.loop-k-test.true)
    ∙ if_true (k + 1) _ (eq-eqb _ _ c.if-a-number.true) in
    sym (at.passed.rest ∙ first a.f a.number i (k + 1) at.zone here ∙ if_false _ _ (ne_eqb (k + 1) 0 (λ e. omega arith)))
