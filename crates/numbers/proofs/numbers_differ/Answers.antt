-- `numbers::numbers_differ` meets its contract. The loop's invariant: the zones that it has passed change nothing. Assumes nothing.
use mathlib.Core.Path.{◌≡◌, sym, ap, ◌∙◌}
use mathlib.Core.Bool.{not, ◌&&◌}
use mathlib.Core.List.{List, []}
use Prim.Native.Nat.{ℕ}
use native.Mathlib.Omega.{arith}
use lib.Dec.{eqb}
use lib.ListN.{length}
use lib.Seq.{take_all}
use Rattle.field.specs.declared.Field.{Field}
use Rattle.field.specs.declared.Zone.{Zone}
use Rattle.field.specs.Lists.{every, all_different}
use Rattle.field.proofs.Arrays.{walked_all}
use Rattle.field.proofs.FieldKnown.{field_known}
use Rattle.numbers.specs.Numbers.{numbers_of, apart, numbers_differ}
use Rattle.numbers.proofs.NumbersOf.{along, apart_all, zones_more, zones_stop}
use Rattle.numbers.proofs.numbers_differ.Goals as goal

-- what is asked of the field is that the zones of its array stand apart
differ : (f : Field) → length f.zones ≡ 13 → numbers_differ f ≡ apart (numbers_of f.zones) []
unfolding numbers_differ
differ f thirteen =
    let all = sym (along f 0 13 (omega arith)) ∙ ap numbers_of (take_all 13 f.zones (omega arith)) in
    ap (λ (l : List ℕ). every (λ n. not (eqb n 0)) l && all_different l) all ∙ apart_all (numbers_of f.zones)

pub returns-then-not-apart : goal.returns-then-not-apart
returns-then-not-apart c =
    let f = c.args.f in
    let thirteen = (field_known f c.well_formed.0).zones in
    let at = c.loop-i in
    sym (differ f thirteen ∙ zones_stop f.zones at.i _ (omega arith) c.queue.ensures at.invariant (sym c.apart.ensures ∙ c.if-not-apart.true))

pub loop-i-preserved : goal.loop-i-preserved
loop-i-preserved c =
    let f = c.args.f in
    let thirteen = (field_known f c.well_formed.0).zones in
    let at = c.loop-i in
    zones_more f.zones at.i _ (omega arith) c.queue.ensures at.invariant (sym c.apart.ensures ∙ c.if-not-apart.false)

pub returns : goal.returns
returns c =
    let f = c.args.f in
    let at = c.loop-i in
    sym (differ f (field_known f c.well_formed.0).zones ∙ walked_all (λ (qs : List Zone). apart (numbers_of qs) []) f.zones 0 at.i at.invariant (omega arith))
