-- `finder::index_of` meets its contract: the loop has put those of the zones before the next among five unused places. Assumes nothing.
use Rattle.std.proofs.Common.{◌≡◌, ℕ, ◌+◌, ◌-◌, ◌<◌, List, length, get_or, sym, ap, ◌∙◌, arith, rules}
use Rattle.field.specs.declared.Zone.{Zone}
use Rattle.field.specs.declared.Field.{Field}
use Rattle.field.specs.Airspace.{queue_of, zone_of, in_zone}
use Rattle.field.proofs.Shapes.{zone_read}
use Rattle.finder.specs.declared.Entry.{Entry}
use Rattle.finder.specs.declared.Index.{Index}
use Rattle.finder.specs.Finder.{put_each, entries_from}
use Rattle.finder.proofs.Walk.{Walked, walked_none, walked_more, walked_all}
use Rattle.finder.proofs.index_of.Goals as goal

-- the zone at index i, whose queue was put
gathered : (f : Field) (i : ℕ) (d : Zone) (es : List Entry) {rs : List Entry} → length f.zones ≡ 13 → i < length f.zones → Walked f (i + 1) es
    → rs ≡ put_each (entries_from (i + 1) 1 (queue_of (get_or f.zones i d))) es → Walked f (i + 1 + 1) rs
unfolding in_zone
gathered f i d es long h w made =
    let same : i + 1 - 1 ≡ i = omega arith in
    let here : get_or f.zones i d ≡ zone_of f (i + 1) = ap (λ (k : ℕ). get_or f.zones k d) (sym same) ∙ zone_read f (i + 1) d long w.low (omega arith) in
    walked_more f (i + 1) es (omega arith) w (made ∙ ap (λ (q : Zone). put_each (entries_from (i + 1) 1 (queue_of q)) es) here)

pub loop-i-init : goal.loop-i-init
loop-i-init c = rw c.unused.ensures (walked_none c.args.f)

pub loop-i-preserved : goal.loop-i-preserved
loop-i-preserved c =
    let long : length c.args.f.zones ≡ 13 = search rules in
    gathered c.args.f c.loop-i.i _ c.loop-i.index.entries long (omega (arith, c.loop-i-test.true)) c.loop-i.invariant c.with_queue-index.ensures

pub returns : goal.returns
returns c =
    let l = c.loop-i in
    let long : length c.args.f.zones ≡ 13 = search rules in
    ap {B = Index} (λ (es : List Entry). record { entries = es }) (walked_all c.args.f (l.i + 1) l.index.entries l.invariant (omega (arith, c.loop-i-test.false)))
