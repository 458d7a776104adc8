-- `positions::lines::put_zones` meets its contract. The loop's invariant: those in the zones from this one on are left to put. Assumes nothing.
use native.Mathlib.Omega.{arith}
use Rattle.field.proofs.FieldKnown.{field_known}
use Rattle.text.proofs.Texts.{left_none}
use Rattle.positions.proofs.QueueLines.{zones_none, zones_next, zones_past}
use Rattle.positions.proofs.lines.put_zones.Goals as goal

pub loop-i-init : goal.loop-i-init
loop-i-init c =
    let f = c.args.f in
    zones_none c.args.out.now c.args.at f (field_known f c.well_formed.1.1.0).zones

pub loop-i-preserved : goal.loop-i-preserved
loop-i-preserved c = zones_next _ c.loop-i.invariant (let z = c.loop-i.invariant.zones in omega arith) c.put_queue-next.ensures

pub returns : goal.returns
returns c = left_none c.loop-i.invariant.left (zones_past c.loop-i.invariant (let z = c.loop-i.invariant.zones in omega arith))
