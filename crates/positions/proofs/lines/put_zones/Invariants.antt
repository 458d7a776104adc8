-- `positions::lines::put_zones` meets its contract. The loop's invariant: those in the zones from this one on are left to put. Assumes nothing.
use Prim.Native.Nat.{◌+◌}
use Rattle.positions.proofs.QueueLines.{Zones}
use Rattle.positions.proofs.lines.put_zones.Given as goal

abbrev pub invariant-loop-i : goal.invariant-loop-i
invariant-loop-i l = Zones l.initial.out l.at l.fn.f l.out l.next (l.i + 1)
