-- `decoding::read_field` meets its contract: the zones are read one after the other, and then the sequence, the next fix and the legs. Assumes nothing.
use Prim.Native.Nat.{◌-◌}
use Rattle.layout.specs.Read.{read_zone}
use Rattle.decoding.proofs.Several.{Reading}
use Rattle.decoding.proofs.read_field.Given as goal

abbrev pub invariant-loop-i : goal.invariant-loop-i
invariant-loop-i l = Reading (read_zone l.bytes) 128 13 l.at l.zones l.i

abbrev pub decreases-loop-i : goal.decreases-loop-i
decreases-loop-i l = 13 - l.i
