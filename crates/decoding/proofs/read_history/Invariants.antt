-- `decoding::read_history` meets its contract: the field, the kept ones one after the other, and the count. Assumes nothing.
use Prim.Native.Nat.{◌-◌}
use Rattle.layout.specs.Read.{read_indexed}
use Rattle.decoding.proofs.Several.{Reading}
use Rattle.decoding.proofs.read_history.Given as goal

abbrev pub invariant-loop-i : goal.invariant-loop-i
invariant-loop-i l = Reading (read_indexed l.state) 1733 8 1733 l.kept l.i

abbrev pub decreases-loop-i : goal.decreases-loop-i
decreases-loop-i l = 8 - l.i
