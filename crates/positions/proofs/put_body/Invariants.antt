-- `positions::put_body` meets its contract. The loop's invariant is `Fields`: the lines from request i on, from the field reached, are left to put. Assumes nothing.
use Prim.Native.Nat.{◌-◌}
use lib.ListN.{length}
use Rattle.practice.specs.Requests.{requests_of}
use Rattle.positions.proofs.Fields.{Fields}
use Rattle.positions.proofs.put_body.Given as goal

abbrev pub invariant-loop-r : goal.invariant-loop-r
invariant-loop-r l = Fields (requests_of l.body) l.initial.f l.initial.out l.out l.f l.at l.i

abbrev pub decreases-loop-r : goal.decreases-loop-r
decreases-loop-r l = length (requests_of l.body) - l.i
