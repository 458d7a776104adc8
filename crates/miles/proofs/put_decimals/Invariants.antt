-- `miles::put_decimals` meets its contract. The loop's invariant: the digits of the rest are left to put. Assumes nothing.
use Rattle.miles.proofs.Decimals.{Putting}
use Rattle.miles.proofs.put_decimals.Given as goal

abbrev pub invariant-loop-place : goal.invariant-loop-place
invariant-loop-place l = Putting l.initial.out l.at l.part l.out l.end l.rest l._place
