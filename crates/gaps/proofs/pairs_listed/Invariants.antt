-- `gaps::pairs_listed` meets its contract. The loop's invariant: the pairs among those passed are in the array, and the rest of the sequence gives the
-- rest of the pairs. Assumes nothing.
use Rattle.std.proofs.Common.{◌≡◌}
use Rattle.std.specs.Slice.Iter.{windows_size, windows_rest}
use Rattle.field.specs.Airspace.{order_of}
use Rattle.gaps.proofs.Pairs.{PairsFound}
use Rattle.gaps.proofs.pairs_listed.Given as goal

abbrev pub invariant-loop-neighbours : goal.invariant-loop-neighbours
invariant-loop-neighbours l =
    (windows_size l.neighbours-iterator ≡ 2) × PairsFound l.fn.f l.spacing (order_of l.fn.f.sequence) l.pairs l.count (windows_rest l.neighbours-iterator)
