-- `history::kept_within_bounds` meets its contract: the kept fields that the loop has passed are within the bounds. Assumes nothing.
use Prim.Native.Nat.{◌-◌, ◌≤◌}
use Rattle.limits.specs.Limits.{most_kept}
use Rattle.finder.specs.Finder.{within_bounds_indexed}
use Rattle.history.proofs.KeptTested.{Tested}
use Rattle.history.proofs.kept_within_bounds.Given as goal

abbrev pub invariant-loop-i : goal.invariant-loop-i
invariant-loop-i l = Tested within_bounds_indexed l.h.kept l.count l.i × (l.count ≤ most_kept)

abbrev pub decreases-loop-i : goal.decreases-loop-i
decreases-loop-i l = l.count - l.i
