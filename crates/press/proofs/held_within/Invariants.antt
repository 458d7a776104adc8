-- `press::held_within` meets its contract. The loop's invariant is `Pressing`: what is left of the presses leads to the same field, count and
-- lines as all of them from the first field. Assumes nothing.
use Rattle.std.proofs.Common.{◌≡◌}
use Rattle.limits.specs.Limits.{most_presses}
use Rattle.press.proofs.Pressing.{Pressing}
use Rattle.press.proofs.held_within.Given as goal

abbrev pub invariant-loop-i : goal.invariant-loop-i
invariant-loop-i l = (l.played ≡ l.i) × Pressing most_presses l.initial.last l.initial.out l.out l.last l.at l.played
