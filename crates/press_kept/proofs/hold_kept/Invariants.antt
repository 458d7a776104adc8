-- `press_kept::hold_kept` meets its contract. The loop's invariant is `Pressing`: what is left of the presses leads to the same end. Assumes nothing.
use Rattle.std.proofs.Common.{◌≡◌}
use Rattle.press_kept.proofs.PressingKept.{Pressing}
use Rattle.press_kept.proofs.hold_kept.Given as goal

abbrev pub invariant-loop-i : goal.invariant-loop-i
invariant-loop-i l = (l.played ≡ l.i) × Pressing l.h l.last l.played
