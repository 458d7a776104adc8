-- `press::candidates::first_accepted` meets its contract: each candidate that is passed over is refused. Assumes nothing.
use Rattle.std.proofs.Common.{◌≡◌}
use Rattle.std.proofs.Math.ListN.{drop}
use Rattle.press.specs.Press.{candidates, first_accepted}
use Rattle.press.proofs.candidates.first_accepted.Given as goal

abbrev pub invariant-loop-kind : goal.invariant-loop-kind
invariant-loop-kind l = first_accepted l.f (drop l.kind-index candidates) ≡ first_accepted l.f candidates
