-- `questions::find::leader_of` meets its contract. The loop's invariant: the leader is found among those left, with the one ahead of them. Assumes nothing.
use mathlib.Core.Path.{◌≡◌}
use lib.ListN.{drop}
use Rattle.field.specs.Airspace.{order_of}
use Rattle.questions.specs.Find.{ahead_of, leader_of}
use Rattle.questions.proofs.find.leader_of.Given as goal

abbrev pub invariant-loop-n : goal.invariant-loop-n
invariant-loop-n l = leader_of l.fn.s l.number ≡ ahead_of l.ahead l.number (drop l.n-index (order_of l.fn.s))
