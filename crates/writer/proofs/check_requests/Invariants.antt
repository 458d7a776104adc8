-- `writer::check_requests` meets its contract. The loop's invariant: the requests before the i-th keep the rules. Assumes nothing.
use mathlib.Core.Path.{◌≡◌}
use lib.ListN.{drop}
use Rattle.practice.specs.Requests.{requests_of}
use Rattle.writer.specs.Writer.{first_offence}
use Rattle.writer.proofs.check_requests.Given as goal

abbrev pub invariant-loop-i : goal.invariant-loop-i
invariant-loop-i l = first_offence (requests_of l.requests) ≡ first_offence (drop l.i (requests_of l.requests))
