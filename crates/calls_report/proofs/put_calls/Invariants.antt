-- `calls_report::put_calls` meets its contract. The loop's invariant is `Answered`: the lines from call i on, from what is reached, are left to put. Assumes nothing.
use Rattle.calls_report.proofs.CallLines.{Answered}
use Rattle.calls_report.proofs.put_calls.Given as goal

abbrev pub invariant-loop-i : goal.invariant-loop-i
invariant-loop-i l = Answered l.input l.initial.h l.initial.out l.out l.h l.next l.i
