-- `calls_report::put_calls` meets its contract. The loop's invariant is `Answered`: the lines from call i on, from what is reached, are left to put. Assumes nothing.
use mathlib.Core.Path.{subst}
use Prim.Native.Nat.{◌≤◌}
use native.Mathlib.Omega.{arith}
use lib.ListN.{length}
use Rattle.text.specs.Buffer.{Put, room}
use Rattle.history.specs.declared.History.{History}
use Rattle.calls_report.specs.CallsReport.{calls_in, report_from}
use Rattle.calls_report.proofs.CallLines.{answered_none, answered_more, answered_all, answered_fits}
use Rattle.calls_report.proofs.put_calls.Goals as goal

pub loop-i-init : goal.loop-i-init
loop-i-init c = answered_none _ _ _

pub loop-i-preserved : goal.loop-i-preserved
loop-i-preserved c =
    answered_more _ c.call_at-s.result c.loop-i.invariant c.loop-i-test.true c.requires.1 c.call_at-s.ensures
    (omega (arith, c.call_at-s.type_inv)) (omega (arith, c.call_at-s.type_inv)) (omega (arith, c.call_at-s.type_inv)) c.put_answer-next.ensures

pub returns : goal.returns
returns c =
    let done = c.loop-i-test.false in
    let input = c.args.input.now in
    let start = c.start-h.ensures in record {
      put = subst (λ (h : History). Put c.args.out.now 0 (report_from 0 h (calls_in input)) c.put_last.new.out c.put_last.result) start
          (answered_all _ c.loop-i.invariant done c.put_last.ensures.put);
      input_len_bound = subst (λ (h : History). length (report_from 0 h (calls_in input)) ≤ room) start (answered_fits _ c.loop-i.invariant done c.requires.1 c.put_last.ensures.h_len_bound);
    }
