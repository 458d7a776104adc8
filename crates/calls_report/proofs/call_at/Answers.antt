-- `calls_report::call_at` meets its contract: a step back, or a request. Assumes nothing.
use mathlib.Core.Path.{ap, ◌∙◌}
use Rattle.taken_back.specs.Calls.{called}
use Rattle.calls_report.proofs.CallLines.{call_back, call_request}
use Rattle.calls_report.proofs.call_at.Goals as goal

pub returns-then-input-at-ne0 : goal.returns-then-input-at-ne0
returns-then-input-at-ne0 c =
    let a = c.args in
    c.step_back.ensures ∙ ap (called a.h) (call_back a.input.now a.at c.if-input-at-ne0.true)

pub returns : goal.returns
returns c =
    let a = c.args in
    c.step_history.ensures
    ∙ ap (called a.h) (call_request a.input.now a.at c.if-input-at-ne0.false c.number16.ensures c.number16-2.ensures)
