-- `host::ask` meets its contract: the answer and the state of the step on the history that the bytes are read as. Assumes nothing.
use mathlib.Core.Path.{ap, ◌∙◌}
use Rattle.history.specs.declared.SteppedHistory.{SteppedHistory}
use Rattle.replies.specs.Replies.{answer_numbers}
use Rattle.host.proofs.CallsOnState.{asked, after_step}
use Rattle.host.proofs.ask.Goals as goal

pub returns : goal.returns
returns c =
    let state = c.args.state.now in
    let e = asked state _ c.step_history-s.ensures c.read_history.ensures in record { value = ap (λ (s : SteppedHistory). s.answer.number) e; answer_after = c.answer_numbers.ensures ∙ ap (λ (s : SteppedHistory). answer_numbers s.answer) e; state_after = c.store_after.ensures ∙ after_step state e }
