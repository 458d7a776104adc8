-- `host::back` meets its contract: the number and the state of the step back on the history that the bytes are read as. Assumes nothing.
use mathlib.Core.Path.{ap, ◌∙◌}
use Rattle.history.specs.declared.SteppedHistory.{SteppedHistory}
use Rattle.host.proofs.CallsOnState.{stepped_back, after_step}
use Rattle.host.proofs.back.Goals as goal

pub returns : goal.returns
returns c =
    let state = c.args.state.now in
    let e = stepped_back state _ c.step_back-stepped.ensures c.read_history.ensures in record { value = ap (λ (s : SteppedHistory). s.answer.number) e; state_after = c.store_after.ensures ∙ after_step state e }
