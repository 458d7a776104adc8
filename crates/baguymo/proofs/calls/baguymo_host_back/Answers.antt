-- `baguymo::calls::baguymo_host_back` meets its contract: the step back by the desk that was handed over. Assumes nothing.
use mathlib.Core.Path.{ap, ◌∙◌}
use Rattle.history.specs.declared.SteppedHistory.{SteppedHistory}
use Rattle.layout.specs.Read.{read_history}
use Rattle.layout.specs.Written.{state_after}
use Rattle.history.specs.History.{step_back}
use Rattle.baguymo.proofs.NarrowedCalls.{back_same}
use Rattle.baguymo.proofs.calls.baguymo_host_back.Goals as goal

pub returns : goal.returns
returns c =
    let state = c.args.state.now in
    let e = ap (step_back (read_history state)) c.in_8.ensures ∙ back_same (read_history state) _ in record { value = c.back.ensures.value ∙ ap (λ (s : SteppedHistory). s.answer.number) e; state_after = c.back.ensures.state_after ∙ ap (λ (s : SteppedHistory). state_after state s.answer.number s.after) e }
