-- `baguymo::calls::baguymo_host_start` meets its contract: the start with the legs as they were handed over. Assumes nothing.
use mathlib.Core.Path.{ap, ◌∙◌}
use Rattle.practice.specs.declared.FileLegs.{FileLegs}
use Rattle.host.specs.Calls.{start, start_number, bytes_left}
use Rattle.baguymo.proofs.NarrowedCalls.{start_number_lem, start_left}
use Rattle.baguymo.proofs.calls.baguymo_host_start.Goals as goal

pub returns : goal.returns
returns c =
    let state = c.args.state.now in
    let e = c.legs_in_16.ensures in record { value = c.start.ensures.value ∙ ap start_number e ∙ start_number_lem _; state_after = c.start.ensures.state_after ∙ ap (λ (l : FileLegs). bytes_left state (start l)) e ∙ start_left state _ }
