-- `host::start` meets its contract: 7, or the state of the start. Assumes nothing.
use mathlib.Core.Path.{ap, ◌∙◌}
use Rattle.field.proofs.TestParts.{holds, fails}
use Rattle.history.specs.History.{start_of}
use Rattle.layout.specs.Written.{history_bytes}
use Rattle.host.proofs.CallsOnState.{start_refused, start_stored}
use Rattle.host.proofs.start.Goals as goal

pub returns-then-not-legs_allowed : goal.returns-then-not-legs_allowed
returns-then-not-legs_allowed c = let told = start_refused _ _ (fails c.legs_allowed.ensures c.if-not-legs_allowed.true-raw) in
    record { value = told.0; state_after = told.1 }

pub returns : goal.returns
returns c =
    let e = c.start.ensures ∙ ap start_of c.legs_in_miles.ensures in
    let t = start_stored _ _ (holds c.legs_allowed.ensures c.if-not-legs_allowed.false-raw) in record { value = t.0; state_after = c.store.ensures ∙ ap history_bytes e ∙ t.1 }
