-- After every list of requests and steps back the field is that after the history, which is a list of requests: so it stands for a state that NASA's transitions
-- reach. Assumes nothing.
use mathlib.Core.Path.{subst⁻¹}
use Rattle.field.specs.declared.Field.{Field}
use Rattle.taken_back.specs.Calls.{after_calls, history_of}
use Rattle.taken_back.proofs.Starts.{starts}
use Rattle.taken_back.proofs.Follows.{field_now}
use Rattle.taken_back.proofs.Calls.{taken_back}
use Rattle.nasa.specs.Stands.{state_of}
use Rattle.nasa.specs.Runs.{Reached}
use Rattle.nasa.proofs.ListsAsRuns.{runs_within}
use Rattle.nasa_runs.specs.StepsBack.{RunsWithinBack}

pub runs_within_back : RunsWithinBack
runs_within_back first t cs =
    let f = first.now.field in
    let rs = history_of first cs in
    subst⁻¹ (λ (g : Field). Reached (state_of g)) (field_now f (after_calls first cs) rs (taken_back first t cs).follows) (runs_within f (starts first t).empty rs)
