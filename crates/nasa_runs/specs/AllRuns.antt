-- The other direction of `RunsWithin` of `nasa`: every state that NASA's transitions reach is the state of a field that requests reach.
use Rattle.std.specs.Prelude.{◌≡◌, List, T}
use Rattle.request.specs.declared.Request.{Request}
use Rattle.field.specs.declared.Field.{Field}
use Rattle.rules.specs.Start.{empty_start}
use Rattle.rules.specs.Play.{field_after, played, all_accepted}
use Rattle.nasa.specs.Definitions.{SCA}
use Rattle.nasa.specs.Stands.{state_of}
use Rattle.nasa.specs.Runs.{Reached}

-- a list of requests, each of them accepted, after which the field, from f on, stands for a state
pub record Comes (f : Field) (s : SCA) : Type 0 where
  pub requests : List Request
  pub accepted : T (all_accepted (played f requests))
  pub there : state_of (field_after f requests) ≡ s

-- requests come to every state that NASA's transitions reach, from every empty field that a list may start from; as in `RunsWithin`, of a run only the state at
-- its end is compared
abbrev pub AllRuns : Type 0
AllRuns = (f : Field) → T (empty_start f) → (s : SCA) → Reached s → Comes f s
