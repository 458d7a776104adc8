-- A session with steps back (02, 2.13) is a run of NASA's model too: its history is a list of requests. Definitions only.
use Rattle.std.specs.Prelude.{List, T}
use Rattle.history.specs.declared.History.{History}
use Rattle.history.specs.History.{history_at_start}
use Rattle.taken_back.specs.Calls.{Call, after_calls}
use Rattle.nasa.specs.Stands.{state_of}
use Rattle.nasa.specs.Runs.{Reached}

-- after every list of requests and steps back, from every history that calls may start from, the field stands for a state that NASA's transitions reach. As in
-- `RunsWithin`, only the state at the end is compared: a step back itself is no transition
abbrev pub RunsWithinBack : Type 0
RunsWithinBack = (first : History) → T (history_at_start first) → (cs : List Call) → Reached (state_of (after_calls first cs).now.field)
