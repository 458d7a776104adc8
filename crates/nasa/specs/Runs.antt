-- The states that NASA's model comes to, and those of the fields that requests reach.
use Rattle.std.specs.Prelude.{◌≡◌, List, [], ◌∷◌, T}
use Rattle.request.specs.declared.Request.{Request}
use Rattle.field.specs.declared.Field.{Field}
use Rattle.rules.specs.Start.{empty_start}
use Rattle.rules.specs.Play.{field_after}
use Rattle.order.specs.Model.{right_side}
use Rattle.nasa.specs.Definitions.{SCA, first}
use Rattle.nasa.specs.Stands.{state_of}
use Rattle.nasa.specs.Enabled.{Name, transition}

-- the state with nobody in it; the next fix is right, as document 01 has it, and is not asked for as long as nobody is there
abbrev pub empty_state : SCA
empty_state = record { queue = λ z. []; nextmahf = right_side; nextseq = first }

-- the states that NASA's transitions lead to, one after the other, from the empty one
pub data Reached : SCA → Type 0 where
  start : Reached empty_state
  onward : {s t : SCA} → Reached s → (name : Name) → transition name s ≡ t ∷ [] → Reached t

-- the state of every field that requests reach from an empty one that a list may start from is among them. Of the runs only the states at their ends are
-- compared: `StepsAs` and `Enabled` compare step by step
abbrev pub RunsWithin : Type 0
RunsWithin = (f : Field) → T (empty_start f) → (rs : List Request) → Reached (state_of (field_after f rs))
