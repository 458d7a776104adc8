-- Kind 3, the descent (01, "The requests"), on any field within the bounds: what is shown of the one at 3000 of a side.
use Rattle.std.specs.Prelude.{◌≡◌, ℕ}
use Rattle.request.specs.declared.Request.{Request}
use Rattle.field.specs.declared.Field.{Field}
use Rattle.field.specs.Airspace.{at3000, at2000}
use Rattle.questions.specs.Find.{aircraft_at}
use Rattle.rules.specs.Kinds.{moved}
use Rattle.rules.specs.Step.{step_of}

-- the request of the one at 3000 of a side to descend, as its own desk asks it (02, 2.10)
abbrev pub descend_from : Field → ℕ → Request
descend_from f side =
    let a = aircraft_at f (at3000 side) 1 in
    record { kind = 3; side = 0; number = a.number; amount = 0; desk = a.desk }

-- it is accepted, and the one at 3000 is then at 2000
pub record Descends (f : Field) (side : ℕ) : Type 0 where
  pub accepted : (step_of f (descend_from f side)).answer.number ≡ 0
  pub lower : (step_of f (descend_from f side)).field ≡ moved f (at3000 side) (at2000 side)
