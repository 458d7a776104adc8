-- What is asked of those who judge the field, before a step and after it. Definitions only.
use Rattle.std.specs.Prelude.{◌≡◌, Bool, true}
use Rattle.request.specs.Input.{first_refused, input_number}
use Rattle.request.specs.declared.Request.{Request}
use Rattle.field.specs.declared.Field.{Field}
use Rattle.bounds.specs.Bounds.{within_bounds}
use Rattle.rules.specs.Step.{checks_of, effect_of}

-- whoever says whether what is handed in is within the bounds, by the answers that he may give, is right of it where he is asked, ..
abbrev pub JudgesBefore : {X : Type 0} → (X → Bool → Type 0) → (X → Bool) → X → Request → Type 0
JudgesBefore says bounded x r = input_number r ≡ 0 → (b : Bool) → says x b → b ≡ bounded x

-- .. and of the field after the step
abbrev pub JudgesAfter : (Field → Bool → Type 0) → Field → Request → Type 0
JudgesAfter says f r = input_number r ≡ 0 → within_bounds f ≡ true → first_refused (checks_of f r) ≡ 0 → (g : Field) → g ≡ effect_of f r → (b : Bool) → says g b → b ≡ within_bounds g
