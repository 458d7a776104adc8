-- What playing asks of a step: from an empty field with legal legs neither 10 nor 25 is ever answered, so that nothing has to be judged. Definitions only.
use Rattle.std.specs.Prelude.{◌≡◌}
use Rattle.request.specs.declared.Request.{Request}
use Rattle.finder.specs.declared.Indexed.{Indexed}
use Rattle.indexed.specs.declared.SteppedIndexed.{SteppedIndexed}
use Rattle.indexed.specs.Indexed.{number_indexed, step_indexed}

-- a step may be asked for wherever neither 10 nor 25 is answered, by what it asks of a field with its index and a request
abbrev pub MayBeAsked : (Indexed → Request → Type 0) → Type 0
MayBeAsked pre = (x : Indexed) (r : Request) → (number_indexed x r ≡ 10 → ⊥) → (number_indexed x r ≡ 25 → ⊥) → pre x r

-- there it is the step, by what it says of a field with its index, a request and what it yields
abbrev pub IsTheStep : (Indexed → Request → SteppedIndexed → Type 0) → Type 0
IsTheStep post = (x : Indexed) (r : Request) (s : SteppedIndexed) → (number_indexed x r ≡ 10 → ⊥) → (number_indexed x r ≡ 25 → ⊥) → post x r s → s ≡ step_indexed x r
