-- Document 02, 2.9: what holds of a field with its index beside it, of one request on such a field within the bounds and of any list of them.
use Rattle.std.specs.Prelude.{◌≡◌, ◌⊎◌, List, ℕ, T}
use Rattle.request.specs.declared.Request.{Request}
use Rattle.field.specs.declared.Field.{Field}
use Rattle.questions.specs.Find.{place_of}
use Rattle.finder.specs.declared.Indexed.{Indexed}
use Rattle.finder.specs.Finder.{found_in, within_bounds_indexed}
use Rattle.rules.specs.Step.{step_of}
use Rattle.rules.specs.Start.{empty_start}
use Rattle.rules.specs.Play.{played}
use Rattle.demand.specs.Demand.{Demand3Of}
use Rattle.demand.specs.Exact.{WholeLegs, in_miles, ExactOf}
use Rattle.indexed.specs.Indexed.{with_index, step_indexed, played_indexed, indexed_after}

-- the index has every number that is on the field where the queues have it, and no other
abbrev pub SaysAsLooked : Indexed → Type 0
SaysAsLooked x = (number : ℕ) → found_in x.index number ≡ place_of x.field number

-- a request on a field within the bounds with its own index
pub record IndexKept (x : Indexed) (r : Request) : Type 0 where
  -- the index says so before the request, and after it
  pub before : SaysAsLooked x
  pub after : SaysAsLooked (step_indexed x r).after
  -- the answer and the field are those without an index
  pub same_answer : (step_indexed x r).answer ≡ (step_of x.field r).answer
  pub same_field : (step_indexed x r).after.field ≡ (step_of x.field r).field
  -- the field after it is within the bounds, with its own index
  pub still_within : T (within_bounds_indexed (step_indexed x r).after)
  -- a refusal and a tick leave the index
  pub leaves : ((step_indexed x r).answer.number ≡ 0 → ⊥) ⊎ (r.kind ≡ 12) → (step_indexed x r).after.index ≡ x.index

-- demand 3 of the field with its index, after a list of requests from the field f
pub record Demand3IndexedOf (f : Field) (rs : List Request) : Type 0 where
  -- it holds of the answers that are given with the index, and of the field beside it, ..
  pub holds : Demand3Of (played_indexed (with_index f) rs) (indexed_after (with_index f) rs).field
  -- .. also where it speaks of what is played from there on; ..
  pub goes_on : (more : List Request) → played_indexed (indexed_after (with_index f) rs) more ≡ played (indexed_after (with_index f) rs).field more
  -- .. and the field is within the bounds, with its own index, which says where everyone is
  pub still_within : T (within_bounds_indexed (indexed_after (with_index f) rs))
  pub says : SaysAsLooked (indexed_after (with_index f) rs)

-- that holds of every list of requests, from every empty field that a list may start from
abbrev pub Demand3Indexed : Type 0
Demand3Indexed = (f : Field) → T (empty_start f) → (rs : List Request) → Demand3IndexedOf f rs

-- exactness of the field with its index, after every list of requests, from every empty field that a list may start from whose legs are whole 64ths
abbrev pub ExactIndexed : Type 0
ExactIndexed =
    (w : WholeLegs) (f : Field) → T (empty_start f) → f.legs ≡ in_miles w
    → (rs : List Request) → ExactOf w (played_indexed (with_index f) rs) (indexed_after (with_index f) rs).field
