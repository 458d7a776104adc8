-- Document 02, 2.5, of any field within the bounds: where 20 would be answered, the one at 3000 descends and the caller enters, in one step; and 20 is never
-- answered.
use Rattle.std.specs.Prelude.{◌≡◌, Bool, not, ◌&&◌, List, [], ◌∷◌, ◌++◌, ℕ, T, eqb, ltb}
use Rattle.request.specs.Input.{first_refused, input_number}
use Rattle.request.specs.declared.Request.{Request}
use Rattle.field.specs.declared.Field.{Field}
use Rattle.rules.specs.declared.Answer.{Answer}
use Rattle.field.specs.Airspace.{at3000, lateral, missed}
use Rattle.questions.specs.Counts.{is_empty, approach_holds, potential_of}
use Rattle.questions.specs.Find.{aircraft_at}
use Rattle.bounds.specs.Bounds.{within_bounds}
use Rattle.rules.specs.Kinds.{place_before, absent_checks, shown_to}
use Rattle.rules.specs.Step.{step_of}
use Rattle.rules.specs.Reason.{has_places}
use Rattle.descent.specs.Descent.{descend_from}

-- an answer with nobody in `along`
abbrev pub but_along : Answer → Answer
but_along a = record { number = a.number; aircraft = a.aircraft; zone = a.zone; fix = a.fix; leader = a.leader; along = 0 }

-- the request of the one at 3000 of an entry's side to descend
abbrev pub descend_before : Field → Request → Request
descend_before f r = descend_from f r.side

-- the field after it
abbrev pub descended_before : Field → Request → Field
descended_before f r = (step_of f (descend_before f r)).field

-- ---- 20

-- 20 is never answered, on any field
abbrev pub Never20 : Type 0
Never20 = (f : Field) (r : Request) → (step_of f r).answer.number ≡ 20 → ⊥

-- what document 01 needs of a vertical entry, in its order: 20 where 3000 of the side is occupied
abbrev pub needs_before : Field → Request → List (ℕ × Bool)
needs_before f r =
    absent_checks (place_before f r)
    ++ ((16, ltb (potential_of f r.side) 2)
    ∷ (17, not (approach_holds f r.side))
    ∷ (18, is_empty f (missed r.side))
    ∷ (19, is_empty f (lateral r.side))
    ∷ (20, is_empty f (at3000 r.side))
    ∷ [])

-- where 20 would be answered by these: a vertical entry that keeps the input rules, on a field within the bounds
unfoldable pub would20 : Field → Request → Bool
would20 f r = eqb r.kind 1 && eqb (input_number r) 0 && within_bounds f && eqb (first_refused (needs_before f r)) 20

-- ---- what comes in its place

-- the entry is accepted, and is two steps in one: the descend is accepted, and the entry after it leaves the same field and gives the same answer but for
-- `along`, which has the descended one, as the entry's desk is shown it (02, 2.10), and after the descend nobody
pub record TwoSteps (f : Field) (r : Request) : Type 0 where
  pub accepted : (step_of f r).answer.number ≡ 0
  pub descend_accepted : (step_of f (descend_before f r)).answer.number ≡ 0
  pub same_field : (step_of f r).field ≡ (step_of (descended_before f r) r).field
  pub same_answer : but_along (step_of f r).answer ≡ but_along (step_of (descended_before f r) r).answer
  pub along : (step_of f r).answer.along ≡ shown_to r.desk (aircraft_at f (at3000 r.side) 1)
  pub then_nobody : (step_of (descended_before f r) r).answer.along ≡ 0

-- so it is wherever 20 would be answered, on every field with its places
abbrev pub InTwoSteps : Type 0
InTwoSteps = (f : Field) → T (has_places f) → (r : Request) → T (would20 f r) → TwoSteps f r
