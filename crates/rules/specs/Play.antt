-- Document 01, "Any list of requests": playing a list, and the counts over its requests and answers.
use Rattle.std.specs.Prelude.{Bool, cond, ◌&&◌, ◌||◌, List, [], ◌∷◌, ℕ, ◌+◌, eqb}
use Rattle.request.specs.Input.{within, is_entry}
use Rattle.request.specs.declared.Request.{Request}
use Rattle.field.specs.declared.Field.{Field}
use Rattle.field.specs.Lists.{every}
use Rattle.rules.specs.declared.Answer.{Answer}
use Rattle.rules.specs.Step.{step_of}

-- the field after a list of requests, each on the field that the one before it left
abbrev pub field_after : Field → List Request → Field
field_after f [] = f
field_after f (r ∷ rs) = field_after (step_of f r).field rs

-- each request of the list with its answer
abbrev pub played : Field → List Request → List (Request × Answer)
played f [] = []
played f (r ∷ rs) = (r, (step_of f r).answer) ∷ played (step_of f r).field rs

-- the requests of one desk with their answers (02, 2.10)
abbrev pub of_desk : ℕ → List (Request × Answer) → List (Request × Answer)
of_desk desk [] = []
of_desk desk (p ∷ ps) = cond (eqb p.0.desk desk) (p ∷ of_desk desk ps) (of_desk desk ps)

-- whether an answer accepts its request, one of the kinds
abbrev pub is_accepted : (ℕ → Bool) → Request × Answer → Bool
is_accepted kinds p = eqb p.1.number 0 && kinds p.0.kind

-- 1 for an answer with number 0 to a request of the kinds, else 0
abbrev pub counted_once : (ℕ → Bool) → Request × Answer → ℕ
counted_once kinds p = cond (is_accepted kinds p) 1 0

-- the answers with number 0 to requests of the kinds
abbrev pub accepted : (ℕ → Bool) → List (Request × Answer) → ℕ
accepted kinds [] = 0
accepted kinds (p ∷ ps) = counted_once kinds p + accepted kinds ps

-- whether every answer accepts its request
abbrev pub all_accepted : List (Request × Answer) → Bool
all_accepted ps = every (λ p. eqb p.1.number 0) ps

-- how many were let in, by kinds 1 and 2
abbrev pub let_in : List (Request × Answer) → ℕ
let_in = accepted is_entry

-- how many taxied off, by kind 8
abbrev pub taxied_off : List (Request × Answer) → ℕ
taxied_off = accepted (λ kind. eqb kind 8)

-- how many exited, by kind 9
abbrev pub exited_from : List (Request × Answer) → ℕ
exited_from = accepted (λ kind. eqb kind 9)

-- how many misses there were, by kind 10 (01, "The practice file")
abbrev pub misses : List (Request × Answer) → ℕ
misses = accepted (λ kind. eqb kind 10)

-- how many moves there were, by kinds 3 to 11 (01, "The requests")
abbrev pub moves : List (Request × Answer) → ℕ
moves = accepted (within 3 11)

-- kinds 1, 2 and 10: entries and missed approaches
abbrev pub adds_moves : ℕ → Bool
adds_moves kind = is_entry kind || eqb kind 10
