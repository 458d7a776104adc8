-- The log of a file that was played: seven numbers for each request, one request after the other. Definitions only.
use Rattle.std.specs.Prelude.{ℕ, ◌+◌, ◌*◌, ◌<◌, Bool, cond, ◌&&◌, List, [], ◌∷◌, ◌++◌, eqb, get_or}
use Rattle.request.specs.declared.Request.{Request}
use Rattle.rules.specs.declared.Answer.{Answer}

-- a request's kind, and its answer as the report prints it (01, "The practice file"): number, aircraft, zone, fix, leader, along
abbrev pub log_entry : Request × Answer → List ℕ
log_entry p = p.0.kind ∷ p.1.number ∷ p.1.aircraft ∷ p.1.zone ∷ p.1.fix ∷ p.1.leader ∷ p.1.along ∷ []

-- the log of requests and their answers
abbrev pub log_of : List (Request × Answer) → List ℕ
log_of [] = []
log_of (p ∷ ps) = log_entry p ++ log_of ps

-- the kind of the i-th request in a log, counted from 0
abbrev pub kind_at : List ℕ → ℕ → ℕ
kind_at log i = get_or log (7 * i) 0

-- the number of its answer
abbrev pub number_at : List ℕ → ℕ → ℕ
number_at log i = get_or log (7 * i + 1) 0

-- every number of a log has 16 bits
abbrev pub HasWords : List ℕ → Type 0
HasWords log = (i : ℕ) → get_or log i 0 < 65536

-- 1 for a request of these kinds that was answered 0, else 0
abbrev pub of_kinds : (ℕ → Bool) → ℕ → ℕ → ℕ
of_kinds kinds kind number = cond (eqb number 0 && kinds kind) 1 0
