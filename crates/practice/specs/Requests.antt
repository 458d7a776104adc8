-- The requests that body 2 of a practice file holds (01, "The practice file"). Definitions only.
use Rattle.std.specs.Prelude.{ℕ, zero, suc, List, [], ◌∷◌, Option, None, Some}
use Rattle.request.specs.declared.Request.{Request}
use Rattle.request.specs.Input.{request_of}

-- the requests of a body; fewer than six bytes at its end are none
abbrev pub requests_of : List ℕ → List Request
requests_of [] = []
requests_of (a ∷ []) = []
requests_of (a ∷ b ∷ []) = []
requests_of (a ∷ b ∷ c ∷ []) = []
requests_of (a ∷ b ∷ c ∷ d ∷ []) = []
requests_of (a ∷ b ∷ c ∷ d ∷ e ∷ []) = []
requests_of (a ∷ b ∷ c ∷ d ∷ e ∷ f ∷ rest) = request_of (a ∷ b ∷ c ∷ d ∷ e ∷ f ∷ []) ∷ requests_of rest

-- the i-th of a list of requests; past its end there is none
abbrev pub reading_at : List Request → ℕ → Option Request
reading_at [] i = None
reading_at (r ∷ rest) zero = Some r
reading_at (r ∷ rest) (suc i) = reading_at rest i

-- the i-th request of the bytes that the reader is lent, which begin with body 2
abbrev pub request_at : List ℕ → ℕ → Option Request
request_at body i = reading_at (requests_of body) i
