-- The requests of a body, by their places: how many there are, and which bytes the i-th has. Assumes nothing.
use mathlib.Core.Path.{◌≡◌, refl, sym, ap, ◌∙◌}
use mathlib.Core.List.{List, [], ◌∷◌}
use Prim.Native.Nat.{ℕ, zero, suc, ◌+◌, ◌*◌, ◌/◌, ◌<◌, ◌≤◌}
use Rattle.std.specs.Prelude.{None, Some}
use native.Mathlib.Nat.{le_of_suc-le-suc}
use native.Mathlib.Omega.{arith}
use lib.ListN.{length, get_or}
use Rattle.request.specs.declared.Request.{Request}
use Rattle.request.specs.Input.{request_of}
use Rattle.practice.specs.Requests.{requests_of, reading_at, request_at}

sixth : (m n : ℕ) → m ≡ n / 6 → suc m ≡ suc (suc (suc (suc (suc (suc n))))) / 6
sixth m n e = omega arith

pub count : (xs : List ℕ) → length (requests_of xs) ≡ length xs / 6
count [] = refl
count (a ∷ []) = refl
count (a ∷ b ∷ []) = refl
count (a ∷ b ∷ c ∷ []) = refl
count (a ∷ b ∷ c ∷ d ∷ []) = refl
count (a ∷ b ∷ c ∷ d ∷ e ∷ []) = refl
count (a ∷ b ∷ c ∷ d ∷ e ∷ f ∷ rest) = sixth (length (requests_of rest)) (length rest) (count rest)

-- the six bytes from a place on
abbrev pub six : List ℕ → ℕ → List ℕ
six xs at = get_or xs at 0 ∷ get_or xs (at + 1) 0 ∷ get_or xs (at + 2) 0 ∷ get_or xs (at + 3) 0 ∷ get_or xs (at + 4) 0 ∷ get_or xs (at + 5) 0 ∷ []

module _ (a b c d e f : ℕ) (rest : List ℕ) where
  -- past the first six, an element lies six places nearer in the rest
  past : (n m : ℕ) → m ≡ suc (suc (suc (suc (suc (suc n))))) → get_or (a ∷ b ∷ c ∷ d ∷ e ∷ f ∷ rest) m 0 ≡ get_or rest n 0
  past n m p = ap (λ (k : ℕ). get_or (a ∷ b ∷ c ∷ d ∷ e ∷ f ∷ rest) k 0) p

  six_past : (j : ℕ) → six (a ∷ b ∷ c ∷ d ∷ e ∷ f ∷ rest) (6 * suc j) ≡ six rest (6 * j)
  six_past j i =
      past (6 * j) (6 * suc j) (omega arith) i
      ∷ past (6 * j + 1) (6 * suc j + 1) (omega arith) i
      ∷ past (6 * j + 2) (6 * suc j + 2) (omega arith) i
      ∷ past (6 * j + 3) (6 * suc j + 3) (omega arith) i
      ∷ past (6 * j + 4) (6 * suc j + 4) (omega arith) i
      ∷ past (6 * j + 5) (6 * suc j + 5) (omega arith) i
      ∷ []

nothing : {A : Type 0} {i : ℕ} → i < 0 → A
nothing h = absurd (omega arith)

one_less : (j n : ℕ) → suc j < suc (suc (suc (suc (suc (suc n))))) / 6 → j < n / 6
one_less j n h = omega arith

pub at_index : (xs : List ℕ) (i : ℕ) → i < length xs / 6 → request_at xs i ≡ Some (request_of (six xs (6 * i)))
at_index [] i h = nothing h
at_index (a ∷ []) i h = nothing h
at_index (a ∷ b ∷ []) i h = nothing h
at_index (a ∷ b ∷ c ∷ []) i h = nothing h
at_index (a ∷ b ∷ c ∷ d ∷ []) i h = nothing h
at_index (a ∷ b ∷ c ∷ d ∷ e ∷ []) i h = nothing h
at_index (a ∷ b ∷ c ∷ d ∷ e ∷ f ∷ rest) zero h = refl
at_index (a ∷ b ∷ c ∷ d ∷ e ∷ f ∷ rest) (suc j) h =
    at_index rest j (one_less j (length rest) h) ∙ ap (λ (l : List ℕ). Some (request_of l)) (sym (six_past a b c d e f rest j))

-- ---- the i-th of a list of requests
pub reading_past : (rs : List Request) (i : ℕ) → length rs ≤ i → reading_at rs i ≡ None
reading_past [] i h = refl
reading_past (r ∷ rest) zero h = nothing h
reading_past (r ∷ rest) (suc i) h = reading_past rest i (le_of_suc-le-suc h)

pub reading_within : (rs : List Request) (i : ℕ) (d : Request) → i < length rs → reading_at rs i ≡ Some (get_or rs i d)
reading_within [] i d h = nothing h
reading_within (r ∷ rest) zero d h = refl
reading_within (r ∷ rest) (suc i) d h = reading_within rest i d (le_of_suc-le-suc h)
