-- Tests of lists: of the numbers of aircraft, of zones, and of what else a list holds; what holds of each one of a list; and another put at a place.
use Rattle.std.specs.Prelude.{Bool, true, false, not, ◌&&◌, ◌||◌, List, [], ◌∷◌, ℕ, zero, suc, eqb, set}

-- a test of every listed number, zone or aircraft
abbrev pub every {ℓ} : {A : Type ℓ} → (A → Bool) → List A → Bool
every p [] = true
every p (x ∷ xs) = p x && every p xs

-- whether a number is one of the listed ones
abbrev pub is_in : ℕ → List ℕ → Bool
is_in n [] = false
is_in n (m ∷ ms) = eqb m n || is_in n ms

-- whether no number is listed twice
abbrev pub all_different : List ℕ → Bool
all_different [] = true
all_different (n ∷ ns) = not (is_in n ns) && all_different ns

-- what holds of each one in a list
abbrev pub Each : {A : Type 0} → (A → Type 0) → List A → Type 0
Each P [] = Unit
Each P (x ∷ xs) = P x × Each P xs

-- the list with x at place z, from 1; what is no place leaves it as it is
abbrev pub set_from_one {ℓ} : {A : Type ℓ} → List A → ℕ → A → List A
set_from_one xs zero x = xs
set_from_one xs (suc i) x = set xs i x
