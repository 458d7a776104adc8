-- Document 01, "The boxes" and "Any list of requests": how many are where, and for whom a side must keep room.
use Rattle.std.specs.Prelude.{Bool, cond, not, List, [], ◌∷◌, ℕ, ◌+◌, eqb, length}
use Rattle.field.specs.declared.Aircraft.{Aircraft}
use Rattle.field.specs.declared.Field.{Field}
use Rattle.field.specs.Lists.{is_in}
use Rattle.field.specs.Airspace.{in_zone, area, approach, operation, everywhere}

-- a number for each listed zone, added up
abbrev pub total : (ℕ → ℕ) → List ℕ → ℕ
total g [] = 0
total g (z ∷ zs) = g z + total g zs

-- those of the aircraft that have the fix
abbrev pub have_fix : ℕ → List Aircraft → ℕ
have_fix fix [] = 0
have_fix fix (a ∷ rest) = cond (eqb a.fix fix) 1 0 + have_fix fix rest

-- those of the aircraft that belong to the desk (02, 2.10)
abbrev pub owned_by : ℕ → List Aircraft → ℕ
owned_by desk [] = 0
owned_by desk (a ∷ rest) = cond (eqb a.desk desk) 1 0 + owned_by desk rest

-- how many are in zone z
unfoldable pub how_many : Field → ℕ → ℕ
how_many f z = length (in_zone f z)

-- whether nobody is in zone z
abbrev pub is_empty : Field → ℕ → Bool
is_empty f z = eqb (how_many f z) 0

-- how many in zone z have the side as fix
unfoldable pub how_many_with_fix : Field → ℕ → ℕ → ℕ
how_many_with_fix f side z = have_fix side (in_zone f z)

-- how many are present, in any of the thirteen zones (01, "Any list of requests")
unfoldable pub present_on : Field → ℕ
present_on f = total (how_many f) everywhere

-- those of them that the desk let in (02, 2.10)
unfoldable pub present_for : Field → ℕ → ℕ
present_for f desk = total (λ z. owned_by desk (in_zone f z)) everywhere

-- how many are in the operation area
unfoldable pub in_operation : Field → ℕ
in_operation f = total (how_many f) operation

-- how many are in a side's area
unfoldable pub in_area : Field → ℕ → ℕ
in_area f side = total (how_many f) (area side)

-- how many in the operation area have the side as fix (01, "Any list of requests")
unfoldable pub per_fix : Field → ℕ → ℕ
per_fix f side = total (how_many_with_fix f side) operation

-- whether anybody on the approach has the side as fix
unfoldable pub approach_holds : Field → ℕ → Bool
approach_holds f side = not (eqb (total (how_many_with_fix f side) approach) 0)

-- how many in zone z the side must keep room for: all of them where z is in its area, else those with the side as fix
unfoldable pub counted_for : Field → ℕ → ℕ → ℕ
counted_for f side z = cond (is_in z (area side)) (how_many f z) (how_many_with_fix f side z)

-- the potential number of a side: those of the operation area together, each in its one zone (01, "The boxes")
unfoldable pub potential_of : Field → ℕ → ℕ
potential_of f side = total (counted_for f side) operation
