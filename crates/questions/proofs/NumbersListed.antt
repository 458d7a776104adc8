-- The numbers of those in the zones in a row, one zone more. Assumes nothing.
use mathlib.Core.Path.{◌≡◌, sym, ap, ◌∙◌}
use mathlib.Core.List.{List, ◌++◌, map, append_assoc, append-nil}
use Prim.Native.Nat.{ℕ, zero, suc, ◌+◌}
use native.Mathlib.Nat.{zero-add}
use native.Mathlib.Omega.{arith}
use Rattle.field.specs.declared.Aircraft.{Aircraft}
use Rattle.field.specs.declared.Field.{Field}
use Rattle.field.specs.Airspace.{zones_from, in_zone}
use Rattle.questions.specs.Find.{numbers_in}

abbrev pub number_of : Aircraft → ℕ
number_of a = a.number

module _ (f : Field) where
  -- the numbers of those in zone z
  abbrev pub numbers_at : ℕ → List ℕ
  numbers_at z = map number_of (in_zone f z)

  pub one_zone_more : (z n : ℕ) → numbers_in f (zones_from z (suc n)) ≡ numbers_in f (zones_from z n) ++ numbers_at (n + z)
  one_zone_more z zero = append-nil (numbers_at z) ∙ ap numbers_at (sym (zero-add z))
  one_zone_more z (suc n) =
      let e : n + suc z ≡ suc n + z = omega arith in
      ap (λ (l : List ℕ). numbers_at z ++ l) (one_zone_more (suc z) n ∙ ap (λ (k : ℕ). numbers_in f (zones_from (suc z) n) ++ numbers_at k) e)
      ∙ sym (append_assoc (numbers_at z) (numbers_in f (zones_from (suc z) n)) (numbers_at (suc n + z)))
