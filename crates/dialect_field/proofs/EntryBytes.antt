-- The entries of a list lent as bytes: how many there are, and that they are those of its chunks of eight bytes. Assumes nothing.
use mathlib.Core.Path.{◌≡◌, refl, sym, ap, ◌∙◌}
use mathlib.Core.List.{List, [], ◌∷◌, map}
use Prim.Native.Nat.{ℕ, suc, ◌/◌}
use native.Mathlib.Omega.{arith}
use lib.ListN.{length}
use Rattle.std.specs.Simd.{first_chunks}
use Rattle.dialect.specs.declared.ListEntry.{ListEntry}
use Rattle.dialect_field.specs.Coming.{entry_in, entries_in}

eighth : (m n : ℕ) → m ≡ n / 8 → suc m ≡ suc (suc (suc (suc (suc (suc (suc (suc n))))))) / 8
eighth m n e = omega arith

pub count : (xs : List ℕ) → length (entries_in xs) ≡ length xs / 8
count [] = refl
count (a ∷ []) = refl
count (a ∷ b ∷ []) = refl
count (a ∷ b ∷ c ∷ []) = refl
count (a ∷ b ∷ c ∷ d ∷ []) = refl
count (a ∷ b ∷ c ∷ d ∷ e ∷ []) = refl
count (a ∷ b ∷ c ∷ d ∷ e ∷ f ∷ []) = refl
count (a ∷ b ∷ c ∷ d ∷ e ∷ f ∷ g ∷ []) = refl
count (a ∷ b ∷ c ∷ d ∷ e ∷ f ∷ g ∷ h ∷ rest) = eighth (length (entries_in rest)) (length rest) (count rest)

-- they are those of the whole chunks of eight bytes
pub by_chunks : (xs : List ℕ) → map entry_in (first_chunks 8 (length xs / 8) xs) ≡ entries_in xs
by_chunks [] = refl
by_chunks (a ∷ []) = refl
by_chunks (a ∷ b ∷ []) = refl
by_chunks (a ∷ b ∷ c ∷ []) = refl
by_chunks (a ∷ b ∷ c ∷ d ∷ []) = refl
by_chunks (a ∷ b ∷ c ∷ d ∷ e ∷ []) = refl
by_chunks (a ∷ b ∷ c ∷ d ∷ e ∷ f ∷ []) = refl
by_chunks (a ∷ b ∷ c ∷ d ∷ e ∷ f ∷ g ∷ []) = refl
by_chunks (a ∷ b ∷ c ∷ d ∷ e ∷ f ∷ g ∷ h ∷ rest) =
    ap (λ (k : ℕ). map entry_in (first_chunks 8 k (a ∷ b ∷ c ∷ d ∷ e ∷ f ∷ g ∷ h ∷ rest))) (sym (eighth (length rest / 8) (length rest) refl))
    ∙ ap (λ (es : List ListEntry). entry_in (a ∷ b ∷ c ∷ d ∷ e ∷ f ∷ g ∷ h ∷ []) ∷ es) (by_chunks rest)
