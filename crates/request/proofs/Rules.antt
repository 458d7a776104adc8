-- What a kind asks that is known by its range alone: an entry, a move, and what is no kind. Assumes nothing.
use mathlib.Core.Path.{◌≡◌, refl, sym, ap, ◌∙◌}
use mathlib.Core.Bool.{Bool, true, false, false≢true}
use Prim.Native.Nat.{ℕ, zero, suc, ◌≤◌}
use native.Mathlib.Omega.{arith}
use lib.Dec.{eqb}
use borrow.Author.Tests.{ne_eqb, eqb-true, eqb-false}
use Rattle.request.specs.Input.{range, within, in_range, starting_zones, asked_of}
use Rattle.request.proofs.InputTests.{within_above}

pub asked_of_entry : (kind : ℕ) → 1 ≤ kind → kind ≤ 2 → asked_of kind ≡ asked_of 1
asked_of_entry kind low high = go (eqb kind 1) refl
  where
    go : (b : Bool) → eqb kind 1 ≡ b → asked_of kind ≡ asked_of 1
    go true e = ap asked_of (eqb-true kind 1 e)
    go false e = let two : kind ≡ 2 = omega (arith, eqb-false kind 1 e) in ap asked_of two

pub asked_of_move : (kind : ℕ) → 3 ≤ kind → kind ≤ 11
    → asked_of kind ≡ record { sides = range 0 0; aircraft = true; amounts = range 0 0; zones = starting_zones kind }
asked_of_move kind low high =
    simp (
      within_above 1 2 kind low,
      ne_eqb kind 12 (λ e. omega arith),
    )

-- what is no kind starts from no zone
pub no_zones : (kind z : ℕ) → within 1 12 kind ≡ false → in_range (starting_zones kind) z ≡ false
no_zones kind z h =
    simp (
      other 3 refl,
      other 4 refl,
      other 5 refl,
      other 6 refl,
      other 7 refl,
      other 8 refl,
      other 9 refl,
      other 10 refl,
      other 11 refl,
    )
    (none z)
  where
    other : (k : ℕ) → within 1 12 k ≡ true → eqb kind k ≡ false
    other k known = ne_eqb kind k (λ e. false≢true (sym h ∙ ap (within 1 12) e ∙ known))

    none : (z : ℕ) → within 1 0 z ≡ false
    none zero = refl
    none (suc n) = within_above 1 0 (suc n) (omega arith)
