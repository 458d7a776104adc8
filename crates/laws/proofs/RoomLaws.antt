-- What one zone counts, or two, is among what all count, and so a zone has room where another has somebody. Assumes nothing.
use mathlib.Core.Path.{◌≡◌, refl, sym, ap, ◌∙◌}
use mathlib.Core.Logic.{◌≢◌, ◌⊎◌, inl, inr}
use mathlib.Core.Bool.{Bool, true, false, ◌||◌, true≢false}
use mathlib.Core.List.{List, [], ◌∷◌}
use Prim.Native.Nat.{ℕ, ◌+◌, ◌≤◌, ◌<◌}
use native.Mathlib.Omega.{arith}
use borrow.Author.Tests.{eqb-true}
use lib.Dec.{T, eqb, leb, leb→le, le→leb}
use lib.Ieee.Fits.{and_i, and_l}
use Rattle.leg.specs.Ticks.{Between}
use Rattle.field.specs.declared.Field.{Field}
use Rattle.field.specs.Airspace.{operation}
use Rattle.field.specs.Lists.{is_in}
use Rattle.field.proofs.TestLaws.{decided, each_operation}
use Rattle.questions.specs.Counts.{total, how_many, in_operation}
use Rattle.bounds.specs.Bounds.{bound_a, within_bounds}
use Rattle.laws.proofs.BoundLaws.{within_each}

-- what one zone of a list counts is among what all count
pub one_in_total : (c : ℕ → ℕ) (zs : List ℕ) (z : ℕ) → is_in z zs ≡ true → c z ≤ total c zs
one_in_total c [] z i = absurd (true≢false (sym i))
one_in_total c (w ∷ zs) z i = go (decided (eqb w z)) (one_in_total c zs z)
  where
    go : (eqb w z ≡ true) ⊎ (eqb w z ≡ false) → (is_in z zs ≡ true → c z ≤ total c zs) → c z ≤ c w + total c zs
    go (inl a) later = let e : c w ≡ c z = ap c (eqb-true w z a) in omega arith
    go (inr a) later = let h = later (sym (ap (λ (b : Bool). b || is_in z zs) a) ∙ i) in omega arith

-- and so for two
pub two_in_total : (c : ℕ → ℕ) (zs : List ℕ) (y z : ℕ) → is_in y zs ≡ true → is_in z zs ≡ true → y ≢ z → c y + c z ≤ total c zs
two_in_total c [] y z i j h = absurd (true≢false (sym i))
two_in_total c (w ∷ zs) y z i j h = go (decided (eqb w y)) (decided (eqb w z)) (λ a b. two_in_total c zs y z a b h)
  where
    rest_y : eqb w y ≡ false → is_in y zs ≡ true
    rest_y a = sym (ap (λ (b : Bool). b || is_in y zs) a) ∙ i

    rest_z : eqb w z ≡ false → is_in z zs ≡ true
    rest_z b = sym (ap (λ (b : Bool). b || is_in z zs) b) ∙ j

    go : (eqb w y ≡ true) ⊎ (eqb w y ≡ false) → (eqb w z ≡ true) ⊎ (eqb w z ≡ false) → (is_in y zs ≡ true → is_in z zs ≡ true → c y + c z ≤ total c zs) → c y + c z ≤ c w + total c zs
    go (inl a) (inl b) later = absurd (h (sym (eqb-true w y a) ∙ eqb-true w z b))
    go (inl a) (inr b) later = let e : c w ≡ c y = ap c (eqb-true w y a) in let k = one_in_total c zs z (rest_z b) in omega arith
    go (inr a) (inl b) later = let e : c w ≡ c z = ap c (eqb-true w z b) in let k = one_in_total c zs y (rest_y a) in omega arith
    go (inr a) (inr b) later = let k = later (rest_y a) (rest_z b) in omega arith

-- a zone of the operation area has room where another has somebody
pub room_in : (f : Field) → T (within_bounds f) → {z w : ℕ} → Between 1 12 z → Between 1 12 w → w ≢ z → 1 ≤ how_many f z → how_many f w < 4
unfolding bound_a in_operation
room_in f t {z} {w} a b h l =
    let four = leb→le (in_operation f) 4 (and_l (leb (in_operation f) 4) (leb (how_many f 13) 1) (within_each f t).bound_a_is) in
    let both = two_in_total (how_many f) operation w z (listed w b) (listed z a) h in
    omega arith
  where
    listed : (z : ℕ) → Between 1 12 z → is_in z operation ≡ true
    listed z b =
        each_operation (λ z. is_in z operation ≡ true) (refl, refl, refl, refl, refl, refl, refl, refl, refl, refl, refl, refl) z
        (and_i (leb 1 z) (leb z 12) (le→leb 1 z b.least) (le→leb z 12 b.most))
