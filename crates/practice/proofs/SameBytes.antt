-- The library's comparison of two slices of bytes, and the test for two lists of bytes to be the same. Assumes nothing.
use mathlib.Core.Path.{◌≡◌, refl, sym, ap, ◌∙◌}
use mathlib.Core.List.{List, [], ◌∷◌}
use mathlib.Core.Bool.{Bool, true, false, ◌&&◌, false≢true}
use Prim.Native.Nat.{ℕ}
use lib.Dec.{eqb}
use lib.ListN.{take}
use borrow.Author.Tests.{eq-eqb, eqb-true}
use Rattle.std.specs.List.{starts_with}
use Rattle.std.specs.Cmp.Lexicographic.{pointwise}
use Rattle.request.proofs.InputTests.{both_left, both_right}
use Rattle.practice.specs.File.{letters, are_the_same_bytes}

either_way : (r t : Bool) → (r ≡ true → t ≡ true) → (t ≡ true → r ≡ true) → r ≡ t
either_way true t f g = sym (f refl)
either_way false true f g = g refl
either_way false false f g = refl

eqb_swapped : (x y : ℕ) → eqb x y ≡ eqb y x
eqb_swapped x y = either_way (eqb x y) (eqb y x) (λ e. eq-eqb y x (sym (eqb-true x y e))) (λ e. eq-eqb x y (sym (eqb-true y x e)))

pub same_true : (xs ys : List ℕ) → are_the_same_bytes xs ys ≡ true → xs ≡ ys
same_true [] [] e = refl
same_true [] (y ∷ ys) e = absurd (false≢true e)
same_true (x ∷ xs) [] e = absurd (false≢true e)
same_true (x ∷ xs) (y ∷ ys) e = λ i. eqb-true x y (both_left (eqb x y) (are_the_same_bytes xs ys) e) i ∷ same_true xs ys (both_right (eqb x y) (are_the_same_bytes xs ys) e) i

-- which list of the two comes first does not matter
pub pointwise_same : (xs ys : List ℕ) → pointwise eqb xs ys ≡ are_the_same_bytes ys xs
pointwise_same [] [] = refl
pointwise_same [] (y ∷ ys) = refl
pointwise_same (x ∷ xs) [] = refl
pointwise_same (x ∷ xs) (y ∷ ys) = ap (λ (b : Bool). b && pointwise eqb xs ys) (eqb_swapped x y) ∙ ap (λ (b : Bool). eqb y x && b) (pointwise_same xs ys)

pub starts_same : (file : List ℕ) → starts_with eqb file letters ≡ are_the_same_bytes (take 4 file) letters
starts_same file = pointwise_same letters (take 4 file)
