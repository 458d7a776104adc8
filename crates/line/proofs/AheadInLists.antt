-- Laws of lists of numbers: who is in a list, what is all different, and what stands before a number. Assumes nothing.
use mathlib.Core.Path.{◌≡◌, refl, ap, ◌∙◌}
use mathlib.Core.Bool.{Bool, false, not}
use mathlib.Core.List.{List, [], ◌∷◌, ◌++◌, map}
use Prim.Native.Nat.{ℕ}
use lib.Dec.{T, eqb}
use lib.Ieee.Fits.{and_i, and_l, and_r}
use Rattle.field.specs.Lists.{is_in, every, all_different}
use Rattle.questions.specs.Find.{is_head, ahead_of}
use Rattle.order.specs.Model.{last_or, is_nil}
use Rattle.field.proofs.NumberLists.{or_false_left, or_false_right, or_false, absent_left, absent_right, absent_both}
use Rattle.field.proofs.TestLaws.{failed, fail, if_true, if_false, same, flip_eqb}

pub map_append {ℓ ℓ'} : {A : Type ℓ} {B : Type ℓ'} (g : A → B) (xs ys : List A) → map g (xs ++ ys) ≡ map g xs ++ map g ys
map_append g [] ys = refl
map_append g (x ∷ xs) ys = ap (λ l. g x ∷ l) (map_append g xs ys)

-- the last element apart
pub data Ends {A : Type 0} : List A → Type 0 where
  nothing : Ends []
  with_last : (xs : List A) (x : A) → Ends (xs ++ (x ∷ []))

pub ends : {A : Type 0} (xs : List A) → Ends xs
ends [] = nothing
ends {A} (x ∷ xs) = go (ends xs)
  where
    go : {ys : List A} → Ends ys → Ends (x ∷ ys)
    go nothing = with_last [] x
    go (with_last ys y) = with_last (x ∷ ys) y

-- ---- all different
-- fewer are all different too
pub different_without : (xs : List ℕ) (n : ℕ) (ys : List ℕ) → T (all_different (xs ++ n ∷ ys)) → T (all_different (xs ++ ys))
different_without [] n ys t = and_r (not (is_in n ys)) (all_different ys) t
different_without (x ∷ xs) n ys t =
    let rest = xs ++ n ∷ ys in
    let o = failed (and_l (not (is_in x rest)) (all_different rest) t) in
    and_i (not (is_in x (xs ++ ys))) (all_different (xs ++ ys))
    (fail (absent_both x xs ys (absent_left x xs (n ∷ ys) o) (or_false_right (eqb n x) (is_in x ys) (absent_right x xs (n ∷ ys) o))))
    (different_without xs n ys (and_r (not (is_in x rest)) (all_different rest) t))

-- a new number among different ones
pub different_with : (xs : List ℕ) (n : ℕ) (ys : List ℕ) → is_in n (xs ++ ys) ≡ false → T (all_different (xs ++ ys)) → T (all_different (xs ++ n ∷ ys))
different_with [] n ys e t = and_i (not (is_in n ys)) (all_different ys) (fail e) t
different_with (x ∷ xs) n ys e t =
    let o = failed (and_l (not (is_in x (xs ++ ys))) (all_different (xs ++ ys)) t) in
    and_i (not (is_in x (xs ++ n ∷ ys))) (all_different (xs ++ n ∷ ys))
    (fail (absent_both x xs (n ∷ ys) (absent_left x xs ys o) (or_false (flip_eqb x n (or_false_left (eqb x n) (is_in n (xs ++ ys)) e)) (absent_right x xs ys o))))
    (different_with xs n ys (or_false_right (eqb x n) (is_in n (xs ++ ys)) e) (and_r (not (is_in x (xs ++ ys))) (all_different (xs ++ ys)) t))

-- ---- the first, and the one just ahead
pub head_is : (n : ℕ) (xs ys : List ℕ) → is_in n xs ≡ false → is_head n (xs ++ n ∷ ys) ≡ is_nil xs
head_is n [] ys e = same n
head_is n (x ∷ xs) ys e = or_false_left (eqb x n) (is_in n xs) e

pub ahead_is : (d n : ℕ) (xs ys : List ℕ) → is_in n xs ≡ false → ahead_of d n (xs ++ n ∷ ys) ≡ last_or d xs
ahead_is d n [] ys e = if_true d (ahead_of n n ys) (same n)
ahead_is d n (x ∷ xs) ys e = if_false d (ahead_of x n (xs ++ n ∷ ys)) (or_false_left (eqb x n) (is_in n xs) e) ∙ ahead_is x n xs ys (or_false_right (eqb x n) (is_in n xs) e)

pub ahead_absent : (d n : ℕ) (xs : List ℕ) → is_in n xs ≡ false → ahead_of d n xs ≡ 0
ahead_absent d n [] e = refl
ahead_absent d n (x ∷ xs) e = if_false d (ahead_of x n xs) (or_false_left (eqb x n) (is_in n xs) e) ∙ ahead_absent x n xs (or_false_right (eqb x n) (is_in n xs) e)

pub last_is : (d : ℕ) (xs : List ℕ) (x : ℕ) → last_or d (xs ++ (x ∷ [])) ≡ x
last_is d [] x = refl
last_is d (y ∷ xs) x = last_is y xs x

-- ---- every
pub every_append {ℓ} : {A : Type ℓ} (p : A → Bool) (xs ys : List A) → T (every p xs) → T (every p ys) → T (every p (xs ++ ys))
every_append p [] ys t u = u
every_append p (x ∷ xs) ys t u = and_i (p x) (every p (xs ++ ys)) (and_l (p x) (every p xs) t) (every_append p xs ys (and_r (p x) (every p xs) t) u)

pub every_left {ℓ} : {A : Type ℓ} (p : A → Bool) (xs ys : List A) → T (every p (xs ++ ys)) → T (every p xs)
every_left p [] ys t = tt
every_left p (x ∷ xs) ys t = and_i (p x) (every p xs) (and_l (p x) (every p (xs ++ ys)) t) (every_left p xs ys (and_r (p x) (every p (xs ++ ys)) t))

pub every_right {ℓ} : {A : Type ℓ} (p : A → Bool) (xs ys : List A) → T (every p (xs ++ ys)) → T (every p ys)
every_right p [] ys t = t
every_right p (x ∷ xs) ys t = every_right p xs ys (and_r (p x) (every p (xs ++ ys)) t)
