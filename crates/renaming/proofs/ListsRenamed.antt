-- Lists of which each element is made anew, and lists of numbers renamed: who is in one, and who stands before whom. Assumes nothing.
use mathlib.Core.Path.{◌≡◌, refl, sym, ap, ◌∙◌}
use mathlib.Core.Logic.{◌⊎◌, inl, inr}
use mathlib.Core.Bool.{Bool, true, false, cond, not, ◌&&◌, ◌||◌}
use mathlib.Core.List.{List, [], ◌∷◌, map}
use Prim.Native.Nat.{ℕ, zero, suc}
use lib.Dec.{eqb}
use lib.ListN.{take, drop, set}
use borrow.Author.Tests.{eqb-true, eqb-false, eq-eqb, ne_eqb}
use Rattle.field.specs.Lists.{every, is_in, all_different, set_from_one}
use Rattle.edits.specs.Edits.{before}
use Rattle.field.proofs.TestLaws.{decided}
use Rattle.questions.specs.Find.{is_head, ahead_of}
use Rattle.renaming.specs.Renaming.{Renaming}

-- ---- each made anew
module _ {A B : Type 0} (g : A → B) where
  pub take_map : (n : ℕ) (l : List A) → take n (map g l) ≡ map g (take n l)
  take_map zero l = refl
  take_map (suc n) [] = refl
  take_map (suc n) (x ∷ l) = ap (λ (r : List B). g x ∷ r) (take_map n l)

  pub drop_map : (n : ℕ) (l : List A) → drop n (map g l) ≡ map g (drop n l)
  drop_map zero l = refl
  drop_map (suc n) [] = refl
  drop_map (suc n) (x ∷ l) = drop_map n l

  pub set_map : (l : List A) (n : ℕ) (x : A) → set (map g l) n (g x) ≡ map g (set l n x)
  set_map [] n x = refl
  set_map (y ∷ l) zero x = refl
  set_map (y ∷ l) (suc n) x = ap (λ (r : List B). g y ∷ r) (set_map l n x)

  pub set_one_map : (l : List A) (z : ℕ) (x : A) → set_from_one (map g l) z (g x) ≡ map g (set_from_one l z x)
  set_one_map l zero x = refl
  set_one_map l (suc n) x = set_map l n x

  pub every_map : (p : B → Bool) (q : A → Bool) → ((x : A) → p (g x) ≡ q x) → (l : List A) → every p (map g l) ≡ every q l
  every_map p q h [] = refl
  every_map p q h (x ∷ l) = ap (λ (b : Bool). b && every p (map g l)) (h x) ∙ ap (λ (b : Bool). q x && b) (every_map p q h l)

  -- what is made of each arm is made of `cond`
  pub either_made : (b : Bool) {x y : A} {u v : B} → u ≡ g x → v ≡ g y → cond b u v ≡ g (cond b x y)
  either_made true d e = d
  either_made false d e = e

  -- .. by a test that is as it was
  pub by_test : {b c : Bool} {x y : A} {u v : B} → b ≡ c → u ≡ g x → v ≡ g y → cond b u v ≡ g (cond c x y)
  by_test {c = c} {u = u} {v} h d e = ap (λ (t : Bool). cond t u v) h ∙ either_made c d e

-- ---- numbers renamed
module _ {π : ℕ → ℕ} (p : Renaming π) where
  -- two numbers are the same exactly where they were, ..
  pub same_renamed : (m n : ℕ) → eqb (π m) (π n) ≡ eqb m n
  same_renamed m n = go (decided (eqb m n))
    where
      go : (eqb m n ≡ true) ⊎ (eqb m n ≡ false) → eqb (π m) (π n) ≡ eqb m n
      go (inl e) = eq-eqb (π m) (π n) (ap π (eqb-true m n e)) ∙ sym e
      go (inr e) = ne_eqb (π m) (π n) (λ h. eqb-false m n e (p.apart m n h)) ∙ sym e

  -- .. and a number is 0 exactly where it was
  pub zero_renamed : (n : ℕ) → eqb (π n) 0 ≡ eqb n 0
  zero_renamed n = ap (eqb (π n)) (sym p.zero) ∙ same_renamed n 0

  pub in_renamed : (n : ℕ) (l : List ℕ) → is_in (π n) (map π l) ≡ is_in n l
  in_renamed n [] = refl
  in_renamed n (m ∷ l) = ap (λ (b : Bool). b || is_in (π n) (map π l)) (same_renamed m n) ∙ ap (λ (b : Bool). eqb m n || b) (in_renamed n l)

  pub different_renamed : (l : List ℕ) → all_different (map π l) ≡ all_different l
  different_renamed [] = refl
  different_renamed (n ∷ l) = ap (λ (b : Bool). not b && all_different (map π l)) (in_renamed n l) ∙ ap (λ (b : Bool). not (is_in n l) && b) (different_renamed l)

  pub before_renamed : (n : ℕ) (l : List ℕ) → before (π n) (map π l) ≡ before n l
  before_renamed n [] = refl
  before_renamed n (m ∷ l) = ap (λ (b : Bool). cond b 0 (suc (before (π n) (map π l)))) (same_renamed m n) ∙ ap (λ (k : ℕ). cond (eqb m n) 0 (suc k)) (before_renamed n l)

  pub head_renamed : (n : ℕ) (l : List ℕ) → is_head (π n) (map π l) ≡ is_head n l
  head_renamed n [] = refl
  head_renamed n (m ∷ l) = same_renamed m n

  -- the number ahead of a number is renamed with it
  pub ahead_renamed : (k n : ℕ) (l : List ℕ) → ahead_of (π k) (π n) (map π l) ≡ π (ahead_of k n l)
  ahead_renamed k n [] = sym p.zero
  ahead_renamed k n (m ∷ l) =
      ap (λ (b : Bool). cond b (π k) (ahead_of (π m) (π n) (map π l))) (same_renamed m n)
      ∙ either_made π (eqb m n) refl (ahead_renamed m n l)
