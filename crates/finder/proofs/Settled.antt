-- A number that was put among entries: which entry with it is put again makes no difference. Assumes nothing.
use mathlib.Core.Path.{◌≡◌, refl, sym, ap, ◌∙◌, subst}
use mathlib.Core.Logic.{◌≢◌, ◌⊎◌, inl, inr}
use mathlib.Core.Bool.{Bool, true, false}
use mathlib.Core.List.{List, [], ◌∷◌}
use Prim.Native.Nat.{ℕ, ◌<◌}
use native.Mathlib.Omega.{arith}
use borrow.Author.Tests.{eqb-true, eqb-false}
use lib.Dec.{eqb}
use Rattle.finder.specs.declared.Entry.{Entry}
use Rattle.finder.specs.Finder.{put_among}
use Rattle.finder.proofs.Found.{before_unused, put_before, put_zero, put_by}

-- the number has its place among entries, or lower ones have all places
abbrev pub Settled : ℕ → List Entry → Type 0
Settled n [] = Unit {0}
Settled n (x ∷ xs) = (x.number ≡ n) ⊎ ((x.number ≢ 0) × (x.number < n) × Settled n xs)

module _ (n : ℕ) (h : n ≢ 0) where
  -- an entry with the number goes on behind a lower one, ..
  goes_on : (e x : Entry) (xs : List Entry) → e.number ≡ n → x.number ≢ 0 → x.number < n → put_among e (x ∷ xs) ≡ x ∷ put_among e xs
  goes_on e x xs p u less =
      put_by (λ (l : List Entry). l ≡ x ∷ put_among e xs) e x xs (λ z. h (sym p ∙ z)) u (λ g. absurd (omega (arith, p, less, g))) (λ g. absurd (omega (arith, p, less, g)))
      (λ g. refl)

  -- .. and changes nothing where its number has a place
  stays : (e x : Entry) (xs : List Entry) → e.number ≡ n → x.number ≡ n → put_among e (x ∷ xs) ≡ x ∷ xs
  stays e x xs p q =
      put_by (λ (l : List Entry). l ≡ x ∷ xs) e x xs (λ z. h (sym p ∙ z)) (λ z. h (sym q ∙ z)) (λ g. absurd (omega (arith, p, q, g))) (λ g. refl)
      (λ g. absurd (omega (arith, p, q, g)))

  -- Two entries with a settled number, put among the entries, give the same.
  pub settled_alike : (a b : Entry) → a.number ≡ n → b.number ≡ n → (es : List Entry) → Settled n es → put_among a es ≡ put_among b es
  settled_alike a b p q [] s = refl
  settled_alike a b p q (x ∷ xs) (inl e) = stays a x xs p e ∙ sym (stays b x xs q e)
  settled_alike a b p q (x ∷ xs) (inr s) =
      goes_on a x xs p s.0 s.1 ∙ ap (λ (l : List Entry). x ∷ l) (settled_alike a b p q xs s.2) ∙ sym (goes_on b x xs q s.0 s.1)

  -- A number that is put among entries is settled, ..
  pub settled_put : (e : Entry) → e.number ≡ n → (es : List Entry) → Settled n (put_among e es)
  settled_put e p [] = tt
  settled_put e p (x ∷ xs) = go (settled_put e p xs) (eqb x.number 0) refl
    where
      go : Settled n (put_among e xs) → (b : Bool) → eqb x.number 0 ≡ b → Settled n (put_among e (x ∷ xs))
      go later true t = subst (Settled n) (sym (put_before e x xs (before_unused e x (λ z. h (sym p ∙ z)) (eqb-true x.number 0 t)))) (inl p)
      go later false t =
          let u = eqb-false x.number 0 t in
          put_by (Settled n) e x xs (λ z. h (sym p ∙ z)) u (λ g. inl p) (λ g. inl (sym g ∙ p)) (λ g. inr (u, omega (arith, g, p), later))

  -- .. and stays so whatever is put among them.
  pub settled_stays : (e : Entry) (es : List Entry) → Settled n es → Settled n (put_among e es)
  settled_stays e [] s = tt
  settled_stays e (x ∷ xs) s = go s (λ a. settled_stays a xs) (eqb e.number 0) refl
    where
      go : Settled n (x ∷ xs) → ((a : Entry) → Settled n xs → Settled n (put_among a xs)) → (b : Bool) → eqb e.number 0 ≡ b → Settled n (put_among e (x ∷ xs))
      go t later true z = subst (Settled n) (sym (put_zero e (eqb-true e.number 0 z) (x ∷ xs))) t
      go (inl p) later false z =
          let u = eqb-false e.number 0 z in
          put_by (Settled n) e x xs u (λ k. h (sym p ∙ k)) (λ g. inr (u, omega (arith, g, p), settled_put x p xs)) (λ g. inl p) (λ g. inl p)
      go (inr t) later false z =
          let u = eqb-false e.number 0 z in
          let less = t.1 in
          put_by (Settled n) e x xs u t.0 (λ g. inr (u, omega (arith, g, less), later x t.2)) (λ g. inr t) (λ g. inr (t.0, less, later e t.2))
