-- An array that `map` makes of another, by a closure that computes each element. Assumes nothing.
use mathlib.Core.Path.{◌≡◌, sym, ap, ◌∙◌, subst}
use mathlib.Core.Logic.{inl, inr}
use mathlib.Core.List.{List, map}
use Prim.Native.Nat.{ℕ, zero, suc, ◌+◌, ◌≤◌, ◌<◌}
use native.Mathlib.Omega.{arith}
use borrow.Author.Tests.{eqb-true, eqb-false}
use denote.Param.Members.{Mut}
use lib.Dec.{eqb}
use lib.ListN.{length, get_or, length-map}
use Rattle.std.specs.Fn.{Called}
use Rattle.std.specs.Array.{IsMapOf, MapsFrom}
use Rattle.std.proofs.lemmas.List.{same_lists}
use Rattle.field.proofs.Arrays.{get_d_map}
use Rattle.field.proofs.TestLaws.{decided}

module _ {F A B : Type 0} (g : Mut F (A × Unit {0}) B) (h : A → B) {f : F} (computes : (x : A) (y : B) (q : F) → Called g f (x, tt) y q → (q ≡ f) × (y ≡ h x)) where
  -- each of the n elements from place i on
  each_is : (xs : List A) (ys : List B) (i n : ℕ) → MapsFrom g f xs ys i n → (k : ℕ) (d : A) (e : B) → i ≤ k → k < i + n → get_or ys k e ≡ h (get_or xs k d)
  each_is xs ys i zero m k d e low high = absurd (omega arith)
  each_is xs ys i (suc n) m k d e low high =
      let made = computes _ _ _ m.5 in
      elim (decided (eqb i k)) [
        | inl t ↦ subst (λ (j : ℕ). get_or ys j e ≡ h (get_or xs j d)) (eqb-true i k t) (m.4.1 e ∙ made.1 ∙ ap h (sym (m.3.1 d)))
        | inr t ↦
            let other = eqb-false i k t in
            each_is xs ys (i + 1) n (subst (λ (p : F). MapsFrom g p xs ys (i + 1) n) made.0 m.6) k d e (omega arith) (omega arith)
      ]

  pub mapped : (xs : List A) (ys : List B) (n : ℕ) (d : A) → length xs ≡ n → IsMapOf g f xs ys n → ys ≡ map h xs
  mapped xs ys n d e m =
      let long = m.long in
      same_lists ys (map h xs) (long ∙ sym (length-map xs h ∙ e)) (λ k b q. each_is xs ys 0 n m.each k d b (omega arith) (omega arith) ∙ sym (get_d_map h xs k d b (omega arith)))
