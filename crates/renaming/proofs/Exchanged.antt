-- Two numbers exchanged, neither of them 0, are new numbers such as `Renaming` asks for. Assumes nothing.
use mathlib.Core.Path.{◌≡◌, sym, ap, ◌∙◌}
use mathlib.Core.Logic.{◌≢◌, ◌⊎◌, inl, inr}
use mathlib.Core.Bool.{true, false}
use Prim.Native.Nat.{ℕ}
use lib.Dec.{eqb}
use borrow.Author.Tests.{eqb-true, ne_eqb}
use Rattle.field.proofs.TestLaws.{decided, if_true, if_false, same}
use Rattle.renaming.specs.Renaming.{Renaming, exchanged}

module _ (m n : ℕ) where
  first_exchanged : exchanged m n m ≡ n
  first_exchanged = if_true _ _ (same m)

  second_exchanged : exchanged m n n ≡ m
  second_exchanged = elim (decided (eqb n m)) [ inl e ↦ if_true _ _ e ∙ eqb-true n m e | inr e ↦ if_false _ _ e ∙ if_true _ _ (same n) ]

  other_stays : (k : ℕ) → eqb k m ≡ false → eqb k n ≡ false → exchanged m n k ≡ k
  other_stays k e d = if_false _ _ e ∙ if_false _ _ d

  -- exchanged twice, every number is itself
  twice : (k : ℕ) → exchanged m n (exchanged m n k) ≡ k
  twice k = go (decided (eqb k m)) (decided (eqb k n))
    where
      go : (eqb k m ≡ true) ⊎ (eqb k m ≡ false) → (eqb k n ≡ true) ⊎ (eqb k n ≡ false) → exchanged m n (exchanged m n k) ≡ k
      go (inl e) d = ap (exchanged m n) (if_true _ _ e) ∙ second_exchanged ∙ sym (eqb-true k m e)
      go (inr e) (inl d) = ap (exchanged m n) (if_false _ _ e ∙ if_true _ _ d) ∙ first_exchanged ∙ sym (eqb-true k n d)
      go (inr e) (inr d) = ap (exchanged m n) (other_stays k e d) ∙ other_stays k e d

  -- so no two become one, also where one of the two is 0
  pub exchange_apart : (j k : ℕ) → exchanged m n j ≡ exchanged m n k → j ≡ k
  exchange_apart j k e = sym (twice j) ∙ ap (exchanged m n) e ∙ twice k

  pub exchange_renames : m ≢ 0 → n ≢ 0 → Renaming (exchanged m n)
  exchange_renames h g =
      record {
        apart = exchange_apart;
        zero = other_stays 0 (ne_eqb 0 m (λ e. h (sym e))) (ne_eqb 0 n (λ e. g (sym e)));
      }
