-- What a branch on a callee's result tells of the test that the callee's contract names. Assumes nothing.
use mathlib.Core.Path.{◌≡◌, refl, sym, ap, ◌∙◌}
use mathlib.Core.Bool.{Bool, true, false, cond, not, false≢true}
use Prim.Native.Nat.{ℕ}
use native.Mathlib.Nat.{ne_of_gt}
use lib.Dec.{T, leb, eqb, leb→le}
use borrow.Author.Tests.{eq-eqb, ne_eqb, not-true, not-false}
use Rattle.std.specs.Prelude.{Result, Ok, Err}
use Rattle.std.specs.Result.{is_err}
use Rattle.refusals.specs.declared.Refusal.{Refusal}
use Rattle.refusals.specs.Refusals.{outcome_number}
use Rattle.refusals.proofs.Outcomes.{number_some}

-- a number that was read as r
pub differs : {r n : ℕ} (k : ℕ) → r ≡ n → (r ≡ k → ⊥) → eqb n k ≡ false
differs {r} {n} k e f = ne_eqb n k (λ q. f (e ∙ q))

pub agrees : {r n : ℕ} (k : ℕ) → r ≡ n → r ≡ k → eqb n k ≡ true
agrees {r} {n} k e f = eq-eqb n k (sym e ∙ f)

-- a test that was found to be r
pub fails : {r t : Bool} → r ≡ t → not r ≡ true → t ≡ false
fails {r} e f = sym e ∙ not-true r f

pub passes : {r t : Bool} → r ≡ t → not r ≡ false → t ≡ true
passes {r} e f = sym e ∙ not-false r f

-- ---- at a `?`: a test t with the number n, which a callee has asked as b
pub is_met : {b t : Bool} (n : ℕ) → T (leb 1 n) → 0 ≡ cond b 0 n → b ≡ t → t ≡ true
is_met {t = t} n some h g = go t (h ∙ ap (λ (s : Bool). cond s 0 n) g)
  where
    go : (t : Bool) → 0 ≡ cond t 0 n → t ≡ true
    go true w = refl
    go false w = absurd (ne_of_gt (leb→le 1 n some) (sym w))

-- ---- an outcome whose number is n
pub was_refused : {A : Type 0} (r : Result A Refusal) {n : ℕ} {b : Bool} → outcome_number r ≡ n → b ≡ is_err r → b ≡ true → eqb n 0 ≡ false
was_refused (Ok a) e v h = absurd (false≢true (sym v ∙ h))
was_refused (Err why) {n} e v h = ne_eqb n 0 (λ z. number_some why (e ∙ z))

pub was_accepted : {A : Type 0} (r : Result A Refusal) {n : ℕ} {b : Bool} → outcome_number r ≡ n → b ≡ is_err r → b ≡ false → n ≡ 0
was_accepted (Ok a) e v h = sym e
was_accepted (Err why) e v h = absurd (false≢true (sym h ∙ v))
