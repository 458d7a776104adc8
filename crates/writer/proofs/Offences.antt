-- The first request that breaks the input rules, found in list order. Assumes nothing.
use mathlib.Core.Path.{◌≡◌, refl, sym, ap, ◌∙◌}
use mathlib.Core.List.{List, [], ◌∷◌}
use mathlib.Core.Bool.{Bool, true, false, cond}
use Prim.Native.Nat.{ℕ, zero, suc, ◌+◌, ◌≤◌, ◌<◌}
use native.Mathlib.Numerals.{add-one}
use native.Mathlib.Omega.{arith}
use lib.Dec.{eqb}
use lib.ListN.{length, drop, drop_of_length-le}
use borrow.Author.Tests.{eq-eqb, eqb-true}
use Rattle.std.specs.Prelude.{Result, None, Some}
use Rattle.std.specs.Result.{IsErrAnd}
use Rattle.refusals.specs.declared.Refusal.{Refusal}
use Rattle.refusals.specs.Refusals.{number_of, outcome_number}
use Rattle.refusals.proofs.Outcomes.{unmet}
use Rattle.request.specs.declared.Request.{Request}
use Rattle.request.specs.Input.{input_number}
use Rattle.practice.specs.Requests.{reading_at}
use Rattle.writer.specs.Writer.{first_offence}

-- from the i-th request on
next : (rs : List Request) (i : ℕ) (r : Request) → reading_at rs i ≡ Some r
    → first_offence (drop i rs) ≡ cond (eqb (input_number r) 0) (first_offence (drop (suc i) rs)) (input_number r)
next [] i r e = absurd (let z : ◌≡◌ {A = ℕ} 0 1 = cc in omega arith)
next (q ∷ rest) zero r e = let h : q ≡ r = cc in ap (λ (x : Request). cond (eqb (input_number x) 0) (first_offence rest) (input_number x)) h
next (q ∷ rest) (suc i) r e = next rest i r e

-- where those before the i-th request keep the rules, and it does too, or it breaks them
module _ (rs : List Request) (i : ℕ) (r : Request) (e : reading_at rs i ≡ Some r) (w : first_offence rs ≡ first_offence (drop i rs)) where
  pub kept_more : input_number r ≡ 0 → first_offence rs ≡ first_offence (drop (i + 1) rs)
  kept_more z =
      w
      ∙ next rs i r e
      ∙ ap (λ (t : Bool). cond t (first_offence (drop (suc i) rs)) (input_number r)) (eq-eqb (input_number r) 0 z)
      ∙ ap (λ (k : ℕ). first_offence (drop k rs)) (sym (add-one i))

  itself : (n : ℕ) → n ≡ cond (eqb n 0) 0 n
  itself n = go (eqb n 0) refl
    where
      go : (t : Bool) → eqb n 0 ≡ t → n ≡ cond t 0 n
      go true t = eqb-true n 0 t
      go false t = refl

  pub broken : {A : Type 0} (p : Result A Refusal) (why : Refusal) → number_of why ≡ input_number r → IsErrAnd p (λ y. y ≡ why) → outcome_number p ≡ first_offence rs
  broken p why h f =
      let n = input_number r in
      unmet {b = eqb n 0} {t = eqb n 0} n (first_offence (drop (suc i) rs)) p why (h ∙ itself n) refl f ∙ sym (w ∙ next rs i r e)

-- there is a request at each place of the list
pub none_within : (rs : List Request) (i : ℕ) → reading_at rs i ≡ None → i < length rs → ⊥
none_within [] i e h = omega arith
none_within (q ∷ rest) zero e h = let z : ◌≡◌ {A = ℕ} 0 1 = cc in omega arith
none_within (q ∷ rest) (suc i) e h = none_within rest i e (omega arith)

pub kept_all : (rs : List Request) (i : ℕ) → length rs ≤ i → first_offence rs ≡ first_offence (drop i rs) → 0 ≡ first_offence rs
kept_all rs i h w = sym (w ∙ ap first_offence (drop_of_length-le rs h))
