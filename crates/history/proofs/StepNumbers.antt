-- The numbers of a step and of a step back, and what each gives. Assumes nothing.
use mathlib.Core.Path.{◌≡◌, refl, sym, ap, ◌∙◌}
use mathlib.Core.Logic.{inl, inr}
use mathlib.Core.Bool.{Bool, true, false, cond, ◌&&◌}
use Prim.Native.Nat.{ℕ, ◌≤◌}
use lib.Dec.{eqb, leb, ltb}
use borrow.Author.Tests.{eq-eqb, ne_eqb, eqb-true, eqb-false, leb-true, ltb-true}
use native.Mathlib.Omega.{arith}
use Rattle.std.specs.Prelude.{Result, Ok, Err}
use Rattle.refusals.specs.declared.Refusal.{Refusal}
use Rattle.refusals.specs.Refusals.{outcome_number}
use Rattle.leg.specs.Ticks.{Between}
use Rattle.limits.specs.Limits.{most_kept}
use Rattle.request.specs.Input.{within, input_number}
use Rattle.request.specs.declared.Request.{Request}
use Rattle.request.proofs.InputTests.{both_left}
use Rattle.field.specs.Lists.{every}
use Rattle.field.proofs.TestLaws.{decided, if_true, if_false}
use Rattle.field.proofs.TestParts.{and_then, and_cut}
use Rattle.rules.specs.Step.{number_of, number_and_zeros, step_of}
use Rattle.rules.proofs.StepLaws.{number_is}
use Rattle.finder.specs.declared.Indexed.{Indexed}
use Rattle.finder.specs.Finder.{within_bounds_indexed}
use Rattle.indexed.specs.declared.SteppedIndexed.{SteppedIndexed}
use Rattle.indexed.specs.Indexed.{with_index, number_indexed, step_indexed}
use Rattle.history.specs.declared.History.{History}
use Rattle.history.specs.History.{counted, kept_within_bounds, within_bounds_history, keeping, number_history, step_history, number_back, field_given_back, step_back}

-- an outcome that is no refusal has the number 0
pub not_refused : {A : Type 0} (p : Result A Refusal) → ((e : Refusal) → p ≡ Err e → ⊥) → outcome_number p ≡ 0
not_refused (Ok a) h = refl
not_refused (Err e) h = absurd (h e refl)

-- ---- the step on a field with its index
module _ (x : Indexed) (r : Request) where
  -- what it accepts the field accepts
  pub accepted_now : number_indexed x r ≡ 0 → number_of x.field r ≡ 0
  unfolding number_indexed
  accepted_now e = go (eqb (input_number r) 0) refl (within_bounds_indexed x) e
    where
      go : (a : Bool) → eqb (input_number r) 0 ≡ a → (b : Bool) → cond a (cond b (number_of x.field r) 10) (input_number r) ≡ 0 → number_of x.field r ≡ 0
      go true i true k = k
      go true i false k = absurd (omega (arith, k))
      go false i b k = absurd (eqb-false (input_number r) 0 i k)

  -- the step of an accepted request
  pub stepped_now : number_indexed x r ≡ 0 → step_indexed x r ≡ record { answer = (step_of x.field r).answer; after = with_index (step_of x.field r).field }
  unfolding step_indexed
  stepped_now e = if_true _ _ (eq-eqb (number_indexed x r) 0 e)

  -- the number is that of the answer
  pub answered_now : (step_indexed x r).answer.number ≡ number_indexed x r
  unfolding step_indexed number_and_zeros
  answered_now =
      elim (decided (eqb (number_indexed x r) 0)) [
        | inl e ↦ let z = eqb-true (number_indexed x r) 0 e in ap (λ (s : SteppedIndexed). s.answer.number) (if_true _ _ e) ∙ number_is x.field r ∙ accepted_now z ∙ sym z
        | inr e ↦ ap (λ (s : SteppedIndexed). s.answer.number) (if_false _ _ e)
      ]

-- ---- a request
module _ (h : History) (r : Request) where
  -- turned away by the number n, ..
  pub turned_away : {n : ℕ} → number_history h r ≡ n → (n ≡ 0 → ⊥) → record { answer = number_and_zeros n; after = h } ≡ step_history h r
  unfolding step_history
  turned_away {n} e k =
      sym
      (ap (λ (m : ℕ). cond (eqb m 0) (record { answer = (step_of h.now.field r).answer; after = keeping h (with_index (step_of h.now.field r).field) })
      (record { answer = number_and_zeros m; after = h })) e
      ∙ if_false _ _ (ne_eqb n 0 k))

  -- .. or accepted
  pub let_through : number_history h r ≡ 0 → record { answer = (step_of h.now.field r).answer; after = keeping h (with_index (step_of h.now.field r).field) } ≡ step_history h r
  unfolding step_history
  let_through e = sym (if_true _ _ (eq-eqb (number_history h r) 0 e))

  -- the number where the input rules are broken, ..
  pub number_input : (input_number r ≡ 0 → ⊥) → number_history h r ≡ input_number r
  unfolding number_history
  number_input k = if_false _ _ (ne_eqb (input_number r) 0 k)

  -- .. where the kept fields break a bound, ..
  pub number_kept : input_number r ≡ 0 → kept_within_bounds h ≡ false → number_history h r ≡ 10
  unfolding number_history within_bounds_history
  number_kept i w = if_true _ _ (eq-eqb (input_number r) 0 i) ∙ if_false _ _ (and_cut (within_bounds_indexed h.now) w)

  -- by either of these, as a check says before the step
  pub checked_kept : {n : ℕ} → n ≡ cond (eqb (input_number r) 0) (cond (kept_within_bounds h) 0 10) (input_number r) → (n ≡ 0 → ⊥) → number_history h r ≡ n
  checked_kept {n} e k =
      elim (decided (eqb (input_number r) 0)) [
        | inl i ↦
            elim (decided (kept_within_bounds h)) [
              | inl w ↦ absurd (k (e ∙ if_true _ _ i ∙ if_true _ _ w))
              | inr w ↦ number_kept (eqb-true (input_number r) 0 i) w ∙ sym (e ∙ if_true _ _ i ∙ if_false _ _ w)
            ]
        | inr i ↦ number_input (eqb-false (input_number r) 0 i) ∙ sym (e ∙ if_false _ _ i)
      ]

  pub kept_checked : 0 ≡ cond (eqb (input_number r) 0) (cond (kept_within_bounds h) 0 10) (input_number r) → kept_within_bounds h ≡ true
  kept_checked e =
      elim (decided (kept_within_bounds h)) [
        | inl w ↦ w
        | inr w ↦
            elim (decided (eqb (input_number r) 0)) [
              | inl i ↦ let bad : 0 ≡ 10 = e ∙ if_true _ _ i ∙ if_false _ _ w in absurd (omega (arith, bad))
              | inr i ↦ absurd (eqb-false (input_number r) 0 i (sym (e ∙ if_false _ _ i)))
            ]
      ]

  -- .. and where they do not: that of the field with its index
  pub number_now : kept_within_bounds h ≡ true → number_history h r ≡ number_indexed h.now r
  unfolding number_history within_bounds_history number_indexed
  number_now w = ap (λ (b : Bool). cond (eqb (input_number r) 0) (cond b (number_of h.now.field r) 10) (input_number r)) (and_then w refl)

  -- the step by that on the field with its index
  module _ (w : kept_within_bounds h ≡ true) {s : SteppedIndexed} (e : s ≡ step_indexed h.now r) where
    pub number_stepped : number_history h r ≡ s.answer.number
    number_stepped = number_now w ∙ sym (ap (λ (t : SteppedIndexed). t.answer.number) e ∙ answered_now h.now r)

    pub through_stepped : {g : History} → s.answer.number ≡ 0 → g ≡ keeping h s.after → record { answer = s.answer; after = g } ≡ step_history h r
    through_stepped {g} z k =
        let zero = number_stepped ∙ z in
        let now = e ∙ stepped_now h.now r (sym (number_now w) ∙ zero) in
        ap (λ (g : History). record { answer = s.answer; after = g }) k
        ∙ ap (λ (t : SteppedIndexed). record { answer = t.answer; after = keeping h t.after }) now
        ∙ let_through zero

-- ---- a step back
-- within the bounds at most eight count
pub few_kept : (h : History) → within_bounds_history h ≡ true → h.count ≤ most_kept
unfolding within_bounds_history kept_within_bounds
few_kept h w =
    leb-true h.count most_kept
    (both_left (leb h.count most_kept) (every within_bounds_indexed (counted h)) (both_left (leb h.count most_kept && every within_bounds_indexed (counted h)) (within_bounds_indexed h.now) w))

module _ (h : History) (desk : ℕ) where
  pub back_turned_away : {n : ℕ} → number_back h desk ≡ n → (n ≡ 0 → ⊥) → record { answer = number_and_zeros n; after = h } ≡ step_back h desk
  unfolding step_back
  back_turned_away {n} e k =
      sym
      (ap (λ (m : ℕ). cond (eqb m 0) (record { answer = number_and_zeros 0; after = field_given_back h }) (record { answer = number_and_zeros m; after = h })) e
      ∙ if_false _ _ (ne_eqb n 0 k))

  pub back_let_through : number_back h desk ≡ 0 → record { answer = number_and_zeros 0; after = field_given_back h } ≡ step_back h desk
  unfolding step_back
  back_let_through e = sym (if_true _ _ (eq-eqb (number_back h desk) 0 e))

  pub number_31 : within 1 2 desk ≡ false → number_back h desk ≡ 31
  unfolding number_back
  number_31 d = if_false _ _ d

  module _ (d : within 1 2 desk ≡ true) where
    pub number_10 : within_bounds_history h ≡ false → number_back h desk ≡ 10
    unfolding number_back
    number_10 w = if_true _ _ d ∙ if_false _ _ w

    pub number_27 : within_bounds_history h ≡ true → ltb 0 h.count ≡ false → number_back h desk ≡ 27
    unfolding number_back
    number_27 w k = if_true _ _ d ∙ if_true _ _ w ∙ if_false _ _ k

    pub number_0 : within_bounds_history h ≡ true → ltb 0 h.count ≡ true → number_back h desk ≡ 0
    unfolding number_back
    number_0 w k = if_true _ _ d ∙ if_true _ _ w ∙ if_true _ _ k

  -- one that is not refused has a last kept field
  pub some_kept : number_back h desk ≡ 0 → Between 1 8 h.count
  unfolding number_back
  some_kept e =
      elim (decided (within 1 2 desk)) [
        | inr d ↦ let bad : 31 ≡ 0 = sym (if_false _ _ d) ∙ e in absurd (omega (arith, bad))
        | inl d ↦
            elim (decided (within_bounds_history h)) [
              | inr w ↦ let bad : 10 ≡ 0 = sym (if_true _ _ d ∙ if_false _ _ w) ∙ e in absurd (omega (arith, bad))
              | inl w ↦
                  elim (decided (ltb 0 h.count)) [
                    | inr k ↦ let bad : 27 ≡ 0 = sym (if_true _ _ d ∙ if_true _ _ w ∙ if_false _ _ k) ∙ e in absurd (omega (arith, bad))
                    | inl k ↦ let some = ltb-true 0 h.count k in let few = few_kept h w in record { least = omega (arith, some); most = few }
                  ]
            ]
      ]
