-- The number and the step of a request, by the tests on the way. Assumes nothing.
use mathlib.Core.Path.{◌≡◌, refl, sym, ap, ◌∙◌}
use mathlib.Core.Logic.{inl, inr}
use mathlib.Core.List.{[], ◌∷◌}
use mathlib.Core.Bool.{Bool, true, false, cond}
use Prim.Native.Nat.{ℕ}
use lib.Dec.{eqb}
use borrow.Author.Tests.{eq-eqb, ne_eqb, eqb-true, eqb-false}
use Rattle.refusals.specs.declared.Refusal.{Refusal}
use Rattle.refusals.specs.Refusals.{number_of as refusal_number}
use Rattle.refusals.proofs.Outcomes.{number_some}
use Rattle.request.specs.Input.{within, first_refused, input_number}
use Rattle.request.specs.declared.Request.{Request}
use Rattle.field.specs.declared.Field.{Field}
use Rattle.bounds.specs.Bounds.{within_bounds}
use Rattle.questions.specs.declared.Place.{Place}
use Rattle.rules.specs.Kinds.{place_before, zone_before, zone_ahead}
use Rattle.rules.specs.Step.{checks_for, effect_for, checks_of, effect_of, number_of, number_and_zeros, answer_of, step_of}
use Rattle.field.proofs.TestLaws.{decided, if_true, if_false, either_way}
use Rattle.field.proofs.TestParts.{is_not}
use Rattle.rules.specs.declared.Stepped.{Stepped}
use Rattle.rules.proofs.Checks.{refused_append, checks_refuse, checks_ahead, effect_ahead}
use Rattle.rules.proofs.StepLaws.{answer_number}

module _ (f : Field) (r : Request) where
  -- the number, test by test
  pub number_by : number_of f r
      ≡ cond (eqb (input_number r) 0)
      (cond (within_bounds f)
      (cond (eqb (first_refused (checks_of f r)) 0) (cond (within_bounds (effect_of f r)) 0 25) (first_refused (checks_of f r)))
      10)
      (input_number r)
  unfolding number_of
  number_by =
      ap (λ (n : ℕ). cond (eqb (input_number r) 0) (cond (within_bounds f) n 10) (input_number r))
      (refused_append (checks_of f r) ((25, within_bounds (effect_of f r)) ∷ []) (checks_refuse f r))

  -- the step of a request that is turned away by the number n
  pub turned_away : {n : ℕ} → number_of f r ≡ n → (n ≡ 0 → ⊥) → record { answer = number_and_zeros n; field = f } ≡ step_of f r
  unfolding step_of
  turned_away {n} e h =
      sym
      (ap (λ (m : ℕ). cond (eqb m 0) (record { answer = answer_of f r; field = effect_of f r }) (record { answer = number_and_zeros m; field = f })) e
      ∙ if_false _ _ (ne_eqb n 0 h))

  -- .. and of one that is accepted
  pub let_through : number_of f r ≡ 0 → record { answer = answer_of f r; field = effect_of f r } ≡ step_of f r
  unfolding step_of
  let_through e =
      sym (ap (λ (m : ℕ). cond (eqb m 0) (record { answer = answer_of f r; field = effect_of f r }) (record { answer = number_and_zeros m; field = f })) e)

  -- the number where the input rules are broken, ..
  pub number_input : {n : ℕ} → n ≡ input_number r → (n ≡ 0 → ⊥) → number_of f r ≡ n
  number_input e h = number_by ∙ if_false _ _ (is_not e h) ∙ sym e

  module _ (i : input_number r ≡ 0) where
    -- .. where the field breaks a bound, ..
    pub number_before : within_bounds f ≡ false → number_of f r ≡ 10
    number_before w = number_by ∙ if_true _ _ (eq-eqb (input_number r) 0 i) ∙ if_false _ _ w

    module _ (w : within_bounds f ≡ true) where
      -- .. where a need is not met, ..
      pub number_need : {n : ℕ} → n ≡ first_refused (checks_of f r) → (n ≡ 0 → ⊥) → number_of f r ≡ n
      number_need e h = number_by ∙ if_true _ _ (eq-eqb (input_number r) 0 i) ∙ if_true _ _ w ∙ if_false _ _ (is_not e h) ∙ sym e

      -- .. and where all are met, by the field after the effect
      pub number_after : {b : Bool} → first_refused (checks_of f r) ≡ 0 → within_bounds (effect_of f r) ≡ b → number_of f r ≡ cond b 0 25
      number_after m e =
          number_by
          ∙ if_true _ _ (eq-eqb (input_number r) 0 i)
          ∙ if_true _ _ w
          ∙ if_true _ _ (eq-eqb (first_refused (checks_of f r)) 0 m)
          ∙ ap (λ (b : Bool). cond b 0 25) e

    -- the bounds before and after, of a number that is neither 10 nor 25
    pub within_before : (number_of f r ≡ 10 → ⊥) → within_bounds f ≡ true
    within_before not_10 =
        elim (decided (within_bounds f)) [
          | inl e ↦ e
          | inr e ↦ absurd (not_10 (number_before e))
        ]

    pub within_after : (number_of f r ≡ 25 → ⊥) → within_bounds f ≡ true → first_refused (checks_of f r) ≡ 0 → within_bounds (effect_of f r) ≡ true
    within_after not_25 w m =
        elim (decided (within_bounds (effect_of f r))) [
          | inl e ↦ e
          | inr e ↦ absurd (not_25 (number_after w m e))
        ]

  -- what the request does to a field where its bounds are left out: the first need that is not met refuses it, else it takes effect
  abbrev pub unjudged_step : Stepped
  unjudged_step =
      cond (eqb (first_refused (checks_of f r)) 0) (record { answer = answer_of f r; field = effect_of f r })
      (record { answer = number_and_zeros (first_refused (checks_of f r)); field = f })

  -- its number is that of the first need that is not met, ..
  pub unjudged_number : unjudged_step.answer.number ≡ first_refused (checks_of f r)
  unfolding number_and_zeros
  unjudged_number =
      either_way (λ (s : Stepped). s.answer.number ≡ first_refused (checks_of f r)) (eqb (first_refused (checks_of f r)) 0) _ _
      (λ e. answer_number f r ∙ sym (eqb-true (first_refused (checks_of f r)) 0 e))
      (λ e. refl)

  -- .. and where all are met its answer and its field are those of the effect
  pub unjudged_met : first_refused (checks_of f r) ≡ 0 → unjudged_step ≡ record { answer = answer_of f r; field = effect_of f r }
  unjudged_met e = if_true _ _ (eq-eqb (first_refused (checks_of f r)) 0 e)

  pub unjudged_field : first_refused (checks_of f r) ≡ 0 → unjudged_step.field ≡ effect_of f r
  unjudged_field e = ap (λ (s : Stepped). s.field) (unjudged_met e)

  -- .. where one is not met it is the step of a request that is turned away by its number
  pub unjudged_turned : (first_refused (checks_of f r) ≡ 0 → ⊥) → unjudged_step ≡ record { answer = number_and_zeros (first_refused (checks_of f r)); field = f }
  unjudged_turned h = if_false _ _ (ne_eqb (first_refused (checks_of f r)) 0 h)

  -- it is the step, of a request that keeps the input rules, where the number is neither 10 nor 25
  pub neither_is_step : input_number r ≡ 0 → (number_of f r ≡ 10 → ⊥) → (number_of f r ≡ 25 → ⊥) → unjudged_step ≡ step_of f r
  neither_is_step i not_10 not_25 =
      let n = first_refused (checks_of f r) in
      let w = within_before i not_10 in
      elim (decided (eqb n 0)) [
        | inl e ↦ let m = eqb-true n 0 e in if_true _ _ e ∙ let_through (number_after i w m (within_after i not_25 w m))
        | inr e ↦ let some = eqb-false n 0 e in if_false _ _ e ∙ turned_away (number_need i w refl some) some
      ]

  -- the step of a request that is turned away by the number of a reason
  pub turned_by : {s : Stepped} {n : ℕ} (e : Refusal) → s ≡ record { answer = number_and_zeros n; field = f } → n ≡ refusal_number e → number_of f r ≡ refusal_number e → s ≡ step_of f r
  turned_by e h p k = h ∙ ap (λ (m : ℕ). record { answer = number_and_zeros m; field = f }) p ∙ turned_away k (number_some e)

-- a test that was asked, and refuses with the number n where it fails
pub not_met : (b : Bool) {n : ℕ} (e : Refusal) → refusal_number e ≡ cond b 0 n → (b ≡ false) × (refusal_number e ≡ n)
not_met true e h = absurd (number_some e h)
not_met false e h = (refl, h)

pub was_met : (b : Bool) {n : ℕ} → 0 ≡ cond b 0 n → (n ≡ 0 → ⊥) → b ≡ true
was_met true h k = refl
was_met false h k = absurd (k (sym h))

-- ---- what is found once and handed on

-- the leader's zone, where the kind asks for it
abbrev pub asked : Field → Request → ℕ
asked f r = cond (within 4 5 r.kind) (zone_ahead f r) 0

-- the number of the checks, by the place and the leader's zone that were found
pub checked : (f : Field) (r : Request) {at : Place} {ahead n : ℕ} → at ≡ place_before f r → ahead ≡ asked f r → n ≡ first_refused (checks_for r.kind f r at ahead)
    → n ≡ first_refused (checks_of f r)
unfolding checks_of
checked f r {at} {ahead} p q e =
    e
    ∙ ap (λ (a : Place). first_refused (checks_for r.kind f r a ahead)) p
    ∙ ap (λ (a : ℕ). first_refused (checks_for r.kind f r (place_before f r) a)) q
    ∙ ap first_refused (checks_ahead r.kind f r (zone_ahead f r) (place_before f r))

-- the field after it
pub effected : (f : Field) (r : Request) {at : Place} {ahead : ℕ} {g : Field} → at ≡ place_before f r → ahead ≡ asked f r → g ≡ effect_for r.kind f r at.zone ahead → g ≡ effect_of f r
unfolding effect_of
effected f r {at} {ahead} p q e =
    e
    ∙ ap (λ (a : Place). effect_for r.kind f r a.zone ahead) p
    ∙ ap (effect_for r.kind f r (zone_before f r)) q
    ∙ effect_ahead r.kind f r (zone_ahead f r) (zone_before f r)
