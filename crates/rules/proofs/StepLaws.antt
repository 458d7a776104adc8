-- The step by its number, on any field: what is accepted takes effect, and what is refused leaves the field as it was. Assumes nothing.
use mathlib.Core.Path.{◌≡◌, refl, sym, ap, ◌∙◌}
use mathlib.Core.Logic.{inl, inr}
use mathlib.Core.List.{[], ◌∷◌, ◌++◌}
use lib.Dec.{eqb}
use borrow.Author.Tests.{eqb-true, eq-eqb, ne_eqb}
use Rattle.request.specs.Input.{first_refused, input_number}
use Rattle.request.specs.declared.Request.{Request}
use Rattle.field.specs.declared.Field.{Field}
use Rattle.field.proofs.TestLaws.{decided, if_true, if_false, either_way}
use Rattle.questions.specs.Find.{place_of}
use Rattle.bounds.specs.Bounds.{within_bounds}
use Rattle.rules.specs.declared.Answer.{Answer}
use Rattle.rules.specs.declared.Stepped.{Stepped}
use Rattle.rules.specs.Kinds.{zone_before}
use Rattle.rules.specs.Step.{checks_of, effect_of, number_of, number_and_zeros, acceptance, acceptance_on, along_for, answer_of, step_of}

-- the answer to an accepted request has the number 0
pub answer_number : (f : Field) (r : Request) → (answer_of f r).number ≡ 0
unfolding answer_of number_and_zeros acceptance
answer_number f r = either_way (λ (a : Answer). a.number ≡ 0) (eqb r.kind 12) (number_and_zeros 0) (acceptance_on (effect_of f r) r (along_for r.kind f r (zone_before f r))) (λ e. refl) (λ e. refl)

pub number_is : (f : Field) (r : Request) → (step_of f r).answer.number ≡ number_of f r
unfolding step_of number_and_zeros
number_is f r =
    either_way (λ (s : Stepped). s.answer.number ≡ number_of f r) (eqb (number_of f r) 0)
    (record { answer = answer_of f r; field = effect_of f r }) (record { answer = number_and_zeros (number_of f r); field = f })
    (λ e. answer_number f r ∙ sym (eqb-true (number_of f r) 0 e))
    (λ e. refl)

pub field_accepted : (f : Field) (r : Request) → number_of f r ≡ 0 → (step_of f r).field ≡ effect_of f r
unfolding step_of
field_accepted f r e =
    ap (λ (s : Stepped). s.field) (if_true (record { answer = answer_of f r; field = effect_of f r }) (record { answer = number_and_zeros (number_of f r); field = f }) (eq-eqb (number_of f r) 0 e))

pub answer_accepted : (f : Field) (r : Request) → number_of f r ≡ 0 → (step_of f r).answer ≡ answer_of f r
unfolding step_of
answer_accepted f r e =
    ap (λ (s : Stepped). s.answer) (if_true (record { answer = answer_of f r; field = effect_of f r }) (record { answer = number_and_zeros (number_of f r); field = f }) (eq-eqb (number_of f r) 0 e))

pub field_refused : (f : Field) (r : Request) → (number_of f r ≡ 0 → ⊥) → (step_of f r).field ≡ f
unfolding step_of
field_refused f r e =
    ap (λ (s : Stepped). s.field) (if_false (record { answer = answer_of f r; field = effect_of f r }) (record { answer = number_and_zeros (number_of f r); field = f }) (ne_eqb (number_of f r) 0 e))

pub answer_refused : (f : Field) (r : Request) → (number_of f r ≡ 0 → ⊥) → (step_of f r).answer ≡ number_and_zeros (number_of f r)
unfolding step_of
answer_refused f r e =
    ap (λ (s : Stepped). s.answer) (if_false (record { answer = answer_of f r; field = effect_of f r }) (record { answer = number_and_zeros (number_of f r); field = f }) (ne_eqb (number_of f r) 0 e))

-- the zone that an accepted request but a tick answers: where its aircraft is afterwards
pub zone_answered : (f : Field) (r : Request) → number_of f r ≡ 0 → (r.kind ≡ 12 → ⊥) → (step_of f r).answer.zone ≡ (place_of (effect_of f r) r.number).zone
unfolding answer_of acceptance
zone_answered f r e k =
    ap (λ (a : Answer). a.zone) (answer_accepted f r e ∙ if_false (number_and_zeros 0) (acceptance_on (effect_of f r) r (along_for r.kind f r (zone_before f r))) (ne_eqb r.kind 12 k))

-- an accepted request passes the input rules
pub input_of : (f : Field) (r : Request) → number_of f r ≡ 0 → input_number r ≡ 0
unfolding number_of
input_of f r h =
    elim (decided (eqb (input_number r) 0)) [
      | inl e ↦ eqb-true (input_number r) 0 e
      | inr e ↦ sym (if_false (first_refused ((10, within_bounds f) ∷ checks_of f r ++ ((25, within_bounds (effect_of f r)) ∷ []))) (input_number r) e) ∙ h
    ]
