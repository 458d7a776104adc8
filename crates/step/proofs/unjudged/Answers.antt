-- `step::unjudged` meets its contract: by the first need that is not met, or by the effect and the answer. Assumes nothing.
use mathlib.Core.Path.{◌≡◌, sym, ap, ◌∙◌}
use mathlib.Core.Bool.{cond}
use Prim.Native.Nat.{ℕ}
use lib.Dec.{eqb}
use borrow.Author.Tests.{eq-eqb}
use Rattle.refusals.proofs.Outcomes.{number_some}
use Rattle.request.specs.Input.{first_refused}
use Rattle.request.specs.declared.Request.{Request}
use Rattle.field.specs.declared.Field.{Field}
use Rattle.field.proofs.TestParts.{is_not}
use Rattle.field.proofs.TestLaws.{if_true, if_false}
use Rattle.questions.specs.declared.Place.{Place}
use Rattle.rules.specs.declared.Answer.{Answer}
use Rattle.rules.specs.declared.Stepped.{Stepped}
use Rattle.rules.specs.Kinds.{place_before}
use Rattle.rules.specs.Step.{checks_of, effect_of, number_and_zeros, acceptance_on, along_for, answer_of}
use Rattle.step.proofs.StepsByTests.{checked, effected}
use Rattle.step.proofs.unjudged.Goals as goal

-- the step by the field after it and the answer
made : (f : Field) (r : Request) {at : Place} {along : ℕ} {g : Field} {a : Answer} → at ≡ place_before f r → along ≡ along_for r.kind f r at.zone → g ≡ effect_of f r
    → a ≡ cond (eqb r.kind 12) (number_and_zeros 0) (acceptance_on g r along)
    → ◌≡◌ {A = Stepped} (record { answer = a; field = g }) (record { answer = answer_of f r; field = effect_of f r })
unfolding answer_of
made f r {at} {along} {g} {a} p el eg ea =
    ap (λ (b : Answer). stepped b g) ea
    ∙ ap (λ (h : Field). stepped (answered h along) h) eg
    ∙ ap (λ (n : ℕ). stepped (answered (effect_of f r) n) (effect_of f r)) (el ∙ ap (λ (q : Place). along_for r.kind f r q.zone) p)
  where
    stepped : Answer → Field → Stepped
    stepped b h = record { answer = b; field = h }

    answered : Field → ℕ → Answer
    answered h n = cond (eqb r.kind 12) (number_and_zeros 0) (acceptance_on h r n)

pub returns-in-Err : goal.returns-in-Err
returns-in-Err c =
    let a = c.args in
    let need = c.number.ensures ∙ checked a.f a.r c.place_of-at.ensures c.zone_ahead-ahead.ensures c.in-Err.ensures in
    c.turned_away.ensures
    ∙ ap (λ (n : ℕ). record { answer = number_and_zeros n; field = a.f }) need
    ∙ sym (if_false _ _ (is_not need (λ z. number_some _ (sym c.number.ensures ∙ z))))

pub returns : goal.returns
returns c =
    let a = c.args in
    let placed = c.place_of-at.ensures in
    let led = c.zone_ahead-ahead.ensures in
    let met = checked a.f a.r placed led c.in_default.ensures in
    made a.f a.r placed c.along_of-along.ensures (effected a.f a.r placed led c.effect-g.ensures) c.answer.ensures
    ∙ sym (if_true _ _ (eq-eqb (first_refused (checks_of a.f a.r)) 0 (sym met)))
