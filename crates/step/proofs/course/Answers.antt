-- `step::course` meets its contract, test by test. Assumes nothing.
use mathlib.Core.Path.{◌≡◌, refl, sym, ap, ◌∙◌}
use mathlib.Core.Bool.{true}
use native.Mathlib.Omega.{arith}
use Rattle.refusals.specs.Refusals.{number_of}
use Rattle.refusals.proofs.Outcomes.{number_some}
use Rattle.request.specs.Input.{first_refused, input_number}
use Rattle.bounds.specs.Bounds.{within_bounds}
use Rattle.rules.specs.declared.Stepped.{Stepped}
use Rattle.rules.specs.Step.{checks_of, effect_of}
use Rattle.step.proofs.StepsByTests.{turned_away, turned_by, let_through, number_input, number_before, number_need, number_after, not_met, was_met, unjudged_number, unjudged_met, unjudged_field, unjudged_turned}
use Rattle.step.proofs.course.Given.{Over}
use Rattle.step.proofs.course.Goals.{In_default, In_default-require, After-unjudged-s, Else-a-ne0, After-judge_after}
use Rattle.step.proofs.course.Goals as goal

-- ---- what is known where a test is passed
allowed : (g : Over) (c : In_default g) → input_number c.args.r ≡ 0
allowed g c = sym c.in_default.ensures

bounded : (g : Over) (c : In_default-require g) → within_bounds c.args.f ≡ true
unfolding number_of
bounded g c = sym (c.requires.before (sym c.in_default.ensures) _ c.judge_before.ensures) ∙ was_met _ c.in_default-require.ensures (λ e. omega arith)

-- the number of the step that is not judged is that of the needs
need : (g : Over) (c : After-unjudged-s g) → c.unjudged-s.result.answer.number ≡ first_refused (checks_of c.args.f c.args.r)
need g c = let a = c.args in ap (λ (s : Stepped). s.answer.number) c.unjudged-s.ensures ∙ unjudged_number a.f a.r

met : (g : Over) (c : Else-a-ne0 g) → first_refused (checks_of c.args.f c.args.r) ≡ 0
met g c = sym (need g (goal.at.Else-a-ne0 g c).After-unjudged-s) ∙ c.if-a-ne0.false

after : (g : Over) (c : Else-a-ne0 g) → c.unjudged-s.result.field ≡ effect_of c.args.f c.args.r
after g c = let a = c.args in ap (λ (s : Stepped). s.field) c.unjudged-s.ensures ∙ unjudged_field a.f a.r (met g c)

judged : (g : Over) (c : After-judge_after g) → c.judge_after.result ≡ within_bounds (effect_of c.args.f c.args.r)
judged g c =
    let at = goal.at.After-judge_after g c in
    let is = after g at.Else-a-ne0 in
    c.requires.after (allowed g at.In_default) (bounded g at.In_default-require) (met g at.Else-a-ne0) _ is _ c.judge_after.ensures ∙ ap within_bounds is

-- ---- each return
pub returns-in-Err : goal.returns-in-Err
returns-in-Err g c =
    let a = c.args in
    turned_by a.f a.r _ c.turned_away.ensures c.number.ensures (number_input a.f a.r c.in-Err.ensures (number_some _))

pub returns-in-Err-require : goal.returns-in-Err-require
unfolding number_of
returns-in-Err-require g c =
    let a = c.args in
    let i = allowed g (goal.at.returns-in-Err-require g c).In_default in
    let broken = not_met _ _ c.in-Err-require.ensures in
    turned_by a.f a.r _ c.turned_away-in-Err-require.ensures c.number-in-Err-require.ensures (number_before a.f a.r i (sym (c.requires.before i _ c.judge_before.ensures) ∙ broken.0) ∙ sym broken.1)

pub returns-then-a-ne0 : goal.returns-then-a-ne0
returns-then-a-ne0 g c =
    let a = c.args in
    let at = goal.at.returns-then-a-ne0 g c in
    let some : first_refused (checks_of a.f a.r) ≡ 0 → ⊥ = λ z. c.if-a-ne0.true (need g at.After-unjudged-s ∙ z) in
    c.unjudged-s.ensures ∙ unjudged_turned a.f a.r some ∙ turned_away a.f a.r (number_need a.f a.r (allowed g at.In_default) (bounded g at.In_default-require) refl some) some

pub returns-in-Err-require-2 : goal.returns-in-Err-require-2
unfolding number_of
returns-in-Err-require-2 g c =
    let a = c.args in
    let at = goal.at.returns-in-Err-require-2 g c in
    let broken = not_met _ _ c.in-Err-require-2.ensures in
    turned_by a.f a.r _ c.turned_away-in-Err-require-2.ensures c.number-in-Err-require-2.ensures
    (number_after a.f a.r (allowed g at.In_default) (bounded g at.In_default-require) (met g at.Else-a-ne0) (sym (judged g at.After-judge_after) ∙ broken.0) ∙ sym broken.1)

pub returns : goal.returns
unfolding number_of
returns g c =
    let a = c.args in
    let at = goal.at.returns g c in
    let zero = number_after a.f a.r (allowed g at.In_default) (bounded g at.In_default-require) (met g at.Else-a-ne0) (sym (judged g at.After-judge_after) ∙ was_met _ c.in_default-require-2.ensures (λ e. omega arith)) in
    c.unjudged-s.ensures ∙ unjudged_met a.f a.r (met g at.Else-a-ne0) ∙ let_through a.f a.r zero
