-- `indexed::step_indexed_unjudged` meets its contract: a number that is neither 10 nor 25 says that the bounds hold before and after. Assumes nothing.
use mathlib.Core.Path.{◌≡◌, sym, ap, ◌∙◌}
use mathlib.Core.Logic.{inl, inr}
use mathlib.Core.Bool.{true}
use borrow.Author.Rules.{rules}
use Rattle.request.specs.Input.{input_number}
use Rattle.bounds.specs.Bounds.{within_bounds}
use Rattle.finder.specs.Finder.{within_bounds_indexed}
use Rattle.field.proofs.TestLaws.{decided}
use Rattle.step.proofs.StepsByTests.{within_after}
use Rattle.indexed.proofs.StepsIndexed.{number_10, number_within}
use Rattle.indexed.proofs.step_indexed_unjudged.Goals.{Start}
use Rattle.indexed.proofs.step_indexed_unjudged.Goals as goal

bounded : (c : Start) → input_number c.args.r ≡ 0 → within_bounds_indexed c.args.x ≡ true
bounded c i =
    elim (decided (within_bounds_indexed c.args.x)) [
      | inl e ↦ e
      | inr e ↦ absurd (c.requires.0 (number_10 c.args.x c.args.r i e))
    ]

pub step_by_index-requires-clause-before : goal.step_by_index-requires-clause-before
step_by_index-requires-clause-before c = λ i b said. let yes : b ≡ true = search rules in yes ∙ sym (bounded c i)

pub step_by_index-requires-clause-after : goal.step_by_index-requires-clause-after
step_by_index-requires-clause-after c =
    let a = c.args in
    λ i w m g e b said.
    let yes : b ≡ true = search rules in
    yes ∙ sym (ap within_bounds e ∙ within_after a.x.field a.r i (λ n. c.requires.1 (number_within a.x a.r i (bounded c i) ∙ n)) w m)
