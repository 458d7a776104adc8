-- `needs::check_needs` meets its contract: what stands first, and then what the kind needs besides. Assumes nothing.
use mathlib.Core.Path.{sym, ap, ◌∙◌}
use mathlib.Core.Bool.{Bool}
use Rattle.request.specs.Input.{first_refused}
use Rattle.rules.specs.Kinds.{belongs_to, presence_checks}
use Rattle.rules.specs.Step.{needs_for}
use Rattle.rules.proofs.Checks.{refused_append, presence_refuses}
use Rattle.refusals.proofs.Outcomes.{refused, kept}
use Rattle.needs.proofs.check_needs.Goals as goal

pub returns-in_err-presence_needs : goal.returns-in_err-presence_needs
returns-in_err-presence_needs c =
    let a = c.args in
    let first = presence_checks a.r.kind a.at (belongs_to a.f a.at a.r.desk) in
    let m = c.in_err-presence_needs.ensures ∙ ap (λ (own : Bool). first_refused (presence_checks a.r.kind a.at own)) c.belongs_to.ensures in
    refused _ _ _ m c.from_residual.ensures.1 ∙ sym (refused_append first (needs_for a.r.kind a.f a.r a.at a.ahead) (presence_refuses a.r.kind a.at (belongs_to a.f a.at a.r.desk)))

pub returns : goal.returns
returns c =
    let a = c.args in
    let first = presence_checks a.r.kind a.at (belongs_to a.f a.at a.r.desk) in
    let m = c.in_ok-presence_needs.ensures ∙ ap (λ (own : Bool). first_refused (presence_checks a.r.kind a.at own)) c.belongs_to.ensures in
    kept m c.needs_for.ensures ∙ sym (refused_append first (needs_for a.r.kind a.f a.r a.at a.ahead) (presence_refuses a.r.kind a.at (belongs_to a.f a.at a.r.desk)))
