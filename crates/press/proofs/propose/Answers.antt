-- `press::propose` meets its contract: a field that breaks a bound is refused before anything is proposed. Assumes nothing.
use mathlib.Core.Path.{sym, ap, ◌∙◌}
use Rattle.field.proofs.TestParts.{holds, fails}
use Rattle.field.proofs.TestLaws.{pass}
use Rattle.press.specs.declared.Pressed.{Pressed}
use Rattle.press.proofs.Proposals.{proposal_is, proposal_refused}
use Rattle.press.proofs.propose.Goals as goal

pub returns-then-not-within_bounds : goal.returns-then-not-within_bounds
returns-then-not-within_bounds c = sym (proposal_refused _ (fails c.within_bounds.ensures c.if-not-within_bounds.true-raw))

pub first_accepted-requires : goal.first_accepted-requires
first_accepted-requires c = pass (holds c.within_bounds.ensures c.if-not-within_bounds.false-raw)

pub returns : goal.returns
returns c =
    ap (λ (p : Pressed). p.proposal) c.first_accepted.ensures ∙ sym (proposal_is _ (pass (holds c.within_bounds.ensures c.if-not-within_bounds.false-raw)))
