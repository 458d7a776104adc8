-- `press::press` meets its contract: a field that breaks a bound is refused, else the first candidate that is accepted is played. Assumes nothing.
use mathlib.Core.Path.{sym, ap, ◌∙◌}
use Rattle.field.proofs.TestParts.{holds, fails}
use Rattle.field.proofs.TestLaws.{pass}
use Rattle.press.specs.declared.Proposal.TheVariants.{Refused}
use Rattle.press.specs.Press.{pressed_by, press_of}
use Rattle.press.proofs.Proposals.{proposal_is, proposal_refused}
use Rattle.press.proofs.press.Goals as goal

pub returns-then-not-within_bounds : goal.returns-then-not-within_bounds
unfolding press_of
returns-then-not-within_bounds c =
    let f = c.args.f in
    (λ i. record { proposal = Refused; stepped = c.turned_away.ensures i })
    ∙ sym (ap (pressed_by f) (proposal_refused f (fails c.within_bounds.ensures c.if-not-within_bounds.true-raw)))

pub first_accepted-requires : goal.first_accepted-requires
first_accepted-requires c = pass (holds c.within_bounds.ensures c.if-not-within_bounds.false-raw)

pub returns : goal.returns
unfolding press_of
returns c =
    let f = c.args.f in
    c.first_accepted.ensures ∙ sym (ap (pressed_by f) (proposal_is f (pass (holds c.within_bounds.ensures c.if-not-within_bounds.false-raw))))
