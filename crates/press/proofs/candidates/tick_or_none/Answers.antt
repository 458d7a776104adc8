-- `press::candidates::tick_or_none` meets its contract: a tick on a field within the bounds is answered neither 10 nor 25. Assumes nothing.
use mathlib.Core.Path.{sym, ap, ◌∙◌}
use native.Mathlib.Omega.{arith}
use Rattle.field.proofs.TestParts.{is, is_not}
use Rattle.field.proofs.TestLaws.{if_true, if_false}
use Rattle.press.specs.declared.Proposal.TheVariants.{None, Play}
use Rattle.press.specs.Press.{long_tick, pressed_by}
use Rattle.press.proofs.Proposals.{tick_accepted}
use Rattle.press.proofs.candidates.tick_or_none.Goals as goal

pub returns-then-present_on-eq0 : goal.returns-then-present_on-eq0
returns-then-present_on-eq0 c =
    let f = c.args.f in
    let none = if_true None (Play long_tick) (is c.present_on.ensures c.if-present_on-eq0.true) in
    (λ i. record { proposal = None; stepped = c.turned_away.ensures i }) ∙ sym (ap (pressed_by f) none)

pub step_unjudged-requires : goal.step_unjudged-requires
step_unjudged-requires c =
    let e = tick_accepted _ c.requires in
    ((λ q. omega (arith, e)), (λ q. omega (arith, e)))

pub returns : goal.returns
returns c =
    let f = c.args.f in
    let ticks = if_false None (Play long_tick) (is_not c.present_on.ensures c.if-present_on-eq0.false) in
    (λ i. record { proposal = Play long_tick; stepped = c.step_unjudged.ensures i }) ∙ sym (ap (pressed_by f) ticks)
