-- `press_kept::hold_kept` meets its contract. The loop's invariant is `Pressing`: what is left of the presses leads to the same end. Assumes nothing.
use mathlib.Core.Path.{◌≡◌, refl, sym, ap, ◌∙◌, subst}
use mathlib.Core.List.{List, []}
use Prim.Native.Nat.{ℕ, ◌+◌}
use native.Mathlib.Omega.{arith}
use Rattle.request.specs.declared.Request.{Request}
use Rattle.press.specs.declared.Proposal.{Proposal}
use Rattle.press.specs.declared.Proposal.TheVariants.{Refused, None, Play}
use Rattle.press.specs.HeldDown.{then_pressed}
use Rattle.history.specs.declared.History.{History}
use Rattle.press_kept.specs.PressKept.{proposal_kept, presses_kept, ending_kept}
use Rattle.press_kept.proofs.PressingKept.{Pressing, pressing_none, pressing_more, presses_none, presses_ended, reported}
use Rattle.press_kept.proofs.hold_kept.Goals.{Left-loop-i, else-loop-i-test, then-loop-i-test+in_default}
use Rattle.press_kept.proofs.hold_kept.Goals as goal

-- a proposal that is no request is the last press
no_request : (p : Proposal) (others : Request → List Request) → ((r : Request) → p ≡ Play r → ⊥) → then_pressed p others ≡ []
no_request Refused others t = refl
no_request None others t = refl
no_request (Play r) others t = absurd (t r refl)

ended : (n : ℕ) (h : History) {p : Proposal} → p ≡ proposal_kept h → ((r : Request) → p ≡ Play r → ⊥) → presses_kept n h ≡ []
ended n h e t = presses_ended n h (λ others. no_request (proposal_kept h) others (subst (λ (p : Proposal). (r : Request) → p ≡ Play r → ⊥) e t))

none_left : (c : Left-loop-i) → presses_kept c.loop-i.invariant.1.left c.loop-i.last ≡ []
none_left c =
    let p = c.loop-i.invariant.1 in
    let h = c.loop-i.last in
    elim c.loop-i-test.branch [
      | else-loop-i-test w ↦ (let z : p.left ≡ 0 = (let k = w.loop-i-test.false in omega (arith, p.total, c.loop-i.invariant.0)) in ap (λ (n : ℕ). presses_kept n h) z ∙ presses_none h)
      | then-loop-i-test+in_default w ↦ ended p.left h w.propose_kept.ensures w.in_default.not-Play
    ]

pub loop-i-init : goal.loop-i-init
loop-i-init c = (refl, pressing_none c.args.h)

pub loop-i-preserved : goal.loop-i-preserved
loop-i-preserved c =
    let r = c.in-Play.r in
    let n = c.loop-i.invariant.0 in
    let P : ℕ → Type 0 = λ (i : ℕ). Pressing c.args.h c.step_history.result.after (i + 1) in
    (refl, subst P n (pressing_more r c.loop-i.invariant.1 (omega arith) (sym c.propose_kept.ensures ∙ c.in-Play.is) c.step_history.ensures))

pub returns-then-within_bounds_history : goal.returns-then-within_bounds_history
returns-then-within_bounds_history c =
    let ends = c.ending_on-ending.ensures ∙ ap (λ b. ending_kept b c.loop-i.last.now.field) (sym c.if-within_bounds_history.true ∙ c.within_bounds_history.ensures) in
    let told = reported c.loop-i.invariant.1 (none_left (goal.at.returns-then-within_bounds_history c).Left-loop-i) ends in
    record { value = told.0; ending_value = told.1 }

pub returns-else-within_bounds_history : goal.returns-else-within_bounds_history
returns-else-within_bounds_history c =
    let ends = ap (λ b. ending_kept b c.loop-i.last.now.field) (sym c.if-within_bounds_history.false ∙ c.within_bounds_history.ensures) in
    let told = reported c.loop-i.invariant.1 (none_left (goal.at.returns-else-within_bounds_history c).Left-loop-i) ends in
    record { value = told.0; ending_value = told.1 }
