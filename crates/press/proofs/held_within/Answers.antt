-- `press::held_within` meets its contract. The loop's invariant is `Pressing`: what is left of the presses leads to the same field, count and
-- lines as all of them from the first field. Assumes nothing.
use mathlib.Core.Path.{◌≡◌, refl, sym, ap, ◌∙◌, subst}
use mathlib.Core.List.{List, []}
use Prim.Native.Nat.{ℕ, zero, suc, ◌+◌, ◌≤◌}
use lib.ListN.{length}
use lib.Dec.{T}
use native.Mathlib.Omega.{arith}
use Rattle.limits.specs.Limits.{most_presses}
use Rattle.field.specs.declared.Field.{Field}
use Rattle.bounds.specs.Bounds.{within_bounds}
use Rattle.request.specs.declared.Request.{Request}
use Rattle.text.specs.Buffer.{Put}
use Rattle.press.specs.declared.Proposal.{Proposal}
use Rattle.press.specs.declared.Proposal.TheVariants.{Refused, None, Play}
use Rattle.press.specs.declared.Pressed.{Pressed}
use Rattle.press.specs.Press.{candidates, first_accepted, proposal_of, played_by, pressed_by}
use Rattle.press.specs.HeldDown.{then_pressed, presses, held_requests, press_line, held_lines}
use Rattle.press.proofs.Proposals.{proposal_is}
use Rattle.press.proofs.Pressing.{Pressing, pressing_none, pressing_more, presses_none, presses_more, last_field, all_played, all_put, all_short, held_is}
use Rattle.press.proofs.held_within.Goals.{else-loop-i-test, then-loop-i-test+in_default, Left-loop-i}
use Rattle.press.proofs.held_within.Goals as goal

-- a proposal that is no request is the last press
no_request : (p : Proposal) (others : Request → List Request) → ((r : Request) → p ≡ Play r → ⊥) → then_pressed p others ≡ []
no_request Refused others t = refl
no_request None others t = refl
no_request (Play r) others t = absurd (t r refl)

ended : (n : ℕ) (f : Field) {p : Pressed} → T (within_bounds f) → p ≡ pressed_by f (first_accepted f candidates) → ((r : Request) → p.proposal ≡ Play r → ⊥) → presses n f ≡ []
ended zero f w e t = presses_none f
ended (suc n) f {p = p} w e t =
    let is = ap (λ (q : Pressed). q.proposal) e ∙ sym (proposal_is f w) in
    presses_more n f ∙ no_request (proposal_of f) _ (subst (λ (q : Proposal). (r : Request) → q ≡ Play r → ⊥) is t)

none_left : (c : Left-loop-i) → presses c.loop-i.invariant.1.left c.loop-i.last ≡ []
none_left c =
    let p = c.loop-i.invariant.1 in
    let f = c.loop-i.last in
    elim c.loop-i-test.branch [
      | else-loop-i-test w ↦ (let z : p.left ≡ 0 = (let h = w.loop-i-test.false in omega (arith, p.total, c.loop-i.invariant.0)) in ap (λ (n : ℕ). presses n f) z ∙ presses_none f)
      | then-loop-i-test+in_default w ↦ ended p.left f p.bounds w.first_accepted-pressed.ensures w.in_default.not-Play
    ]

pub loop-i-init : goal.loop-i-init
loop-i-init c = (refl, pressing_none most_presses c.args.f c.args.out.now c.requires)

pub first_accepted-pressed-requires : goal.first_accepted-pressed-requires
first_accepted-pressed-requires c = c.loop-i.invariant.1.bounds

pub loop-i-preserved : goal.loop-i-preserved
loop-i-preserved c =
    let f = c.loop-i.last in
    let all = c.first_accepted-pressed.ensures in
    let r = c.in-Play.r in
    let e : first_accepted f candidates ≡ Play r = sym (ap (λ (p : Pressed). p.proposal) all) ∙ c.in-Play.is in
    let stepped = ap (λ (p : Pressed). p.stepped) all ∙ ap (played_by f) e in
    let n = c.loop-i.invariant.0 in
    let put = c.put_press-at.ensures in
    let P : ℕ → Type 0 = λ (i : ℕ). Pressing most_presses c.args.f c.args.out.now c.put_press-at.new.out c.first_accepted-pressed.result.stepped.field c.put_press-at.result (i + 1) in (
      refl,
      subst P n (pressing_more most_presses c.args.f c.args.out.now c.loop-i.invariant.1 (omega arith) r e c.first_accepted-pressed.result.stepped stepped
          (subst (λ (i : ℕ). Put c.loop-i.out c.loop-i.at (press_line (i + 1) (r, c.first_accepted-pressed.result.stepped.answer)) c.put_press-at.new.out c.put_press-at.result) (sym n) put.put)
          (subst (λ (i : ℕ). length (press_line (i + 1) (r, c.first_accepted-pressed.result.stepped.answer)) ≤ 147) (sym n) put.a_len_bound)),
    )

pub shape_of-out : goal.shape_of-out
shape_of-out c = c.loop-i.invariant.1.lines.same

pub returns : goal.returns
unfolding held_requests held_lines
returns c =
    let p = c.loop-i.invariant.1 in
    let z = none_left (goal.at.returns c).Left-loop-i in
    let f = c.args.f in
    let out = c.args.out.now in record { held_value = held_is f c.requires c.ending_on.ensures (all_played most_presses f out p z) (last_field most_presses f out p z); put = all_put most_presses f out p z; f_len_bound = all_short most_presses f out p z }
