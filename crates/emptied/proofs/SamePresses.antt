-- The button on two fields with the same queues: it proposes and plays the same requests, and ends the same way. Assumes nothing.
use mathlib.Core.Path.{◌≡◌, refl, sym, ap, ◌∙◌, subst⁻¹}
use mathlib.Core.Bool.{cond}
use mathlib.Core.List.{List, [], ◌∷◌}
use Prim.Native.Nat.{ℕ, zero, suc, ◌≤◌}
use lib.Dec.{eqb}
use lib.ListN.{length}
use Rattle.limits.specs.Limits.{most_moves, most_ticks, most_presses}
use Rattle.request.specs.declared.Request.{Request}
use Rattle.field.specs.declared.Aircraft.{Aircraft}
use Rattle.field.specs.declared.Field.{Field}
use Rattle.laws.proofs.SameQueues.{Same}
use Rattle.rules.specs.declared.Answer.{Answer}
use Rattle.rules.specs.Step.{number_of, step_of}
use Rattle.rules.specs.Play.{field_after, played, moves}
use Rattle.rules.proofs.SameStep.{at_same, present_same, bounds_same, number_same, step_same, played_same, after_same}
use Rattle.press.specs.declared.Proposal.{Proposal}
use Rattle.press.specs.declared.Proposal.TheVariants.{Refused, None, Play}
use Rattle.press.specs.declared.Ending.TheVariants as ending
use Rattle.press.specs.Press.{candidates, head_move, long_tick, first_accepted, proposal_of}
use Rattle.press.specs.HeldDown.{then_pressed, presses, held_requests, held_of}
use Rattle.press.proofs.Pressing.{presses_none, presses_more}
use Rattle.emptied.specs.Emptied.{ticks_in_a_row, EmptiedOn}

-- ---- what is proposed
module _ {f g : Field} (s : Same f g) where
  head_same : (c : ℕ × ℕ) → head_move f c ≡ head_move g c
  head_same c = ap (λ (a : Aircraft). record { kind = c.0; side = 0; number = a.number; amount = 0; desk = a.desk }) (at_same s c.1 1)

  first_same : (cs : List (ℕ × ℕ)) → first_accepted f cs ≡ first_accepted g cs
  first_same [] = ap (λ (n : ℕ). cond (eqb n 0) None (Play long_tick)) (present_same s)
  first_same (c ∷ cs) =
      let number : number_of f (head_move f c) ≡ number_of g (head_move g c) = ap (number_of f) (head_same c) ∙ number_same s (head_move g c) in
      let others = first_same cs in
      λ i. cond (eqb (number i) 0) (Play (head_same c i)) (others i)

  proposal_same : proposal_of f ≡ proposal_of g
  unfolding proposal_of
  proposal_same = λ i. cond (bounds_same s i) (first_same candidates i) Refused

-- ---- the button held down
then_same : (p : Proposal) {others these : Request → List Request} → ((r : Request) → others r ≡ these r) → then_pressed p others ≡ then_pressed p these
then_same Refused e = refl
then_same None e = refl
then_same (Play r) e = ap (λ (rs : List Request). r ∷ rs) (e r)

presses_same : (n : ℕ) {f g : Field} → Same f g → presses n f ≡ presses n g
presses_same zero {f} {g} s = presses_none f ∙ sym (presses_none g)
presses_same (suc n) {f} {g} s =
    presses_more n f ∙ ap (λ (p : Proposal). then_pressed p (λ r. presses n (step_of f r).field)) (proposal_same s)
    ∙ then_same (proposal_of g) (λ r. presses_same n (step_same s r)) ∙ sym (presses_more n g)

pub emptied_same : {f g : Field} → Same f g → EmptiedOn g → EmptiedOn f
unfolding held_requests held_of
emptied_same {f} {g} s e =
    let rs : presses most_presses f ≡ presses most_presses g = presses_same most_presses s in
    let ended : Same (field_after f (presses most_presses f)) (field_after g (presses most_presses g)) =
    subst⁻¹ (λ (l : List Request). Same (field_after f l) (field_after g (presses most_presses g))) rs (after_same s (presses most_presses g)) in
    let answers : played f (presses most_presses f) ≡ played g (presses most_presses g) = ap (played f) rs ∙ played_same s (presses most_presses g) in
    record {
      ending = (λ i. cond (bounds_same s i) (cond (eqb (present_same ended i) 0) ending.None ending.Spent) ending.Refused) ∙ e.ending;
      nobody = present_same ended ∙ e.nobody;
      few = subst⁻¹ (λ (l : List Request). length l ≤ most_presses) rs e.few;
      few_moves = subst⁻¹ (λ (ps : List (Request × Answer)). moves ps ≤ most_moves) answers e.few_moves;
      few_ticks = subst⁻¹ (λ (l : List Request). ticks_in_a_row l ≤ most_ticks) rs e.few_ticks;
    }
