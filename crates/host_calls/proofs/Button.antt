-- The button on a history within the bounds is the button on its field: it plays the same requests, ends the same way, and leaves the same field; and what it
-- plays is asked as any other request. Assumes nothing.
use mathlib.Core.Path.{◌≡◌, refl, sym, ap, ◌∙◌}
use mathlib.Core.Logic.{inl, inr}
use mathlib.Core.Bool.{Bool, true, cond}
use mathlib.Core.List.{List, [], ◌∷◌, map}
use Prim.Native.Nat.{ℕ, zero, suc}
use native.Mathlib.Omega.{arith}
use lib.Dec.{eqb, ltb}
use lib.ListN.{length, length-set}
use borrow.Author.Tests.{eqb-true, eqb-false}
use Rattle.limits.specs.Limits.{most_presses, most_kept}
use Rattle.request.specs.Input.{input_number}
use Rattle.request.specs.declared.Request.{Request}
use Rattle.request.proofs.InputTests.{both_right}
use Rattle.field.specs.declared.Field.{Field}
use Rattle.field.proofs.TestLaws.{passed, pass, decided, either_way, if_true, if_false}
use Rattle.finder.specs.Finder.{within_bounds_indexed}
use Rattle.bounds.specs.Bounds.{within_bounds}
use Rattle.rules.specs.Step.{number_of, number_and_zeros, step_of}
use Rattle.rules.specs.Play.{field_after}
use Rattle.rules.proofs.StepLaws.{number_is, field_refused}
use Rattle.rules.proofs.Refusals.{accepted_within}
use Rattle.step.proofs.StepsByTests.{number_by}
use Rattle.indexed.specs.Indexed.{with_index}
use Rattle.indexed.proofs.StepsIndexed as indexed
use Rattle.indexed.proofs.Own.{within_own}
use Rattle.history.specs.declared.History.{History}
use Rattle.history.specs.declared.SteppedHistory.{SteppedHistory}
use Rattle.history.specs.History.{kept_within_bounds, within_bounds_history, keeping, number_history, step_history}
use Rattle.history.proofs.StepNumbers as numbers
use Rattle.history.proofs.MovedUp.{moved_length}
use Rattle.press.specs.declared.Proposal.{Proposal}
use Rattle.press.specs.declared.Proposal.TheVariants.{Refused, None, Play}
use Rattle.press.specs.declared.Ending.TheVariants as ending
use Rattle.press.specs.Press.{proposal_of}
use Rattle.press.specs.HeldDown.{then_pressed, presses, held_requests, ending_on, held_of}
use Rattle.press_kept.specs.PressKept.{proposal_kept, presses_kept, after_asked, ending_kept, held_kept}
use Rattle.press_kept.proofs.PressingKept.{kept_proposed}
use Rattle.taken_back.specs.Calls as calls
use Rattle.taken_back.specs.Calls.{after_calls}
use Rattle.taken_back.proofs.GivenBack.{keeping_within}

-- ---- every request leaves as many places for kept fields as there were
pub step_places : (h : History) (r : Request) → length h.kept ≡ most_kept → length (step_history h r).after.kept ≡ most_kept
unfolding step_history keeping
step_places h r e =
    let next = with_index (step_of h.now.field r).field in
    either_way (λ (s : SteppedHistory). length s.after.kept ≡ most_kept) (eqb (number_history h r) 0) _ _
    (λ b.
    either_way (λ (g : History). length g.kept ≡ most_kept) (ltb h.count most_kept) _ _
    (λ c. length-set h.kept h.count h.now ∙ e)
    (λ c. moved_length h.kept h.now (omega (arith, e)) ∙ e))
    (λ b. e)

-- ---- one request on a history within the bounds
module _ (h : History) (w : within_bounds_history h ≡ true) where
  abbrev f : Field
  f = h.now.field

  pub now_within : within_bounds_indexed h.now ≡ true
  unfolding within_bounds_history
  now_within = both_right (kept_within_bounds h) (within_bounds_indexed h.now) w

  pub field_within : within_bounds f ≡ true
  field_within = indexed.field_within h.now (pass now_within)

  -- it has the number that it has on the field, ..
  pub number_same : (r : Request) → number_history h r ≡ number_of f r
  unfolding number_history
  number_same r =
      ap (λ (b : Bool). cond (eqb (input_number r) 0) (cond b (number_of f r) 10) (input_number r)) w
      ∙ elim (decided (eqb (input_number r) 0)) [
        | inl e ↦ if_true _ _ e
        | inr e ↦ if_false _ _ e ∙ sym (number_by f r ∙ if_false _ _ e)
      ]

  -- .. is answered with it, ..
  pub answered_same : (r : Request) → (step_history h r).answer.number ≡ number_of f r
  unfolding number_and_zeros
  answered_same r =
      elim (decided (eqb (number_of f r) 0)) [
        | inl e ↦ sym (ap (λ (s : SteppedHistory). s.answer.number) (numbers.let_through h r (number_same r ∙ eqb-true (number_of f r) 0 e))) ∙ number_is f r
        | inr e ↦ sym (ap (λ (s : SteppedHistory). s.answer.number) (numbers.turned_away h r (number_same r) (eqb-false (number_of f r) 0 e)))
      ]

  -- .. and leaves the same field
  pub field_same : (r : Request) → (step_history h r).after.now.field ≡ (step_of f r).field
  unfolding with_index keeping
  field_same r =
      elim (decided (eqb (number_of f r) 0)) [
        | inl e ↦ sym (ap (λ (s : SteppedHistory). s.after.now.field) (numbers.let_through h r (number_same r ∙ eqb-true (number_of f r) 0 e))) ∙ kept_field (step_of f r).field
        | inr e ↦
            let n = eqb-false (number_of f r) 0 e in
            sym (ap (λ (s : SteppedHistory). s.after.now.field) (numbers.turned_away h r (number_same r) n)) ∙ sym (field_refused f r n)
      ]
    where
      kept_field : (g : Field) → (keeping h (with_index g)).now.field ≡ g
      kept_field g = either_way (λ (k : History). k.now.field ≡ g) (ltb h.count most_kept) _ _ (λ e. refl) (λ e. refl)

  pub proposed_same : proposal_kept h ≡ proposal_of f
  proposed_same = sym (kept_proposed h w)

  -- the bounds hold after it
  pub step_within : length h.kept ≡ most_kept → (r : Request) → within_bounds_history (step_history h r).after ≡ true
  step_within k r =
      elim (decided (eqb (number_of f r) 0)) [
        | inl e ↦
            let z = eqb-true (number_of f r) 0 e in
            sym (ap (λ (s : SteppedHistory). within_bounds_history s.after) (numbers.let_through h r (number_same r ∙ z)))
            ∙ keeping_within h k w (with_index (step_of f r).field) (within_own (step_of f r).field ∙ passed (accepted_within f r (number_is f r ∙ z)))
        | inr e ↦ sym (ap (λ (s : SteppedHistory). within_bounds_history s.after) (numbers.turned_away h r (number_same r) (eqb-false (number_of f r) 0 e))) ∙ w
      ]

-- ---- a list of requests asked one after the other

pub asked_same : (h : History) → length h.kept ≡ most_kept → within_bounds_history h ≡ true → (rs : List Request) → (after_asked h rs).now.field ≡ field_after h.now.field rs
unfolding after_asked
asked_same h k w [] = refl
asked_same h k w (r ∷ rs) =
    asked_same (step_history h r).after (step_places h r k) (step_within h w k r) rs ∙ ap (λ (g : Field). field_after g rs) (field_same h w r)

pub asked_within : (h : History) → length h.kept ≡ most_kept → within_bounds_history h ≡ true → (rs : List Request) → within_bounds_history (after_asked h rs) ≡ true
unfolding after_asked
asked_within h k w [] = w
asked_within h k w (r ∷ rs) = asked_within (step_history h r).after (step_places h r k) (step_within h w k r) rs

-- they are so many calls
pub asked_calls : (h : History) (rs : List Request) → after_asked h rs ≡ after_calls h (map calls.request rs)
unfolding after_asked
asked_calls h [] = refl
asked_calls h (r ∷ rs) = asked_calls (step_history h r).after rs

-- ---- the button held down

pub presses_same : (n : ℕ) (h : History) → length h.kept ≡ most_kept → within_bounds_history h ≡ true → presses_kept n h ≡ presses n h.now.field
unfolding presses_kept presses
presses_same zero h k w = refl
presses_same (suc n) h k w =
    ap (λ (p : Proposal). then_pressed p (λ r. presses_kept n (step_history h r).after)) (proposed_same h w)
    ∙ then_same (proposal_of h.now.field) (λ r. presses_same n (step_history h r).after (step_places h r k) (step_within h w k r) ∙ ap (presses n) (field_same h w r))
  where
    then_same : (p : Proposal) {others these : Request → List Request} → ((r : Request) → others r ≡ these r) → then_pressed p others ≡ then_pressed p these
    then_same Refused e = refl
    then_same None e = refl
    then_same (Play r) e = ap (λ (rs : List Request). r ∷ rs) (e r)

-- what it reports is what it reports on the field
pub record HeldSame (h : History) : Type 0 where
  pub ending : (held_kept h).ending ≡ (held_of h.now.field).ending
  pub played : (held_kept h).played ≡ (held_of h.now.field).played
  pub field : (held_kept h).after.now.field ≡ (held_of h.now.field).field

pub held_same : (h : History) → length h.kept ≡ most_kept → within_bounds_history h ≡ true → HeldSame h
unfolding held_kept held_of held_requests
held_same h k w =
    let f = h.now.field in
    let rs = presses_same most_presses h k w in
    let after : (after_asked h (presses_kept most_presses h)).now.field ≡ field_after f (presses most_presses f) = asked_same h k w (presses_kept most_presses h) ∙ ap (field_after f) rs in
    record {
      ending =
          ap (λ (b : Bool). ending_kept b (after_asked h (presses_kept most_presses h)).now.field) w
          ∙ ap ending_on after
          ∙ sym (ap (λ (b : Bool). cond b (ending_on (field_after f (presses most_presses f))) ending.Refused) (field_within h w));
      played = ap length rs;
      field = after;
    }
