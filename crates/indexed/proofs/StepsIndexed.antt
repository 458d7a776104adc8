-- The number and the step on a field with an index beside it, and what the index finds on the way. Assumes nothing.
use mathlib.Core.Path.{◌≡◌, refl, sym, ap, ◌∙◌}
use mathlib.Core.Bool.{Bool, true, false, cond}
use Prim.Native.Nat.{ℕ}
use lib.Dec.{T, eqb}
use lib.Ieee.Fits.{and_l, and_r}
use borrow.Author.Tests.{eq-eqb, ne_eqb}
use Rattle.refusals.specs.declared.Refusal.{Refusal}
use Rattle.refusals.specs.Refusals.{number_of as refusal_number}
use Rattle.refusals.proofs.Outcomes.{number_some}
use Rattle.request.specs.Input.{within, input_number}
use Rattle.request.specs.declared.Request.{Request}
use Rattle.field.specs.declared.Field.{Field}
use Rattle.field.proofs.TestLaws.{passed, if_true, if_false}
use Rattle.questions.specs.declared.Place.{Place}
use Rattle.questions.specs.Find.{place_of, leader_of, leader_zone}
use Rattle.bounds.specs.Bounds.{within_bounds}
use Rattle.finder.specs.declared.Indexed.{Indexed}
use Rattle.finder.specs.Finder.{index_of, found_in, same_index, within_bounds_indexed}
use Rattle.finder.proofs.IndexLaws.{same_equal, indexed_as_looked, index_ticked}
use Rattle.rules.specs.declared.Answer.{Answer}
use Rattle.rules.specs.Step.{effect_of, number_of, number_and_zeros, answer_of, step_of}
use Rattle.rules.proofs.StepLaws.{field_accepted, answer_accepted}
use Rattle.rules.proofs.Ticking.{tick_effect}
use Rattle.step.proofs.StepsByTests.{asked}
use Rattle.indexed.specs.declared.SteppedIndexed.{SteppedIndexed}
use Rattle.indexed.specs.Indexed.{with_index, number_indexed, step_indexed}

module _ (x : Indexed) (r : Request) where
  -- the step of a request that is turned away by the number n
  pub turned_away : {n : ℕ} → number_indexed x r ≡ n → (n ≡ 0 → ⊥) → record { answer = number_and_zeros n; after = x } ≡ step_indexed x r
  unfolding step_indexed
  turned_away {n} e h =
      sym
      (ap (λ (m : ℕ). cond (eqb m 0) (record { answer = (step_of x.field r).answer; after = with_index (step_of x.field r).field }) (record { answer = number_and_zeros m; after = x })) e
      ∙ if_false _ _ (ne_eqb n 0 h))

  -- .. and of one that is accepted
  pub let_through : number_indexed x r ≡ 0 → number_of x.field r ≡ 0 → record { answer = answer_of x.field r; after = with_index (effect_of x.field r) } ≡ step_indexed x r
  unfolding step_indexed
  let_through e h =
      ap (λ (a : Answer). record { answer = a; after = with_index (effect_of x.field r) }) (sym (answer_accepted x.field r h))
      ∙ ap (λ (g : Field). record { answer = (step_of x.field r).answer; after = with_index g }) (sym (field_accepted x.field r h))
      ∙ sym (if_true _ _ (eq-eqb (number_indexed x r) 0 e))

  -- the step of a request that is turned away by the number of a reason
  pub turned_by : {s : SteppedIndexed} {n : ℕ} (e : Refusal) → s ≡ record { answer = number_and_zeros n; after = x } → n ≡ refusal_number e → number_indexed x r ≡ refusal_number e
      → s ≡ step_indexed x r
  turned_by e h p k = h ∙ ap (λ (m : ℕ). record { answer = number_and_zeros m; after = x }) p ∙ turned_away k (number_some e)

  -- the number where the input rules are broken, ..
  pub number_input : (input_number r ≡ 0 → ⊥) → number_indexed x r ≡ input_number r
  unfolding number_indexed
  number_input h = if_false _ _ (ne_eqb (input_number r) 0 h)

  -- .. where the bounds are, ..
  pub number_10 : input_number r ≡ 0 → within_bounds_indexed x ≡ false → number_indexed x r ≡ 10
  unfolding number_indexed
  number_10 i w = if_true _ _ (eq-eqb (input_number r) 0 i) ∙ if_false _ _ w

  -- .. and where they are not: that of the field
  pub number_within : input_number r ≡ 0 → within_bounds_indexed x ≡ true → number_indexed x r ≡ number_of x.field r
  unfolding number_indexed
  number_within i w = if_true _ _ (eq-eqb (input_number r) 0 i) ∙ if_true _ _ w

-- a field within the bounds with its own index
module _ (x : Indexed) (w : T (within_bounds_indexed x)) where
  pub field_within : within_bounds x.field ≡ true
  unfolding within_bounds_indexed
  field_within = passed (and_l (within_bounds x.field) (same_index x.index (index_of x.field)) w)

  pub index_own : x.index ≡ index_of x.field
  unfolding within_bounds_indexed
  index_own = same_equal x.index (index_of x.field) (and_r (within_bounds x.field) (same_index x.index (index_of x.field)) w)

  -- the leader is found in its zone, ..
  pub leader_found : (n : ℕ) → (found_in x.index (leader_of x.field.sequence n)).zone ≡ leader_zone x.field n
  unfolding leader_zone found_in
  leader_found n = go (eqb (leader_of x.field.sequence n) 0) refl (ap (λ (p : Place). p.zone) (indexed_as_looked x w (leader_of x.field.sequence n)))
    where
      l : ℕ
      l = leader_of x.field.sequence n

      go : (b : Bool) → eqb l 0 ≡ b → (found_in x.index l).zone ≡ (place_of x.field l).zone → (found_in x.index l).zone ≡ cond b 0 (place_of x.field l).zone
      go true e h = ap (λ (p : Place). p.zone) (if_true _ _ e)
      go false e h = h

  -- .. where the kind asks for it
  pub asked_found : (r : Request) {ahead : ℕ} → ahead ≡ cond (within 4 5 r.kind) (found_in x.index (leader_of x.field.sequence r.number)).zone 0 → ahead ≡ asked x.field r
  asked_found r e = e ∙ ap (λ (z : ℕ). cond (within 4 5 r.kind) z 0) (leader_found r.number)

  -- a tick leaves the index
  pub tick_leaves : (r : Request) → r.kind ≡ 12 → x.index ≡ index_of (effect_of x.field r)
  tick_leaves r k = index_own ∙ sym (ap index_of (tick_effect x.field r k) ∙ index_ticked x.field r.amount)
