-- On a field within the bounds the index is kept by every request; and demand 3 and exactness hold of the field with its index. Assumes nothing.
use mathlib.Core.Path.{◌≡◌, sym, ap, ◌∙◌, subst⁻¹}
use mathlib.Core.Logic.{◌⊎◌, inl, inr}
use mathlib.Core.List.{List}
use lib.Dec.{T, eqb}
use borrow.Author.Tests.{eqb-true, eqb-false}
use Rattle.request.specs.declared.Request.{Request}
use Rattle.field.specs.declared.Field.{Field}
use Rattle.field.proofs.TestLaws.{pass, decided}
use Rattle.bounds.specs.Bounds.{within_bounds}
use Rattle.finder.specs.declared.Indexed.{Indexed}
use Rattle.finder.specs.Finder.{index_of, within_bounds_indexed}
use Rattle.finder.proofs.IndexLaws.{found_as_looked, indexed_as_looked}
use Rattle.rules.specs.declared.Answer.{Answer}
use Rattle.rules.specs.Step.{number_of, step_of}
use Rattle.rules.specs.Start.{empty_start}
use Rattle.rules.specs.Play.{field_after, played}
use Rattle.rules.proofs.StepLaws.{number_is, field_accepted, field_refused}
use Rattle.rules.proofs.Refusals.{accepted_within}
use Rattle.demand.specs.Demand.{Demand3Of}
use Rattle.demand.specs.Exact.{ExactOf}
use Rattle.reason.proofs.Reason.{start_sound, sound_after}
use Rattle.demand.proofs.Demand.{demand_3}
use Rattle.demand.proofs.Exact.{exactness}
use Rattle.indexed.specs.declared.SteppedIndexed.{SteppedIndexed}
use Rattle.indexed.specs.Indexed.{with_index, step_indexed, played_indexed, indexed_after}
use Rattle.indexed.proofs.StepsIndexed.{field_within, index_own, tick_leaves}
use Rattle.indexed.proofs.Own.{within_own, step_own, played_own, after_own}
use Rattle.index_kept.specs.IndexKept.{SaysAsLooked, IndexKept, Demand3IndexedOf, Demand3Indexed, ExactIndexed}

-- a field within the bounds is so with its own index
own_within : (f : Field) → T (within_bounds f) → T (within_bounds_indexed (with_index f))
own_within f t = subst⁻¹ T (within_own f) t

-- ---- one request
module _ (x : Indexed) (w : T (within_bounds_indexed x)) (r : Request) where
  abbrev f : Field
  f = x.field

  own : x ≡ with_index f
  unfolding with_index
  own i = record { field = x.field; index = index_own x w i }

  step_is : step_indexed x r ≡ record { answer = (step_of f r).answer; after = with_index (step_of f r).field }
  step_is = ap (λ (y : Indexed). step_indexed y r) own ∙ step_own f r

  stays_within : T (within_bounds (step_of f r).field)
  stays_within =
      elim (decided (eqb (number_of f r) 0)) [
        | inl e ↦ accepted_within f r (number_is f r ∙ eqb-true (number_of f r) 0 e)
        | inr e ↦ subst⁻¹ (λ (g : Field). T (within_bounds g)) (field_refused f r (eqb-false (number_of f r) 0 e)) (pass (field_within x w))
      ]

  -- the index after it is that of the field after it
  index_is : (step_indexed x r).after.index ≡ index_of (step_of f r).field
  unfolding with_index
  index_is = ap (λ (s : SteppedIndexed). s.after.index) step_is

  refused_leaves : (number_of f r ≡ 0 → ⊥) → (step_indexed x r).after.index ≡ x.index
  refused_leaves h = index_is ∙ ap index_of (field_refused f r h) ∙ sym (index_own x w)

  leaves : ((step_indexed x r).answer.number ≡ 0 → ⊥) ⊎ (r.kind ≡ 12) → (step_indexed x r).after.index ≡ x.index
  leaves (inl h) = refused_leaves (λ e. h (ap (λ (s : SteppedIndexed). s.answer.number) step_is ∙ number_is f r ∙ e))
  leaves (inr k) =
      elim (decided (eqb (number_of f r) 0)) [
        | inl e ↦ index_is ∙ ap index_of (field_accepted f r (eqb-true (number_of f r) 0 e)) ∙ sym (tick_leaves x w r k)
        | inr e ↦ refused_leaves (eqb-false (number_of f r) 0 e)
      ]

  -- On every field within the bounds, and after every request on one, the index says of every number what a look through the queues says, and
  -- the answer and the field are those without it. A refusal and a tick leave it.
  pub index_kept : IndexKept x r
  unfolding with_index
  index_kept =
      record {
        before = indexed_as_looked x w;
        after = subst⁻¹ (λ (s : SteppedIndexed). SaysAsLooked s.after) step_is (found_as_looked (step_of f r).field stays_within);
        same_answer = ap (λ (s : SteppedIndexed). s.answer) step_is;
        same_field = ap (λ (s : SteppedIndexed). s.after.field) step_is;
        still_within = subst⁻¹ (λ (s : SteppedIndexed). T (within_bounds_indexed s.after)) step_is (own_within (step_of f r).field stays_within);
        leaves = leaves;
      }

-- ---- any list
module _ (f : Field) (t : T (empty_start f)) (rs : List Request) where
  reached_within : T (within_bounds (field_after f rs))
  reached_within = (sound_after f (start_sound f t) rs).bounds

  indexed_demand : Demand3IndexedOf f rs
  unfolding with_index
  indexed_demand =
      record {
        holds =
            subst⁻¹ (λ (ps : List (Request × Answer)). Demand3Of ps (indexed_after (with_index f) rs).field) (played_own f rs)
            (subst⁻¹ (λ (y : Indexed). Demand3Of (played f rs) y.field) (after_own f rs) (demand_3 f t rs));
        goes_on = λ more. subst⁻¹ (λ (y : Indexed). played_indexed y more ≡ played y.field more) (after_own f rs) (played_own (field_after f rs) more);
        still_within = subst⁻¹ (λ (y : Indexed). T (within_bounds_indexed y)) (after_own f rs) (own_within (field_after f rs) reached_within);
        says = subst⁻¹ SaysAsLooked (after_own f rs) (found_as_looked (field_after f rs) reached_within);
      }

-- Demand 3 holds of the field with its index, over every list of requests from an empty one.
pub demand_3_indexed : Demand3Indexed
demand_3_indexed f t rs = indexed_demand f t rs

-- So does exactness, where the legs are whole 64ths.
pub exactness_indexed : ExactIndexed
unfolding with_index
exactness_indexed w f t l rs =
    subst⁻¹ (λ (ps : List (Request × Answer)). ExactOf w ps (indexed_after (with_index f) rs).field) (played_own f rs)
    (subst⁻¹ (λ (y : Indexed). ExactOf w (played f rs) y.field) (after_own f rs) (exactness w f t l rs))
