-- A field with its own index beside it is answered as the field, any field at all, and what comes after has its own index. Assumes nothing.
use mathlib.Core.Path.{◌≡◌, refl, sym, ap, ◌∙◌}
use mathlib.Core.Logic.{inl, inr}
use mathlib.Core.Bool.{Bool, true, false, cond, ◌&&◌}
use mathlib.Core.List.{List, [], ◌∷◌}
use Prim.Native.Nat.{ℕ}
use lib.Dec.{eqb}
use borrow.Author.Tests.{eqb-false}
use Rattle.request.specs.Input.{input_number}
use Rattle.request.specs.declared.Request.{Request}
use Rattle.field.specs.declared.Field.{Field}
use Rattle.field.proofs.TestLaws.{decided, if_true, if_false, same}
use Rattle.bounds.specs.Bounds.{within_bounds}
use Rattle.finder.specs.declared.Entry.{Entry}
use Rattle.finder.specs.Finder.{index_of, same_entry, are_the_same_entries, same_index, within_bounds_indexed}
use Rattle.rules.specs.declared.Answer.{Answer}
use Rattle.rules.specs.declared.Stepped.{Stepped}
use Rattle.rules.specs.Step.{number_of, number_and_zeros, step_of}
use Rattle.rules.specs.Play.{field_after, played}
use Rattle.step.proofs.StepsByTests.{number_by, turned_away}
use Rattle.indexed.specs.declared.SteppedIndexed.{SteppedIndexed}
use Rattle.indexed.specs.Indexed.{with_index, number_indexed, step_indexed, played_indexed, indexed_after}

-- ---- the bounds
same_entries : (es : List Entry) → are_the_same_entries es es ≡ true
unfolding same_entry
same_entries [] = refl
same_entries (e ∷ es) =
    ap (λ (t : Bool). t && eqb e.zone e.zone && eqb e.place e.place && are_the_same_entries es es) (same e.number)
    ∙ ap (λ (t : Bool). t && eqb e.place e.place && are_the_same_entries es es) (same e.zone)
    ∙ ap (λ (t : Bool). t && are_the_same_entries es es) (same e.place)
    ∙ same_entries es

-- A field with its own index is within the bounds where the field is.
pub within_own : (f : Field) → within_bounds_indexed (with_index f) ≡ within_bounds f
unfolding within_bounds_indexed with_index same_index
within_own f = ap (λ (t : Bool). within_bounds f && t) (same_entries (index_of f).entries) ∙ and_true (within_bounds f)
  where
    and_true : (b : Bool) → (b && true) ≡ b
    and_true true = refl
    and_true false = refl

-- ---- one request

-- Its number is that on the field, ..
pub number_own : (f : Field) (r : Request) → number_indexed (with_index f) r ≡ number_of f r
unfolding number_indexed with_index
number_own f r =
    ap (λ (b : Bool). cond (eqb (input_number r) 0) (cond b (number_of f r) 10) (input_number r)) (within_own f)
    ∙ go (eqb (input_number r) 0) refl (within_bounds f) refl
  where
    go : (a : Bool) → eqb (input_number r) 0 ≡ a → (b : Bool) → within_bounds f ≡ b → cond a (cond b (number_of f r) 10) (input_number r) ≡ number_of f r
    go true e true w = refl
    go true e false w = sym (number_by f r ∙ if_true _ _ e ∙ if_false _ _ w)
    go false e b w = sym (number_by f r ∙ if_false _ _ e)

-- .. and its answer too; the field after it is that of the field, with its own index.
pub step_own : (f : Field) (r : Request) → step_indexed (with_index f) r ≡ record { answer = (step_of f r).answer; after = with_index (step_of f r).field }
unfolding step_indexed with_index
step_own f r =
    ap (λ (n : ℕ). cond (eqb n 0) accepted (record { answer = number_and_zeros n; after = with_index f })) (number_own f r)
    ∙ elim (decided (eqb (number_of f r) 0)) [
      | inl e ↦ if_true _ _ e
      | inr e ↦ if_false _ _ e ∙ ap (λ (s : Stepped). record { answer = s.answer; after = with_index s.field }) (turned_away f r {n = number_of f r} refl (eqb-false (number_of f r) 0 e))
    ]
  where
    accepted : SteppedIndexed
    accepted = record { answer = (step_of f r).answer; after = with_index (step_of f r).field }

-- ---- any list

-- The answers are those on the field, ..
pub played_own : (f : Field) (rs : List Request) → played_indexed (with_index f) rs ≡ played f rs
played_own f [] = refl
played_own f (r ∷ rs) =
    ap (λ (s : SteppedIndexed). (r, s.answer) ∷ played_indexed s.after rs) (step_own f r)
    ∙ ap (λ (ps : List (Request × Answer)). (r, (step_of f r).answer) ∷ ps) (played_own (step_of f r).field rs)

-- .. and the field after it is that of the field, with its own index.
pub after_own : (f : Field) (rs : List Request) → indexed_after (with_index f) rs ≡ with_index (field_after f rs)
after_own f [] = refl
after_own f (r ∷ rs) = ap (λ (s : SteppedIndexed). indexed_after s.after rs) (step_own f r) ∙ after_own (step_of f r).field rs
