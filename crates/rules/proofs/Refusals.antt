-- Of every field and request: a refusal changes nothing, and an accepted request leaves a field within the bounds. Assumes nothing.
use mathlib.Core.Path.{◌≡◌, sym, ap, ◌∙◌}
use mathlib.Core.Bool.{Bool, true}
use mathlib.Core.List.{List, [], ◌∷◌, ◌++◌}
use Prim.Native.Nat.{ℕ}
use native.Mathlib.Omega.{arith}
use lib.Dec.{T}
use borrow.Author.Tests.{ne_eqb, eq-eqb}
use Rattle.request.specs.Input.{first_refused, input_number}
use Rattle.request.specs.declared.Request.{Request}
use Rattle.field.specs.declared.Field.{Field}
use Rattle.bounds.specs.Bounds.{within_bounds}
use Rattle.rules.specs.declared.Stepped.{Stepped}
use Rattle.rules.specs.Step.{checks_of, effect_of, number_of, number_and_zeros, answer_of, step_of, Unchanged}
use Rattle.field.proofs.TestLaws.{pass, if_true, if_false}
use Rattle.rules.proofs.Checks.{first_passes, both_pass, refused_append, checks_refuse}
use Rattle.rules.proofs.StepLaws.{number_is, input_of, field_accepted, field_refused}

-- a refusal has no answer but its number, and leaves the field as it was
pub refused_unchanged : (f : Field) (r : Request) → ((step_of f r).answer.number ≡ 0 → ⊥) → Unchanged f r
unfolding step_of
refused_unchanged f r h =
    let n : number_of f r ≡ 0 → ⊥ = λ e. h (number_is f r ∙ e) in
    record {
      same_field = field_refused f r n;
      zeros =
          ap (λ (s : Stepped). s.answer) (if_false (record { answer = answer_of f r; field = effect_of f r }) (record { answer = number_and_zeros (number_of f r); field = f }) (ne_eqb (number_of f r) 0 n))
          ∙ ap number_and_zeros (sym (number_is f r));
    }

-- ---- an accepted request

-- what an accepted request has passed: the input rules, the bounds on the field handed in, the checks of its kind, the bounds on the field after it
pub record Passes (f : Field) (r : Request) : Type 0 where
  pub input : input_number r ≡ 0
  pub before : within_bounds f ≡ true
  pub checks : first_refused (checks_of f r) ≡ 0
  pub after : within_bounds (effect_of f r) ≡ true

module _ (f : Field) (r : Request) where
  -- a request is accepted where it passes them, ..
  pub accepts : Passes f r → number_of f r ≡ 0
  unfolding number_of
  accepts p =
      let last : List (ℕ × Bool) = (25, within_bounds (effect_of f r)) ∷ [] in
      if_true (first_refused ((10, within_bounds f) ∷ checks_of f r ++ last)) (input_number r) (eq-eqb (input_number r) 0 p.input)
      ∙ if_true (first_refused (checks_of f r ++ last)) 10 p.before
      ∙ refused_append (checks_of f r) last (checks_refuse f r)
      ∙ if_true (first_refused last) (first_refused (checks_of f r)) (eq-eqb (first_refused (checks_of f r)) 0 p.checks)
      ∙ if_true 0 25 p.after

  -- .. and there only
  pub passes : number_of f r ≡ 0 → Passes f r
  unfolding number_of
  passes e =
      let i = input_of f r e in
      let last : List (ℕ × Bool) = (25, within_bounds (effect_of f r)) ∷ [] in
      let all = sym (if_true (first_refused ((10, within_bounds f) ∷ checks_of f r ++ last)) (input_number r) (eq-eqb (input_number r) 0 i)) ∙ e in
      let own = first_passes 10 (within_bounds f) (checks_of f r ++ last) (omega arith) all in
      let both = both_pass (checks_of f r) last (checks_refuse f r) own.1 in
      record { input = i; before = own.0; checks = both.0; after = (first_passes 25 (within_bounds (effect_of f r)) [] (omega arith) both.1).0 }

-- the field handed in and the field after it are within the bounds
pub accepted_from_within : (f : Field) (r : Request) → (step_of f r).answer.number ≡ 0 → T (within_bounds f)
accepted_from_within f r e = pass (passes f r (sym (number_is f r) ∙ e)).before

pub accepted_within : (f : Field) (r : Request) → (step_of f r).answer.number ≡ 0 → T (within_bounds (step_of f r).field)
accepted_within f r e =
    let n = sym (number_is f r) ∙ e in
    pass (ap within_bounds (field_accepted f r n) ∙ (passes f r n).after)
