-- The outcome of any request on a field that an orderly line stands for: accepted, with what it leaves behind, or refused by a number
-- that is neither 10 nor 25. Assumes nothing.
use mathlib.Core.Path.{◌≡◌, sym, ap, ◌∙◌, subst}
use mathlib.Core.Logic.{◌⊎◌, inl, inr}
use mathlib.Core.Bool.{Bool, true, cond}
use mathlib.Core.List.{List, [], ◌∷◌, ◌++◌}
use native.Mathlib.Omega.{arith}
use lib.Dec.{eqb}
use borrow.Author.Tests.{eqb-true, eqb-false, eq-eqb, ne_eqb}
use Rattle.request.specs.Input.{first_refused, input_number}
use Rattle.request.specs.declared.Request.{Request}
use Rattle.field.specs.declared.Aircraft.{Aircraft}
use Rattle.field.specs.declared.Legs.{Legs}
use Rattle.field.specs.declared.Field.{Field}
use Rattle.bounds.specs.Bounds.{within_bounds}
use Rattle.order.specs.Model.{Side}
use Rattle.rules.specs.Step.{checks_of, effect_of, number_of}
use Rattle.field.proofs.TestLaws.{passed, decided, if_true, if_false}
use Rattle.line.proofs.Line.{Placed, field_of}
use Rattle.line.proofs.Orderly.{Orderly}
use Rattle.line.proofs.LineWithin.{within_bounds_lem}
use Rattle.moves.proofs.AfterAccepted.{After}
use Rattle.rules.proofs.Checks.{NeverOthers, need_numbers, need_never, input_never, refused_by, refused_append, checks_numbered, checks_refuse, input_numbered}
use Rattle.rules.proofs.Refusals.{accepts}
use Rattle.moves.proofs.EveryKind.{accepted_after}

pub record AcceptedOnLine (f : Side) (line : List Placed) (runway : List Aircraft) (legs : Legs) (r : Request) : Type 1 where
  pub number_0 : number_of (field_of f line runway legs) r ≡ 0
  pub after : After f line runway legs r

module _ (f : Side) (line : List Placed) (runway : List Aircraft) (legs : Legs) (o : Orderly f line runway legs) (r : Request) where
  abbrev F : Field
  F = field_of f line runway legs

  -- the checks and the field afterwards, where the input rules hold
  number_of_lem : input_number r ≡ 0 → number_of F r ≡ first_refused (checks_of F r ++ ((25, within_bounds (effect_of F r)) ∷ []))
  unfolding number_of
  number_of_lem e =
      if_true (first_refused ((10, within_bounds F) ∷ checks_of F r ++ ((25, within_bounds (effect_of F r)) ∷ []))) (input_number r) (eq-eqb (input_number r) 0 e)
      ∙ ap (λ (b : Bool). cond b (first_refused (checks_of F r ++ ((25, within_bounds (effect_of F r)) ∷ []))) 10) (passed {b = within_bounds F} (within_bounds_lem f line runway legs o))

  number_input : (input_number r ≡ 0 → ⊥) → number_of F r ≡ input_number r
  unfolding number_of
  number_input e = if_false (first_refused ((10, within_bounds F) ∷ checks_of F r ++ ((25, within_bounds (effect_of F r)) ∷ []))) (input_number r) (ne_eqb (input_number r) 0 e)

  -- a request that passes the input rules and its checks is accepted
  pub accepted_by : input_number r ≡ 0 → first_refused (checks_of F r) ≡ 0 → AcceptedOnLine f line runway legs r
  accepted_by i c =
      let a = accepted_after f line runway legs o r i c in
      let w : within_bounds (effect_of F r) ≡ true = ap within_bounds a.effect ∙ passed (within_bounds_lem a.first_after a.line_after a.runway_after legs a.orderly) in
      record {
        number_0 = accepts F r (record { input = i; before = passed (within_bounds_lem f line runway legs o); checks = c; after = w });
        after = a;
      }

  by_checks : input_number r ≡ 0 → AcceptedOnLine f line runway legs r ⊎ NeverOthers (number_of F r)
  by_checks i =
      elim (decided (eqb (first_refused (checks_of F r)) 0)) [
        | inl e ↦ inl (accepted_by i (eqb-true (first_refused (checks_of F r)) 0 e))
        | inr e ↦
            let n = eqb-false (first_refused (checks_of F r)) 0 e in
            let q : number_of F r ≡ first_refused (checks_of F r) =
            number_of_lem i ∙ refused_append (checks_of F r) ((25, within_bounds (effect_of F r)) ∷ []) (checks_refuse F r)
            ∙ if_false (cond (within_bounds (effect_of F r)) 0 25) (first_refused (checks_of F r)) e in
            elim (refused_by need_numbers (checks_of F r) (checks_numbered F r)) [
              | inl z ↦ absurd (n z)
              | inr t ↦ inr (subst NeverOthers (sym q) (need_never (first_refused (checks_of F r)) t))
            ]
      ]

  pub outcome : AcceptedOnLine f line runway legs r ⊎ NeverOthers (number_of F r)
  outcome =
      elim (input_numbered r) [
        | inl i ↦ by_checks i
        | inr t ↦
            let never = input_never (input_number r) t in
            inr (subst NeverOthers (sym (number_input (λ z. let l = never.not_0 in omega arith))) never)
      ]
