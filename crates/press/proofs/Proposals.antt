-- What a press proposes: a tick is accepted on every field within the bounds, whatever is proposed is accepted, and none is said exactly where
-- nobody is present. Assumes nothing.
use mathlib.Core.Path.{◌≡◌, refl, sym, ap, ◌∙◌, subst}
use mathlib.Core.Logic.{◌⊎◌, inl, inr}
use mathlib.Core.Bool.{Bool, true, false, cond, not, ◌||◌}
use mathlib.Core.List.{List, [], ◌∷◌}
use Prim.Native.Nat.{ℕ, ◌≤◌}
use native.Mathlib.Omega.{arith}
use lib.Dec.{T, eqb, leb, leb→le}
use lib.Ieee.Fits.{and_l, and_r}
use borrow.Author.Tests.{eqb-true, eqb-false, eq-eqb, ne_eqb}
use Rattle.limits.specs.Limits.{longest_tick}
use Rattle.request.specs.Input.{within, is_tick, first_refused, input_number, desk_allowed, kind_allowed, side_allowed, number_allowed, amount_allowed}
use Rattle.request.proofs.ByKind.{keeps}
use Rattle.request.proofs.InputTests.{nonzero_known, within_yes, within_low, within_high}
use Rattle.field.specs.declared.Field.{Field}
use Rattle.field.specs.Lists.{every}
use Rattle.field.proofs.TestLaws.{passed, decided, if_true, if_false, either_way}
use Rattle.questions.specs.Counts.{present_on}
use Rattle.questions.specs.Find.{aircraft_at}
use Rattle.bounds.specs.Bounds.{within_bounds}
use Rattle.laws.proofs.TickLaws.{within_ticked}
use Rattle.rules.specs.Step.{number_of}
use Rattle.rules.proofs.Checks.{checks_at, effect_at}
use Rattle.rules.proofs.Refusals.{accepts}
use Rattle.rules.proofs.StepLaws.{input_of}
use Rattle.press.specs.declared.Proposal.{Proposal}
use Rattle.press.specs.declared.Proposal.TheVariants.{Refused, None, Play}
use Rattle.press.specs.Press.{candidates, head_move, long_tick, tick_or_none, first_accepted, proposal_of}

-- ---- the tick
tick_input : input_number long_tick ≡ 0
unfolding input_number desk_allowed kind_allowed side_allowed number_allowed amount_allowed
tick_input = refl

-- on every field within the bounds the longest tick is accepted
pub tick_accepted : (f : Field) → T (within_bounds f) → number_of f long_tick ≡ 0
tick_accepted f t =
    accepts f long_tick
    (record {
      input = tick_input;
      before = passed t;
      checks = ap first_refused (checks_at f long_tick {k = 12} refl);
      after = ap within_bounds (effect_at f long_tick {k = 12} refl) ∙ passed (within_ticked f longest_tick (record { least = omega arith; most = omega arith }) t);
    })

-- ---- the candidates
module _ (f : Field) where
  -- a candidate that is accepted has an aircraft
  pub accepted_named : (c : ℕ × ℕ) → T (within 3 11 c.0) → number_of f (head_move f c) ≡ 0 → 1 ≤ (aircraft_at f c.1 1).number
  accepted_named c k e =
      let n = (aircraft_at f c.1 1).number in
      let kept = (keeps (head_move f c) (input_of f (head_move f c) e)).number in
      let low = leb→le c.0 11 (and_r (leb 3 c.0) (leb c.0 11) k) in
      let moves : is_tick c.0 ≡ false = ne_eqb c.0 12 (λ q. omega arith) in
      nonzero_known n (sym (ap (λ (b : Bool). cond (not b) (not (eqb n 0)) (eqb n 0)) moves) ∙ kept)

  -- what is proposed is the first candidate that is accepted, ..
  pub first_yes : (c : ℕ × ℕ) (cs : List (ℕ × ℕ)) → number_of f (head_move f c) ≡ 0 → first_accepted f (c ∷ cs) ≡ Play (head_move f c)
  first_yes c cs e = if_true (Play (head_move f c)) (first_accepted f cs) (eq-eqb (number_of f (head_move f c)) 0 e)

  -- .. and one that is refused is passed over
  pub first_no : (c : ℕ × ℕ) (cs : List (ℕ × ℕ)) → (number_of f (head_move f c) ≡ 0 → ⊥) → first_accepted f (c ∷ cs) ≡ first_accepted f cs
  first_no c cs e = if_false (Play (head_move f c)) (first_accepted f cs) (ne_eqb (number_of f (head_move f c)) 0 e)

  -- what holds of every candidate that is accepted, and of the tick or none, holds of what is proposed
  pub proposed_by : (P : Proposal → Type 0) (test : ℕ × ℕ → Bool) → ((c : ℕ × ℕ) → T (test c) → number_of f (head_move f c) ≡ 0 → P (Play (head_move f c))) → P (tick_or_none f)
      → (cs : List (ℕ × ℕ)) → T (every test cs) → P (first_accepted f cs)
  proposed_by P test move idle [] t = idle
  proposed_by P test move idle (c ∷ cs) t =
      elim (decided (eqb (number_of f (head_move f c)) 0)) [
        | inl e ↦ (let n = eqb-true (number_of f (head_move f c)) 0 e in subst P (sym (first_yes c cs n)) (move c (and_l (test c) (every test cs) t) n))
        | inr e ↦ subst P (sym (first_no c cs (eqb-false (number_of f (head_move f c)) 0 e))) (proposed_by P test move idle cs (and_r (test c) (every test cs) t))
      ]

-- ---- what is proposed

-- kinds 3 to 8 and 11, the candidates' kinds
abbrev pub is_button_kind : ℕ → Bool
is_button_kind kind = within 3 8 kind || eqb kind 11

-- those that are moves
pub button_kind_moves : (k : ℕ) → T (is_button_kind k) → within 3 11 k ≡ true
button_kind_moves k t =
    elim (decided (within 3 8 k)) [
      | inl e ↦ (let l = within_low 3 8 k e in let h = within_high 3 8 k e in within_yes 3 11 k (omega arith) (omega arith))
      | inr e ↦ (let q = eqb-true k 11 (passed (subst (λ (b : Bool). T (b || eqb k 11)) e t)) in within_yes 3 11 k (omega arith) (omega arith))
    ]

-- of a proposal on a field within the bounds: nobody is present where none is said; a request is accepted, and is the tick or of a candidate's kind
abbrev pub Proposed : Field → Proposal → Type 0
Proposed f Refused = ⊥
Proposed f None = present_on f ≡ 0
Proposed f (Play r) = (number_of f r ≡ 0) × ((r ≡ long_tick) ⊎ T (is_button_kind r.kind))

tick_proposed : (f : Field) → T (within_bounds f) → Proposed f (tick_or_none f)
tick_proposed f t =
    either_way (Proposed f) (eqb (present_on f) 0) None (Play long_tick)
    (λ e. eqb-true (present_on f) 0 e)
    (λ e. (tick_accepted f t, inl refl))

pub proposed : (f : Field) → T (within_bounds f) → Proposed f (first_accepted f candidates)
unfolding candidates
proposed f t =
    proposed_by f (Proposed f) (λ (c : ℕ × ℕ). is_button_kind c.0)
    (λ c k e. (e, inr k))
    (tick_proposed f t)
    candidates tt

-- where the field is within the bounds, the proposal is the first that is accepted
pub proposal_is : (f : Field) → T (within_bounds f) → proposal_of f ≡ first_accepted f candidates
unfolding proposal_of
proposal_is f t = let e : within_bounds f ≡ true = passed t in if_true (first_accepted f candidates) Refused e

-- where it is not, the field is refused
pub proposal_refused : (f : Field) → within_bounds f ≡ false → proposal_of f ≡ Refused
unfolding proposal_of
proposal_refused f e = if_false (first_accepted f candidates) Refused e
