-- `indexed::step_by_index` meets its contract: within the bounds the index finds what a look through the queues finds. Assumes nothing.
use mathlib.Core.Path.{◌≡◌, refl, sym, ap, ◌∙◌, subst⁻¹}
use mathlib.Core.Bool.{true, cond}
use mathlib.Core.List.{[]}
use Prim.Native.Nat.{ℕ, ◌+◌, ◌-◌, ◌≤◌}
use native.Mathlib.Omega.{arith}
use lib.Dec.{T, eqb}
use lib.ListN.{get_or}
use Rattle.leg.specs.Ticks.{Between}
use Rattle.refusals.specs.Refusals.{number_of}
use Rattle.refusals.proofs.Outcomes.{number_some}
use Rattle.request.specs.Input.{first_refused, input_number}
use Rattle.request.specs.declared.Request.{Request}
use Rattle.field.specs.declared.Field.{Field}
use Rattle.field.specs.Airspace.{base, opposite, side_of}
use Rattle.field.proofs.TestLaws.{pass}
use Rattle.questions.specs.declared.Place.{Place}
use Rattle.questions.specs.Counts.{how_many}
use Rattle.bounds.specs.Bounds.{within_bounds}
use Rattle.finder.specs.declared.Entry.{Entry}
use Rattle.finder.specs.Finder.{index_of, within_bounds_indexed}
use Rattle.finder.proofs.IndexLaws.{indexed_as_looked}
use Rattle.rules.specs.Kinds.{place_before}
use Rattle.rules.specs.Step.{checks_of, effect_of, number_and_zeros, acceptance_on, along_for, answer_of}
use Rattle.step.proofs.StepsByTests.{number_need, number_after, not_met, was_met, asked, checked, effected}
use borrow.Author.Rules.{rules}
use Rattle.indexed.specs.declared.AnswerAndIndex.{AnswerAndIndex}
use Rattle.indexed.specs.declared.SteppedIndexed.{SteppedIndexed}
use Rattle.indexed.specs.Indexed.{with_index}
use Rattle.indexed.proofs.StepsIndexed.{turned_by, let_through, number_input, number_10, number_within, field_within, asked_found, tick_leaves}
use Rattle.kept_up.specs.KeptUp.{kept_up}
use Rattle.kept_up.proofs.Leads.{of_side, leads_within}
use Rattle.indexed.proofs.IndexAfter.{IndexedKnown, indexed_known, length_there, length_at, few_there, fix_there, kept_up_after}
use Rattle.indexed.proofs.step_by_index.Given.{Over}
use Rattle.indexed.proofs.step_by_index.Goals.{In_default, In_default-require, In_default-check_needs, In_default-require-2, After-zone_ahead-ahead, After-side_of-side, After-leads_to-to, After-effect-g, After-judge_after}
use Rattle.indexed.proofs.step_by_index.Goals as goal

-- the step by the answer and the index, and the field after it
made : (f : Field) (r : Request) {at : Place} {along : ℕ} {g : Field} {a : AnswerAndIndex} → at ≡ place_before f r → along ≡ along_for r.kind f r at.zone → g ≡ effect_of f r
    → a ≡ record { answer = cond (eqb r.kind 12) (number_and_zeros 0) (acceptance_on g r along); index = index_of g }
    → ◌≡◌ {A = SteppedIndexed} (record { answer = a.answer; after = record { field = g; index = a.index } }) (record { answer = answer_of f r; after = with_index (effect_of f r) })
unfolding answer_of with_index
made f r {at} {along} {g} {a} p el eg ea =
    ap (λ (b : AnswerAndIndex). record { answer = b.answer; after = record { field = g; index = b.index } }) ea
    ∙ ap (λ (h : Field). stepped h along) eg
    ∙ ap (stepped (effect_of f r)) (el ∙ ap (λ (q : Place). along_for r.kind f r q.zone) p)
  where
    stepped : Field → ℕ → SteppedIndexed
    stepped h n = record { answer = cond (eqb r.kind 12) (number_and_zeros 0) (acceptance_on h r n); after = record { field = h; index = index_of h } }

-- ---- what is known where a test is passed
allowed : (g : Over) (c : In_default g) → input_number c.args.r ≡ 0
allowed g c = sym c.in_default.ensures

bounded : (g : Over) (c : In_default-require g) → within_bounds_indexed c.args.x ≡ true
unfolding number_of
bounded g c = sym (c.requires.before (sym c.in_default.ensures) _ c.judge_before.ensures) ∙ was_met _ c.in_default-require.ensures (λ e. omega arith)

known : (g : Over) (c : In_default-require g) → IndexedKnown c.args.x
known g c = indexed_known c.args.x c.well_formed.0 (pass (bounded g c))

-- what the index finds
found : (g : Over) (c : After-zone_ahead-ahead g) → c.find-at.result ≡ place_before c.args.x.field c.args.r
found g c = c.find-at.ensures ∙ indexed_as_looked c.args.x (pass (bounded g (goal.at.After-zone_ahead-ahead g c).In_default-require)) c.args.r.number

leader : (g : Over) (c : After-zone_ahead-ahead g) → c.zone_ahead-ahead.result ≡ asked c.args.x.field c.args.r
leader g c = asked_found c.args.x (pass (bounded g (goal.at.After-zone_ahead-ahead g c).In_default-require)) c.args.r c.zone_ahead-ahead.ensures

met : (g : Over) (c : In_default-check_needs g) → first_refused (checks_of c.args.x.field c.args.r) ≡ 0
met g c =
    let at = (goal.at.In_default-check_needs g c).After-zone_ahead-ahead in
    sym (checked c.args.x.field c.args.r (found g at) (leader g at) c.in_default-check_needs.ensures)

-- what is read of the field for where the request leads
side-within : (g : Over) (c : After-side_of-side g) → Between 1 2 c.side_of-side.result
side-within g c =
    subst⁻¹ (Between 1 2) c.side_of-side.ensures (of_side (Between 1 2) _ (record { least = omega arith; most = omega arith }) (record { least = omega arith; most = omega arith }))

above_within : (g : Over) (c : After-side_of-side g) → Between 1 13 c.side_of-side.result
above_within g c = let b = side-within g c in record { least = omega (arith, b); most = omega (arith, b) }

below-within : (g : Over) (c : After-side_of-side g) → Between 1 13 (2 + c.side_of-side.result)
below-within g c = let b = side-within g c in record { least = omega (arith, b); most = omega (arith, b) }

across-at : (g : Over) (c : After-side_of-side g) → 10 - c.side_of-side.result ≡ base (opposite c.side_of-side.result) - 1
unfolding opposite
across-at g c = subst⁻¹ (λ (s : ℕ). 10 - s ≡ base (opposite s) - 1) c.side_of-side.ensures (of_side (λ (s : ℕ). 10 - s ≡ base (opposite s) - 1) _ refl refl)

across-within : (g : Over) (c : After-side_of-side g) → Between 1 13 (base (opposite c.side_of-side.result))
unfolding opposite
across-within g c =
    subst⁻¹ (λ (s : ℕ). Between 1 13 (base (opposite s))) c.side_of-side.ensures
    (of_side (λ (s : ℕ). Between 1 13 (base (opposite s))) _ (record { least = omega arith; most = omega arith }) (record { least = omega arith; most = omega arith }))

side_is : (g : Over) (c : After-side_of-side g) → c.side_of-side.result ≡ side_of (place_before c.args.x.field c.args.r).zone
side_is g c = c.side_of-side.ensures ∙ ap (λ (p : Place). side_of p.zone) (found g (goal.at.After-side_of-side g c).After-zone_ahead-ahead)

led-within : (g : Over) (c : After-leads_to-to g) → Between 1 13 c.leads_to-to.result
led-within g c = subst⁻¹ (Between 1 13) c.leads_to-to.ensures (leads_within _ _ _ _ _ _ _ _ _)

there-few : (g : Over) (c : After-leads_to-to g) → (get_or c.args.x.field.zones (c.leads_to-to.result - 1) (record { aircraft = []; length = 0 })).length ≤ 4
there-few g c = few_there (known g (goal.at.After-leads_to-to g c).In_default-require) _ (led-within g c)

-- the field after the step
after : (g : Over) (c : After-effect-g g) → c.effect-g.result ≡ effect_of c.args.x.field c.args.r
after g c =
    let at = (goal.at.After-effect-g g c).After-zone_ahead-ahead in
    effected c.args.x.field c.args.r (found g at) (leader g at) c.effect-g.ensures

judged : (g : Over) (c : After-judge_after g) → c.judge_after.result ≡ within_bounds (effect_of c.args.x.field c.args.r)
judged g c =
    let at = goal.at.After-judge_after g c in
    let is = after g at.After-effect-g in
    c.requires.after (allowed g at.In_default) (field_within c.args.x (pass (bounded g at.In_default-require))) (met g at.In_default-check_needs) _ is _ c.judge_after.ensures
    ∙ ap within_bounds is

stays : (g : Over) (c : In_default-require-2 g) → within_bounds (effect_of c.args.x.field c.args.r) ≡ true
unfolding number_of
stays g c = sym (judged g (goal.at.In_default-require-2 g c).After-judge_after) ∙ was_met _ c.in_default-require-2.ensures (λ e. omega arith)

-- ---- each bound on the way
pub overflow_sub-situation : goal.overflow_sub-situation
overflow_sub-situation g c = let b = side-within g (goal.at.overflow_sub-situation g c).After-side_of-side in omega (arith, b)

pub overflow_sub-situation-2 : goal.overflow_sub-situation-2
overflow_sub-situation-2 g c = let b = side-within g (goal.at.overflow_sub-situation-2 g c).After-side_of-side in omega (arith, b)

pub bounds-f-side-2 : goal.bounds-f-side-2
bounds-f-side-2 g c = let b = side-within g (goal.at.bounds-f-side-2 g c).After-side_of-side in omega (arith, b)

pub bounds-f-side-3 : goal.bounds-f-side-3
bounds-f-side-3 g c = let b = side-within g (goal.at.bounds-f-side-3 g c).After-side_of-side in omega (arith, b)

pub overflow_sub-there : goal.overflow_sub-there
overflow_sub-there g c = let b = led-within g (goal.at.overflow_sub-there g c).After-leads_to-to in omega (arith, b)

pub offset_bounds-f-to : goal.offset_bounds-f-to
offset_bounds-f-to g c = let b = led-within g (goal.at.offset_bounds-f-to g c).After-leads_to-to in search (rules, b)

pub bounds-f-to : goal.bounds-f-to
bounds-f-to g c = let b = led-within g (goal.at.bounds-f-to g c).After-leads_to-to in omega (arith, b)

pub overflow_cast-to : goal.overflow_cast-to
overflow_cast-to g c = let b = led-within g (goal.at.overflow_cast-to g c).After-leads_to-to in omega (arith, b)

pub overflow_add-there : goal.overflow_add-there
overflow_add-there g c = let b = there-few g (goal.at.overflow_add-there g c).After-leads_to-to in omega (arith, b)

pub overflow_cast-there : goal.overflow_cast-there
overflow_cast-there g c = let b = there-few g (goal.at.overflow_cast-there g c).After-leads_to-to in omega (arith, b)

pub answered-requires : goal.answered-requires
answered-requires g c =
    let x = c.args.x in
    let f = x.field in
    let at = goal.at.answered-requires g c in
    let own = pass (bounded g at.In_default-require) in
    let is = after g at.After-effect-g in
    let side = side_is g at.After-side_of-side in
    let zero = number_after f c.args.r (allowed g at.In_default) (field_within x own) (met g at.In_default-check_needs) (stays g at.In_default-require-2) in (
      subst⁻¹ (λ (h : Field). T (within_bounds h)) is (pass (stays g at.In_default-require-2)),
      (λ k. tick_leaves x own c.args.r k ∙ sym (ap index_of is)),
      λ t. ap (λ (to : Entry). kept_up c.find-at.result.zone to x.index) c.led_to-led.ensures
          ∙ kept_up_after (known g at.In_default-require) zero
          (record {
            zone_is = ap (λ (p : Place). p.zone) (found g at.After-zone_ahead-ahead);
            ahead_is = leader g at.After-zone_ahead-ahead;
            across_is = length_at (known g at.In_default-require) _ (across-at g at.After-side_of-side) (across-within g at.After-side_of-side) ∙ ap (λ (v : ℕ). how_many f (base (opposite v))) side;
            above_is = length_there (known g at.In_default-require) _ (above_within g at.After-side_of-side) ∙ ap (how_many f) side;
            below_is = length_there (known g at.In_default-require) _ (below-within g at.After-side_of-side) ∙ ap (λ (v : ℕ). how_many f (2 + v)) side;
            fix_is = fix_there (known g at.In_default-require) _ _;
          })
          c.leads_to-to.ensures (length_there (known g at.In_default-require) _ (led-within g at.After-leads_to-to)) is t,
    )

-- ---- each return
pub returns-in-Err : goal.returns-in-Err
returns-in-Err g c =
    let a = c.args in
    let input = c.in-Err.ensures in
    turned_by a.x a.r _ c.turned_away.ensures c.number.ensures (number_input a.x a.r (λ z. number_some _ (input ∙ z)) ∙ sym input)

pub returns-in-Err-require : goal.returns-in-Err-require
unfolding number_of
returns-in-Err-require g c =
    let a = c.args in
    let i = allowed g (goal.at.returns-in-Err-require g c).In_default in
    let broken = not_met _ _ c.in-Err-require.ensures in
    turned_by a.x a.r _ c.turned_away-in-Err-require.ensures c.number-in-Err-require.ensures (number_10 a.x a.r i (sym (c.requires.before i _ c.judge_before.ensures) ∙ broken.0) ∙ sym broken.1)

pub returns-in-Err-check_needs : goal.returns-in-Err-check_needs
returns-in-Err-check_needs g c =
    let a = c.args in
    let at = goal.at.returns-in-Err-check_needs g c in
    let i = allowed g at.In_default in
    let w = bounded g at.In_default-require in
    let need = checked a.x.field a.r (found g at.After-zone_ahead-ahead) (leader g at.After-zone_ahead-ahead) c.in-Err-check_needs.ensures in
    turned_by a.x a.r _ c.turned_away-in-Err-check_needs.ensures c.number-in-Err-check_needs.ensures
    (number_within a.x a.r i w ∙ number_need a.x.field a.r i (field_within a.x (pass w)) need (number_some _))

pub returns-in-Err-require-2 : goal.returns-in-Err-require-2
unfolding number_of
returns-in-Err-require-2 g c =
    let a = c.args in
    let at = goal.at.returns-in-Err-require-2 g c in
    let i = allowed g at.In_default in
    let w = bounded g at.In_default-require in
    let broken = not_met _ _ c.in-Err-require-2.ensures in
    turned_by a.x a.r _ c.turned_away-in-Err-require-2.ensures c.number-in-Err-require-2.ensures
    (number_within a.x a.r i w
    ∙ number_after a.x.field a.r i (field_within a.x (pass w)) (met g at.In_default-check_needs) (sym (judged g at.After-judge_after) ∙ broken.0)
    ∙ sym broken.1)

pub returns : goal.returns
returns g c =
    let a = c.args in
    let at = goal.at.returns g c in
    let i = allowed g at.In_default in
    let w = bounded g at.In_default-require in
    let zero = number_after a.x.field a.r i (field_within a.x (pass w)) (met g at.In_default-check_needs) (stays g at.In_default-require-2) in
    c.accepted.ensures
    ∙ made a.x.field a.r (found g at.After-zone_ahead-ahead) c.along_of-along.ensures (after g at.After-effect-g) c.answered.ensures
    ∙ let_through a.x a.r (number_within a.x a.r i w ∙ zero) zero
