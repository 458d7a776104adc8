-- Held down, the button empties every field that requests reach: after at most so many ticks in a row somebody moves, and every move makes the order
-- lighter. Assumes nothing.
use mathlib.Core.Path.{◌≡◌, refl, sym, ap, ◌∙◌, subst, subst⁻¹}
use mathlib.Core.Logic.{◌⊎◌, inl, inr}
use mathlib.Core.Bool.{Bool, true, false, cond, not, ◌&&◌}
use mathlib.Core.List.{List, ◌∷◌}
use Prim.Native.Nat.{ℕ, zero, suc, ◌+◌, ◌*◌, ◌≤◌, ◌<◌}
use native.Mathlib.Nat.{pos_of_ne-zero, le_trans, le_of_eq}
use native.Mathlib.Omega.{arith}
use lib.Dec.{T, eqb, leb, ltb, le→leb}
use lib.Ieee.Fits.{and_i}
use lib.ListN.{length}
use borrow.Author.Tests.{eq-eqb, ne_eqb, eqb-true, eqb-false}
use Rattle.limits.specs.Limits.{longest_tick, most_moves, most_ticks, most_presses}
use Rattle.request.specs.Input.{within, is_entry}
use Rattle.request.specs.declared.Request.{Request}
use Rattle.request.proofs.InputTests.{within_low, within_high}
use Rattle.field.specs.declared.Aircraft.{Aircraft}
use Rattle.field.specs.declared.Legs.{Legs}
use Rattle.field.specs.declared.Field.{Field}
use Rattle.field.specs.Airspace.{empty_field}
use Rattle.field.proofs.TestLaws.{decided, failed, zones_imply, if_false, either_way}
use Rattle.questions.specs.Counts.{present_on}
use Rattle.bounds.specs.Bounds.{within_bounds}
use Rattle.fits.specs.Fits.{legal_legs}
use Rattle.tick.specs.Tick.{ticked}
use Rattle.order.specs.Model.{Side, one}
use Rattle.rules.specs.Step.{effect_of, number_of, step_of}
use Rattle.rules.specs.Play.{field_after, played, accepted, adds_moves}
use Rattle.rules.proofs.Checks.{effect_at}
use Rattle.rules.proofs.Refusals.{accepted_within}
use Rattle.rules.proofs.StepLaws.{number_is, field_accepted}
use Rattle.rules.proofs.SameStep.{after_same}
use Rattle.rules.proofs.Starts.{start_same, start_legal, empty_starts}
use Rattle.line.proofs.Line.{Placed, field_of}
use Rattle.line.proofs.Orderly.{Orderly}
use Rattle.line.proofs.LineWithin.{within_bounds_lem}
use Rattle.moves.proofs.AfterAccepted.{balance_all, After, leaves, weight_of}
use Rattle.moves.proofs.AcceptedOrRefused.{outcome}
use Rattle.demand.specs.Demand.{all_flown_out, moves_on, MovesOn}
use Rattle.demand.proofs.Unstuck.{unstuck}
use Rattle.demand.proofs.Demand.{from_empty, present_is, light, demand_3}
use Rattle.press.specs.declared.Proposal.{Proposal}
use Rattle.press.specs.declared.Proposal.TheVariants.{Refused, None, Play}
use Rattle.press.specs.declared.Ending.TheVariants as ending
use Rattle.press.specs.declared.Held.{Held}
use Rattle.press.specs.Press.{long_tick, proposal_of}
use Rattle.press.specs.HeldDown.{then_pressed, presses, held_requests, held_of}
use Rattle.press.proofs.Proposals.{Proposed, proposed, proposal_is, tick_accepted, button_kind_moves}
use Rattle.press.proofs.Pressing.{presses_none, presses_more, presses_play, presses_end, held_is}
use Rattle.emptied.specs.Emptied.{leading_ticks, ticks_in_a_row, EmptiedOn, Emptied}
use Rattle.emptied.proofs.SamePresses.{emptied_same}
use Rattle.emptied.proofs.OnePress.{pressed_on}
use Rattle.emptied.proofs.Arriving.{FlownAfter, all_arrive, after_tick, all_flown}

-- ---- a field that an orderly line stands for, with at most w moves left

pub record Stands (legs : Legs) (g : Field) (w : ℕ) : Type 0 where
  pub first : Side
  pub line : List Placed
  pub runway : List Aircraft
  pub stands : g ≡ field_of first line runway legs
  pub orderly : Orderly first line runway legs
  pub light : weight_of line runway ≤ w

module _ {legs : Legs} {g : Field} {w : ℕ} (s : Stands legs g w) where
  bounded : T (within_bounds g)
  bounded = subst⁻¹ (λ (f : Field). T (within_bounds f)) s.stands (within_bounds_lem s.first s.line s.runway legs s.orderly)

  -- somebody present, and every leg flown out: a move is accepted
  moves_on_lem : 0 < present_on g → T (all_flown_out g) → MovesOn g
  moves_on_lem p t =
      let is = present_is s.first s.line s.runway legs s.orderly in
      let n = ap present_on s.stands in
      subst⁻¹ MovesOn s.stands (unstuck s.first s.line s.runway legs s.orderly (omega arith) (subst (λ (f : Field). T (all_flown_out f)) s.stands t))

  -- an accepted request that is no entry and no miss
  module _ (r : Request) (e : number_of g r ≡ 0) (adds : adds_moves r.kind ≡ false) where
    after : After s.first s.line s.runway legs r
    after =
        let n : number_of (field_of s.first s.line s.runway legs) r ≡ 0 = sym (ap (λ (f : Field). number_of f r) s.stands) ∙ e in
        elim (outcome s.first s.line s.runway legs s.orderly r) [
          | inl a ↦ a.after
          | inr t ↦ absurd (let z = t.not_0 in omega arith)
        ]

    -- leaves such a field, with one move less where it is a move
    pub stands_after : (v : ℕ) → w ≤ v + one (within 3 11 r.kind) → Stands legs (step_of g r).field v
    stands_after v h =
        let a = after in
        record {
          first = a.first_after;
          line = a.line_after;
          runway = a.runway_after;
          stands = field_accepted g r e ∙ ap (λ (f : Field). effect_of f r) s.stands ∙ a.effect;
          orderly = a.orderly;
          light = (let l = a.lighter adds in omega (arith, s.light));
        }

    -- a move makes it lighter
    lighter : weight_of after.line_after after.runway_after + one (within 3 11 r.kind) ≤ w
    lighter = let l = after.lighter adds in omega (arith, s.light)

    -- as many are present, but for those who leave and enter
    present_after : present_on (step_of g r).field + one (leaves r.kind) ≡ present_on g + one (is_entry r.kind)
    present_after =
        let a = after in
        let before = ap present_on s.stands ∙ present_is s.first s.line s.runway legs s.orderly in
        let then = ap present_on (field_accepted g r e ∙ ap (λ (f : Field). effect_of f r) s.stands ∙ a.effect) ∙ present_is a.first_after a.line_after a.runway_after legs a.orderly in
        omega (arith, balance_all s.first s.line s.runway legs r a)

-- kinds 3 to 8 and 11 are no entry and no miss
no_more_moves : (k : ℕ) → T (moves_on k) → adds_moves k ≡ false
no_more_moves k t =
    let m = button_kind_moves k t in
    let l = within_low 3 11 k m in
    let h = within_high 3 11 k m in
    failed (zones_imply moves_on (λ k. not (adds_moves k)) tt k (and_i (leb 1 k) (leb k 13) (le→leb 1 k (omega arith)) (le→leb k 13 (omega arith))) t)

one_move : (k : ℕ) → T (moves_on k) → one (within 3 11 k) ≡ 1
one_move k t = ap one (button_kind_moves k t)

-- what is proposed is no entry and no miss
no_adding : (r : Request) → (r ≡ long_tick) ⊎ T (moves_on r.kind) → adds_moves r.kind ≡ false
no_adding r (inl e) = ap (λ (q : Request). adds_moves q.kind) e
no_adding r (inr m) = no_more_moves r.kind m

-- a move is no tick
no_tick : (r : Request) (rs : List Request) → T (moves_on r.kind) → leading_ticks (r ∷ rs) ≡ 0
no_tick r rs t = let h = within_high 3 11 r.kind (button_kind_moves r.kind t) in if_false (suc (leading_ticks rs)) 0 (ne_eqb r.kind 12 (λ e. omega (arith, h, e)))

module _ (legs : Legs) where
  -- after the longest tick
  ticked_field : {g : Field} {w : ℕ} (s : Stands legs g w) → (step_of g long_tick).field ≡ ticked g longest_tick
  ticked_field {g} s = field_accepted g long_tick (tick_accepted g (bounded s)) ∙ effect_at g long_tick {k = 12} refl

  tick_stands : {g : Field} {w : ℕ} → Stands legs g w → Stands legs (step_of g long_tick).field w
  tick_stands {g} {w} s = stands_after s long_tick (tick_accepted g (bounded s)) refl w (omega arith)

  tick_flown : {g : Field} {w : ℕ} (s : Stands legs g w) (k : ℕ) → FlownAfter (suc k) g → FlownAfter k (step_of g long_tick).field
  tick_flown {g} s k h = subst⁻¹ (FlownAfter k) (ticked_field s) (after_tick g k h)

  -- where no move is left nobody is present
  nobody_left : (k : ℕ) (g : Field) → Stands legs g 0 → FlownAfter k g → present_on g ≡ 0
  nobody_left zero g s h =
      elim (decided (eqb (present_on g) 0)) [
        | inl e ↦ eqb-true (present_on g) 0 e
        | inr e ↦
            let m = moves_on_lem s (let n = eqb-false (present_on g) 0 e in pos_of_ne-zero n) (all_flown g h) in
            let r = m.request in
            let l = lighter s r (sym (number_is g r) ∙ m.accepted) (no_more_moves r.kind m.kind) in
            let one = one_move r.kind m.kind in
            absurd (omega arith)
      ]
  nobody_left (suc k) g s h =
      let t = tick_accepted g (bounded s) in
      let then = nobody_left k (step_of g long_tick).field (tick_stands s) (tick_flown s k h) in
      let same = present_after s long_tick t refl in
      omega arith

  -- the field is empty after at most n presses
  abbrev EmptyAfter : ℕ → Field → Type 0
  EmptyAfter n g = present_on (field_after g (presses n g)) ≡ 0

  already : (n : ℕ) (g : Field) → T (within_bounds g) → present_on g ≡ 0 → EmptyAfter n g
  already n g t e = ap (λ (rs : List Request). present_on (field_after g rs)) (presses_end n g ((pressed_on g t).nobody_then_none e)) ∙ e

  then_empty : (n : ℕ) (g : Field) (r : Request) → proposal_of g ≡ Play r → EmptyAfter n (step_of g r).field → EmptyAfter (suc n) g
  then_empty n g r e h = ap (λ (rs : List Request). present_on (field_after g rs)) (presses_play n g r e) ∙ h

  -- with k ticks to the end of every leg, and so many presses for the moves after the next
  module _ (v : ℕ) (next : (g : Field) → Stands legs g v → (n : ℕ) → v * (most_ticks + 1) ≤ n → EmptyAfter n g) where
    press_by : (g : Field) → Stands legs g (suc v) → (n : ℕ) → v * (most_ticks + 1) ≤ n → (proposal_of g ≡ Play long_tick → EmptyAfter (suc n) g) → EmptyAfter (suc n) g
    press_by g s n room tick = by (proposal_of g) refl (subst⁻¹ (Proposed g) (proposal_is g (bounded s)) (proposed g (bounded s)))
      where
        by : (p : Proposal) → proposal_of g ≡ p → Proposed g p → EmptyAfter (suc n) g
        by Refused e q = absurd q
        by None e q = already (suc n) g (bounded s) q
        by (Play r) e q =
            elim q.1 [
              | inl t ↦ tick (e ∙ ap Play t)
              | inr t ↦
                  let one = one_move r.kind t in
                  then_empty n g r e (next (step_of g r).field (stands_after s r q.0 (no_more_moves r.kind t) v (omega arith)) n room)
            ]

    until_move : (k : ℕ) (g : Field) → Stands legs g (suc v) → FlownAfter k g → (n : ℕ) → k + v * (most_ticks + 1) ≤ n → EmptyAfter (suc n) g
    until_move zero g s h n room =
        press_by g s n (omega arith)
        (λ e.
        elim (decided (eqb (present_on g) 0)) [
          | inl y ↦ already (suc n) g (bounded s) (eqb-true (present_on g) 0 y)
          | inr y ↦ (let m = moves_on_lem s (pos_of_ne-zero (eqb-false (present_on g) 0 y)) (all_flown g h) in absurd ((pressed_on g (bounded s)).no_move e m.request m.kind m.accepted))
        ])
    until_move (suc k) g s h zero room = absurd (omega arith)
    until_move (suc k) g s h (suc n) room =
        press_by g s (suc n) (omega arith)
        (λ e. then_empty (suc n) g long_tick e (until_move k (step_of g long_tick).field (tick_stands s) (tick_flown s k h) n (omega arith)))

  -- so many presses for each move that is left, and the ticks before it, empty the field
  empties : (w : ℕ) (g : Field) → Stands legs g w → (n : ℕ) → w * (most_ticks + 1) ≤ n → EmptyAfter n g
  empties zero g s n room = already n g (bounded s) (nobody_left most_ticks g s (all_arrive g (bounded s) most_ticks (omega arith)))
  empties (suc v) g s zero room = absurd (omega arith)
  empties (suc v) g s (suc n) room = until_move v (empties v) most_ticks g s (all_arrive g (bounded s) most_ticks (omega arith)) n (omega arith)

  -- ---- no more than k ticks stand in a row where after k of them every leg is flown out
  row_by : {w : ℕ} (g : Field) → Stands legs g w → (n k : ℕ) → (proposal_of g ≡ Play long_tick → leading_ticks (presses (suc n) g) ≤ k) → leading_ticks (presses (suc n) g) ≤ k
  row_by g s n k tick = by (proposal_of g) refl (subst⁻¹ (Proposed g) (proposal_is g (bounded s)) (proposed g (bounded s)))
    where
      by : (p : Proposal) → proposal_of g ≡ p → Proposed g p → leading_ticks (presses (suc n) g) ≤ k
      by Refused e q = absurd q
      by None e q = let h = ap leading_ticks (presses_end (suc n) g e) in omega (arith, h)
      by (Play r) e q = elim q.1 [
        | inl t ↦ tick (e ∙ ap Play t)
        | inr t ↦ (let h = ap leading_ticks (presses_play n g r e) ∙ no_tick r (presses n (step_of g r).field) t in omega (arith, h))
      ]

  row : {w : ℕ} (n k : ℕ) (g : Field) → Stands legs g w → FlownAfter k g → leading_ticks (presses n g) ≤ k
  row zero k g s h = let e = ap leading_ticks (presses_none g) in omega (arith, e)
  row (suc n) zero g s h =
      row_by g s n 0
      (λ e.
      elim (decided (eqb (present_on g) 0)) [
        | inl y ↦ (let h = ap leading_ticks (presses_end (suc n) g ((pressed_on g (bounded s)).nobody_then_none (eqb-true (present_on g) 0 y))) in omega (arith, h))
        | inr y ↦ (let m = moves_on_lem s (pos_of_ne-zero (eqb-false (present_on g) 0 y)) (all_flown g h) in absurd ((pressed_on g (bounded s)).no_move e m.request m.kind m.accepted))
      ])
  row (suc n) (suc k) g s h =
      row_by g s n (suc k)
      (λ e.
      let rest = row n k (step_of g long_tick).field (tick_stands s) (tick_flown s k h) in
      let here = ap leading_ticks (presses_play n g long_tick e) in
      omega (arith, rest, here))

  rows : {w : ℕ} (n : ℕ) (g : Field) → Stands legs g w → ticks_in_a_row (presses n g) ≤ most_ticks
  rows zero g s = let e = ap ticks_in_a_row (presses_none g) in omega (arith, e)
  rows {w} (suc n) g s =
      by (λ f h. rows {w = w} n f h) (row (suc n) most_ticks g s (all_arrive g (bounded s) most_ticks (omega arith))) (proposal_of g) refl
      (subst⁻¹ (Proposed g) (proposal_is g (bounded s)) (proposed g (bounded s)))
    where
      by : ((f : Field) → Stands legs f w → ticks_in_a_row (presses n f) ≤ most_ticks) → leading_ticks (presses (suc n) g) ≤ most_ticks
          → (p : Proposal) → proposal_of g ≡ p → Proposed g p → ticks_in_a_row (presses (suc n) g) ≤ most_ticks
      by rest first Refused e q = absurd q
      by rest first None e q = let h = ap ticks_in_a_row (presses_end (suc n) g e) in omega (arith, h)
      by rest first (Play r) e q =
          let others = presses n (step_of g r).field in
          let is = presses_play n g r e in
          subst⁻¹ (λ (rs : List Request). ticks_in_a_row rs ≤ most_ticks) is
          (either_way (λ (m : ℕ). m ≤ most_ticks) (ltb (ticks_in_a_row others) (leading_ticks (r ∷ others))) (leading_ticks (r ∷ others)) (ticks_in_a_row others)
          (λ b. subst (λ (rs : List Request). leading_ticks rs ≤ most_ticks) is first)
          (λ b. rest (step_of g r).field (stands_after s r q.0 (no_adding r q.1) w (omega arith))))

-- ---- every field that requests reach
pub presses_few : (n : ℕ) (g : Field) → length (presses n g) ≤ n
presses_few zero g = let e = ap length (presses_none g) in omega arith
presses_few (suc n) g = let e = ap length (presses_more n g) in le_trans (le_of_eq e) (by (λ f. presses_few n f) (proposal_of g))
  where
    by : ((f : Field) → length (presses n f) ≤ n) → (p : Proposal) → length (then_pressed p (λ r. presses n (step_of g r).field)) ≤ suc n
    by few Refused = omega arith
    by few None = omega arith
    by few (Play r) = let h = few (step_of g r).field in omega arith

sums : {a b : ℕ} → a ≡ 0 → b ≡ 0 → a + b ≡ 0
sums e h = omega arith

-- no entry and no miss is among them
no_adds : (n : ℕ) (g : Field) → T (within_bounds g) → accepted adds_moves (played g (presses n g)) ≡ 0
no_adds zero g t = ap (λ (rs : List Request). accepted adds_moves (played g rs)) (presses_none g)
no_adds (suc n) g t = by (λ f u. no_adds n f u) (proposal_of g) refl (subst⁻¹ (Proposed g) (proposal_is g t) (proposed g t))
  where
    counts : (r : Request) → adds_moves r.kind ≡ false → (b : Bool) → ◌≡◌ {A = ℕ} (cond (b && adds_moves r.kind) 1 0) 0
    counts r e true = ap (λ (b : Bool). cond b 1 0) e
    counts r e false = refl

    by : ((f : Field) → T (within_bounds f) → accepted adds_moves (played f (presses n f)) ≡ 0) → (p : Proposal) → proposal_of g ≡ p → Proposed g p → accepted adds_moves (played g (presses (suc n) g)) ≡ 0
    by rest Refused e q = absurd q
    by rest None e q = ap (λ (rs : List Request). accepted adds_moves (played g rs)) (presses_end (suc n) g e)
    by rest (Play r) e q =
        let first = counts r (no_adding r q.1) (eqb (step_of g r).answer.number 0) in
        let others = rest (step_of g r).field (accepted_within g r (number_is g r ∙ q.0)) in
        ap (λ (rs : List Request). accepted adds_moves (played g rs)) (presses_play n g r e) ∙ sums first others

-- from the empty field with legal legs, ..
module _ (legs : Legs) (l : T (legal_legs legs)) (rs : List Request) where
  abbrev reached : Field
  reached = field_after (empty_field legs) rs

  reached_stands : Stands legs reached most_moves
  reached_stands =
      let run = from_empty legs l rs in
      record {
        first = run.first_then;
        line = run.line_then;
        runway = run.runway_then;
        stands = run.stands;
        orderly = run.orderly;
        light = light run.first_then run.line_then run.runway_then legs run.orderly;
      }

  emptied_from_empty : EmptiedOn reached
  unfolding held_requests
  emptied_from_empty =
      let none : present_on (field_after reached (held_requests reached)) ≡ 0 = empties legs most_moves reached reached_stands most_presses (omega arith) in
      let ends = ap (λ (b : Bool). cond b ending.None ending.Spent) (eq-eqb (present_on (field_after reached (held_requests reached))) 0 none) in
      let held : ◌≡◌ {A = Held} (record { ending = ending.None; played = length (held_requests reached); field = field_after reached (held_requests reached) }) (held_of reached) =
      held_is reached (bounded reached_stands) (sym ends) refl refl in
      record {
        ending = sym (ap (λ (h : Held). h.ending) held);
        nobody = sym (ap (λ (h : Held). present_on h.field) held) ∙ none;
        few_moves = (demand_3 (empty_field legs) (empty_starts legs l) rs).few_moves (held_requests reached) (no_adds most_presses reached (bounded reached_stands));
        few_ticks = rows legs most_presses reached reached_stands;
        few = le_trans (le_of_eq (sym (ap (λ (h : Held). h.played) held))) (presses_few most_presses reached);
      }

-- .. and from every empty field that a list may start from
pub emptied : Emptied
emptied f t rs = emptied_same (after_same (start_same f t) rs) (emptied_from_empty f.legs (start_legal f t) rs)
