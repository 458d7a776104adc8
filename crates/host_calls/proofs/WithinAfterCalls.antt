-- From a history within the bounds, whatever a host calls: the bounds hold after it, and 10 never comes. Assumes nothing.
use mathlib.Core.Path.{◌≡◌, refl, sym, ap, subst⁻¹, ◌∙◌}
use mathlib.Core.Logic.{inl, inr}
use mathlib.Core.Bool.{Bool, true, false, cond, not, ◌&&◌}
use mathlib.Core.List.{List, [], ◌∷◌}
use Prim.Native.Nat.{ℕ, zero, suc, ◌-◌, ◌<◌, ◌≤◌}
use native.Mathlib.Omega.{arith}
use lib.Dec.{eqb, leb, ltb}
use lib.ListN.{get_or, take}
use lib.Ieee.Fits.{and_i}
use borrow.Author.Tests.{le-leb, eqb-true, eqb-false, ne_eqb, ltb-true}
use Rattle.limits.specs.Limits.{fastest, desks, most_presses, most_kept}
use Rattle.request.specs.Input.{within, first_refused, input_number}
use Rattle.request.specs.declared.Request.{Request}
use Rattle.request.proofs.InputTests.{both_left, both_right}
use Rattle.practice.specs.declared.FileLegs.{FileLegs}
use Rattle.practice.specs.File.{legs_allowed}
use Rattle.playing.specs.Playing.{legs_in_miles}
use Rattle.playing.proofs.PlayedFiles.{file_legs_legal}
use Rattle.field.specs.declared.Field.{Field}
use Rattle.field.specs.Airspace.{empty_field, order_of}
use Rattle.questions.specs.Counts.{present_on}
use Rattle.field.specs.Lists.{every}
use Rattle.field.proofs.TestLaws.{passed, pass, fail, either_way}
use Rattle.field.proofs.TestParts.{and_then}
use Rattle.finder.specs.declared.Indexed.{Indexed}
use Rattle.finder.specs.Finder.{within_bounds_indexed}
use Rattle.bounds.specs.Bounds.{within_bounds}
use Rattle.rules.specs.Step.{checks_of, effect_of, number_of, number_and_zeros}
use Rattle.rules.proofs.Checks.{never_without, need_numbers, refused_by, need_never, input_never, checks_numbered, input_numbered, first_passes}
use Rattle.step.proofs.StepsByTests.{number_by}
use Rattle.reason.proofs.Reason.{empty_sound}
use Rattle.indexed.specs.Indexed.{with_index}
use Rattle.indexed.proofs.Own.{within_own}
use Rattle.history.specs.declared.History.{History}
use Rattle.history.specs.declared.SteppedHistory.{SteppedHistory}
use Rattle.history.specs.History.{counted, start_with, start_of, kept_within_bounds, within_bounds_history, number_back, field_given_back, step_back}
use Rattle.history.proofs.StepNumbers as numbers
use Rattle.press.specs.declared.Proposal.{Proposal}
use Rattle.press.specs.declared.Proposal.TheVariants.{Refused, None, Play}
use Rattle.press.specs.Press.{candidates, head_move, long_tick, first_accepted}
use Rattle.press.proofs.Proposals.{proposal_is}
use Rattle.press.specs.HeldDown.{ending_number}
use Rattle.press_kept.specs.PressKept.{proposal_kept, played_kept, press_kept, presses_kept, after_asked, ending_kept, held_kept}
use Rattle.gaps.specs.declared.Spacings.{Spacings}
use Rattle.gaps.specs.Gaps as gaps
use Rattle.gaps.specs.Gaps.{legal_spacing, pairs_in, gaps_of}
use Rattle.dialect.specs.declared.Listing.{Listing}
use Rattle.dialect_field.specs.declared.Built.{Built}
use Rattle.dialect.specs.Going as going
use Rattle.dialect.specs.Going.{in_dialect, entries_of, list_of}
use Rattle.dialect_field.specs.Coming.{list_allowed, entries_in, built, coming_number, not_built, field_of_list}
use Rattle.layout.specs.Held.{HistoryHeld}
use Rattle.layout.proofs.CallsReadBack.{start_held, legs_in_64ths_held}
use Rattle.host.specs.Calls.{start_number, spacings_of, listing_of}
use Rattle.host.specs.Calls.{HostCall, start, ask, back, press, hold_down, spaced, listed, built_from}
use Rattle.host.specs.Calls.{reply_of, left_by}
use Rattle.host_calls.specs.HostCalls.{replies_of}
use Rattle.host_calls.specs.FromStart.{never_replied, StaysWithin}
use Rattle.host_calls.proofs.Held.{left_held}
use Rattle.host_calls.proofs.Button.{now_within, field_within, answered_same, proposed_same, step_within, asked_within}
use Rattle.host_calls.proofs.OnTheBytes.{ended_0}

-- ---- a test that each of the first n passes
first_pass : {A : Type 0} (p : A → Bool) (l : List A) (n i : ℕ) (d : A) → every p (take n l) ≡ true → p d ≡ true → i < n → p (get_or l i d) ≡ true
first_pass p [] n i d e h k = h
first_pass p (x ∷ l) zero i d e h k = absurd (omega arith)
first_pass p (x ∷ l) (suc n) zero d e h k = both_left (p x) (every p (take n l)) e
first_pass p (x ∷ l) (suc n) (suc i) d e h k = first_pass p l n i d (both_right (p x) (every p (take n l)) e) h (omega arith)

fewer_pass : {A : Type 0} (p : A → Bool) (l : List A) (m n : ℕ) → every p (take n l) ≡ true → m ≤ n → every p (take m l) ≡ true
fewer_pass p l zero n e k = refl
fewer_pass p [] (suc m) n e k = refl
fewer_pass p (x ∷ l) (suc m) zero e k = absurd (omega arith)
fewer_pass p (x ∷ l) (suc m) (suc n) e k = and_then (both_left (p x) (every p (take n l)) e) (fewer_pass p l m n (both_right (p x) (every p (take n l)) e) (omega arith))

-- ---- the bounds hold after a call

-- a step back that is accepted finds a kept field, ..
some_kept : (h : History) (desk : ℕ) → number_back h desk ≡ 0 → 0 < h.count
unfolding number_back
some_kept h desk e =
    let last : List (ℕ × Bool) = (27, ltb 0 h.count) ∷ [] in
    let desk-passed = first_passes 31 (within 1 desks desk) ((10, within_bounds_history h) ∷ last) (omega arith) e in
    let bounds-passed = first_passes 10 (within_bounds_history h) last (omega arith) desk-passed.1 in
    ltb-true 0 h.count (first_passes 27 (ltb 0 h.count) [] (omega arith) bounds-passed.1).0

-- .. which is within the bounds, as those before it are
given_within : (h : History) → within_bounds_history h ≡ true → 0 < h.count → within_bounds_history (field_given_back h) ≡ true
unfolding within_bounds_history kept_within_bounds field_given_back
given_within h w some =
    let few = numbers.few_kept h w in
    let kept = leb h.count most_kept && every within_bounds_indexed (counted h) in
    let each = both_right (leb h.count most_kept) (every within_bounds_indexed (counted h)) (both_left kept (within_bounds_indexed h.now) w) in
    and_then (and_then (le-leb (h.count - 1) most_kept (omega (arith, few))) (fewer_pass within_bounds_indexed h.kept (h.count - 1) h.count each (omega arith)))
    (first_pass within_bounds_indexed h.kept h.count (h.count - 1) h.now each (both_right kept (within_bounds_indexed h.now) w) (omega (arith, some)))

back_within : (h : History) (desk : ℕ) → within_bounds_history h ≡ true → within_bounds_history (step_back h desk).after ≡ true
unfolding step_back
back_within h desk w =
    either_way (λ (s : SteppedHistory). within_bounds_history s.after ≡ true) (eqb (number_back h desk) 0) _ _
    (λ e. given_within h w (some_kept h desk (eqb-true (number_back h desk) 0 e))) (λ e. w)

-- what is begun with a field within the bounds is within them
begun_within : (x : Indexed) → within_bounds_indexed x ≡ true → within_bounds_history (start_with x) ≡ true
unfolding start_with within_bounds_history kept_within_bounds
begun_within x e = e

started_within : (legs : FileLegs) → legs_allowed legs ≡ true → within_bounds_history (start_of (legs_in_miles legs)) ≡ true
unfolding start_of
started_within legs e =
    let f = empty_field (legs_in_miles legs) in
    begun_within (with_index f) (within_own f ∙ passed (empty_sound (legs_in_miles legs) (file_legs_legal legs e)).bounds)

allowed : (legs : FileLegs) → start_number legs ≡ 0 → legs_allowed legs ≡ true
allowed legs e = (first_passes 7 (legs_allowed legs) [] (omega arith) e).0

built_within : (legs : FileLegs) (speed : ℕ) (bytes : List ℕ) → (field_of_list legs speed bytes).number ≡ 0 → within_bounds_indexed (field_of_list legs speed bytes).after ≡ true
unfolding field_of_list not_built coming_number
built_within legs speed bytes =
    let x = with_index (built (legs_in_miles legs) speed (entries_in bytes)) in
    either_way (λ (b : Built). b.number ≡ 0 → within_bounds_indexed b.after ≡ true) (eqb (coming_number legs speed bytes) 0) _ _
    (λ z e.
    let passes = eqb-true (coming_number legs speed bytes) 0 z in
    let p7 = first_passes 7 (legs_allowed legs) ((4, within 1 fastest speed) ∷ (29, list_allowed bytes) ∷ (25, within_bounds_indexed x) ∷ []) (omega arith) passes in
    let p4 = first_passes 4 (within 1 fastest speed) ((29, list_allowed bytes) ∷ (25, within_bounds_indexed x) ∷ []) (omega arith) p7.1 in
    let p29 = first_passes 29 (list_allowed bytes) ((25, within_bounds_indexed x) ∷ []) (omega arith) p4.1 in
    (first_passes 25 (within_bounds_indexed x) [] (omega arith) p29.1).0)
    (λ z e. absurd (eqb-false (coming_number legs speed bytes) 0 z e))

-- a press
played_within : (h : History) (p : Proposal) → HistoryHeld h → within_bounds_history h ≡ true → within_bounds_history (played_kept h p).after ≡ true
played_within h Refused k w = w
played_within h None k w = w
played_within h (Play r) k w = step_within h w k.places r

left_within : (h : History) (c : HostCall) → HistoryHeld h → within_bounds_history h ≡ true → within_bounds_history (left_by h c) ≡ true
unfolding press_kept held_kept
left_within h (start legs) k w =
    either_way (λ (g : History). within_bounds_history g ≡ true) (eqb (start_number legs) 0) _ h
    (λ e. started_within legs (allowed legs (eqb-true (start_number legs) 0 e))) (λ e. w)
left_within h (ask r) k w = step_within h w k.places r
left_within h (back desk) k w = back_within h desk w
left_within h press k w = played_within h (proposal_kept h) k w
left_within h hold_down k w = asked_within h k.places w (presses_kept most_presses h)
left_within h (spaced n) k w = w
left_within h listed k w = w
left_within h (built_from legs speed bytes) k w =
    either_way (λ (g : History). within_bounds_history g ≡ true) (eqb (field_of_list legs speed bytes).number 0) _ h
    (λ e. begun_within (field_of_list legs speed bytes).after (built_within legs speed bytes (eqb-true (field_of_list legs speed bytes).number 0 e))) (λ e. w)

-- ---- 10 never comes

-- no request has that number on a field within the bounds
number_not_10 : (f : Field) → within_bounds f ≡ true → (r : Request) → number_of f r ≡ 10 → ⊥
number_not_10 f w r e =
    let n = first_refused (checks_of f r) in
    let number : number_of f r ≡ cond (eqb (input_number r) 0) (cond (eqb n 0) (cond (within_bounds (effect_of f r)) 0 25) n) (input_number r) =
    number_by f r ∙ ap (λ (b : Bool). cond (eqb (input_number r) 0) (cond b (cond (eqb n 0) (cond (within_bounds (effect_of f r)) 0 25) n) 10) (input_number r)) w in
    let is-10 = sym number ∙ e in
    either_way (λ (m : ℕ). m ≡ 10 → ⊥) (eqb (input_number r) 0) _ (input_number r)
    (λ i. either_way (λ (m : ℕ). m ≡ 10 → ⊥) (eqb n 0) _ n
    (λ c. either_way (λ (m : ℕ). m ≡ 10 → ⊥) (within_bounds (effect_of f r)) 0 25 (λ b q. omega arith) (λ b q. omega arith))
    (λ c q. elim (refused_by need_numbers (checks_of f r) (checks_numbered f r)) [ inl z ↦ eqb-false n 0 c z | inr t ↦ (need_never n t).not_10 q ]))
    (λ i q. elim (input_numbered r) [ inl z ↦ eqb-false (input_number r) 0 i z | inr t ↦ (input_never (input_number r) t).not_10 q ]) is-10

-- nor does a press refuse such a field
abbrev Proposes : Proposal → Type 0
Proposes Refused = ⊥
Proposes None = Unit {0}
Proposes (Play r) = Unit {0}

proposes : (f : Field) (cs : List (ℕ × ℕ)) → Proposes (first_accepted f cs)
proposes f [] = either_way Proposes (eqb (present_on f) 0) None (Play long_tick) (λ e. tt) (λ e. tt)
proposes f (c ∷ cs) = either_way Proposes (eqb (number_of f (head_move f c)) 0) (Play (head_move f c)) _ (λ e. tt) (λ e. proposes f cs)

-- the number of a press
played_not_10 : (h : History) → within_bounds_history h ≡ true → (p : Proposal) → Proposes p → (played_kept h p).answer.number ≡ 10 → ⊥
unfolding number_and_zeros
played_not_10 h w Refused n e = n
played_not_10 h w None n e = omega (arith, e)
played_not_10 h w (Play r) n e = number_not_10 h.now.field (field_within h w) r (sym (answered_same h w r) ∙ e)

module _ (h : History) (w : within_bounds_history h ≡ true) where
  abbrev f : Field
  f = h.now.field

  pressed_not_10 : (played_kept h (proposal_kept h)).answer.number ≡ 10 → ⊥
  pressed_not_10 = played_not_10 h w (proposal_kept h) (subst⁻¹ Proposes (proposed_same h w ∙ proposal_is f (pass (field_within h w))) (proposes f candidates))

  back_not_10 : (desk : ℕ) → (step_back h desk).answer.number ≡ 10 → ⊥
  unfolding step_back number_back number_and_zeros
  back_not_10 desk =
      let checks : List (ℕ × Bool) = (31, within 1 desks desk) ∷ (10, within_bounds_history h) ∷ (27, ltb 0 h.count) ∷ [] in
      either_way (λ (s : SteppedHistory). s.answer.number ≡ 10 → ⊥) (eqb (first_refused checks) 0) _ _ (λ z e. omega (arith, e))
      (λ z. subst⁻¹ (λ (b : Bool). first_refused ((31, within 1 desks desk) ∷ (10, b) ∷ (27, ltb 0 h.count) ∷ []) ≡ 10 → ⊥) w (back_by (within 1 desks desk) (ltb 0 h.count)))
    where
      back_by : (a b : Bool) → first_refused ((31, a) ∷ (10, true) ∷ (27, b) ∷ []) ≡ 10 → ⊥
      back_by true true e = omega (arith, e)
      back_by true false e = omega (arith, e)
      back_by false b e = omega (arith, e)

  spacing_not_10 : (n : ℕ) → (spacings_of h n).number ≡ 10 → ⊥
  unfolding spacings_of gaps_of gaps.pairs_listed gaps.spacing_refused
  spacing_not_10 n =
      let other : Spacings = gaps.spacing_refused 4 in
      let pairs : Spacings = gaps.pairs_listed (pairs_in f n (order_of f.sequence)) in
      let by : Bool → Bool → Bool → Spacings = λ l a b. cond l (cond a (cond l (cond b pairs (gaps.spacing_refused 10)) other) (gaps.spacing_refused 10)) other in
      subst⁻¹ (λ (a : Bool). (by (legal_spacing n) a (within_bounds f)).number ≡ 10 → ⊥) w
      (subst⁻¹ (λ (b : Bool). (by (legal_spacing n) true b).number ≡ 10 → ⊥) (field_within h w) (legal (legal_spacing n) pairs other (λ e. omega (arith, e)) (λ e. omega (arith, e))))
    where
      legal : (l : Bool) (x y : Spacings) → (x.number ≡ 10 → ⊥) → (y.number ≡ 10 → ⊥) → (cond l (cond l x y) y).number ≡ 10 → ⊥
      legal true x y p q = p
      legal false x y p q = q

  list_not_10 : (listing_of h).number ≡ 10 → ⊥
  unfolding listing_of list_of going.entries_listed going.list_refused
  list_not_10 =
      subst⁻¹ (λ (a : Bool). (cond a (list_of h.now) (going.list_refused 10)).number ≡ 10 → ⊥) w
      (subst⁻¹ (λ (b : Bool). (cond b (cond (in_dialect f) (going.entries_listed (entries_of f)) (going.list_refused 29)) (going.list_refused 10)).number ≡ 10 → ⊥) (now_within h w)
      (either_way (λ (l : Listing). l.number ≡ 10 → ⊥) (in_dialect f) _ _ (λ e q. omega (arith, q)) (λ e q. omega (arith, q))))

start_not_10 : (legs : FileLegs) → start_number legs ≡ 10 → ⊥
start_not_10 legs = either_way (λ (n : ℕ). n ≡ 10 → ⊥) (legs_allowed legs) 0 7 (λ e q. omega (arith, q)) (λ e q. omega (arith, q))

field_not_10 : (legs : FileLegs) (speed : ℕ) (bytes : List ℕ) → (field_of_list legs speed bytes).number ≡ 10 → ⊥
unfolding field_of_list not_built coming_number
field_not_10 legs speed bytes =
    either_way (λ (b : Built). b.number ≡ 10 → ⊥) (eqb (coming_number legs speed bytes) 0) _ _ (λ z e. omega (arith, e))
    (λ z. never_without 10 (omega arith)
    ((7, legs_allowed legs)
    ∷ (4, within 1 fastest speed)
    ∷ (29, list_allowed bytes)
    ∷ (25, within_bounds_indexed (with_index (built (legs_in_miles legs) speed (entries_in bytes))))
    ∷ [])
    tt)

reply_not_10 : (h : History) (c : HostCall) → within_bounds_history h ≡ true → (reply_of h c).number ≡ 10 → ⊥
unfolding press_kept held_kept
reply_not_10 h (start legs) w = start_not_10 legs
reply_not_10 h (ask r) w = λ e. number_not_10 h.now.field (field_within h w) r (sym (answered_same h w r) ∙ e)
reply_not_10 h (back desk) w = back_not_10 h w desk
reply_not_10 h press w = pressed_not_10 h w
reply_not_10 h hold_down w = λ e.
    let after = (after_asked h (presses_kept most_presses h)).now.field in
    let n = sym (ap (λ (b : Bool). ending_number (ending_kept b after)) w ∙ ended_0 after) ∙ e in
    omega (arith, n)
reply_not_10 h (spaced n) w = spacing_not_10 h w n
reply_not_10 h listed w = list_not_10 h w
reply_not_10 h (built_from legs speed bytes) w = field_not_10 legs speed bytes

-- ---- any list

pub stays_within : (h : History) (cs : List HostCall) → HistoryHeld h → within_bounds_history h ≡ true → StaysWithin h cs
stays_within h [] k w = record { bounds = pass w; no_10 = tt }
stays_within h (c ∷ cs) k w =
    let rest = stays_within (left_by h c) cs (left_held h c k) (left_within h c k w) in
    record {
      bounds = rest.bounds;
      no_10 = and_i (not (eqb (reply_of h c).number 10)) (never_replied 10 (replies_of (left_by h c) cs)) (fail (ne_eqb _ _ (reply_not_10 h c w))) rest.no_10;
    }

-- so from every start with legal legs
pub stays_within_from_start : (legs : FileLegs) → legs_allowed legs ≡ true → (cs : List HostCall) → StaysWithin (start_of (legs_in_miles legs)) cs
stays_within_from_start legs e cs =
    stays_within (start_of (legs_in_miles legs)) cs (start_held (legs_in_miles legs) (legs_in_64ths_held legs.missed legs.base legs.intermediate legs.final_approach)) (started_within legs e)
