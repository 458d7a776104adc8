-- One call on any history: a refused one, and one step back after an accepted request. Assumes nothing.
use mathlib.Core.Path.{◌≡◌, refl, sym, ap, ◌∙◌}
use mathlib.Core.Bool.{Bool, true, false, cond}
use mathlib.Core.List.{List, [], ◌∷◌, ◌++◌}
use Prim.Native.Nat.{ℕ, ◌+◌, ◌-◌, ◌≤◌}
use native.Mathlib.Numerals.{add-one}
use native.Mathlib.Omega.{arith}
use lib.Dec.{eqb, leb, ltb}
use lib.ListN.{length, get_or, take, drop, set, length-drop}
use lib.Seq.{get_or-set_same, take_all, take_at, take-set-le, take-suc-set}
use borrow.Author.Tests.{le-leb, lt-ltb, eqb-false, ltb-true, ltb-false}
use Rattle.limits.specs.Limits.{most_kept}
use Rattle.request.specs.Input.{within, input_number}
use Rattle.request.specs.declared.Request.{Request}
use Rattle.request.proofs.InputTests.{both_left, both_right}
use Rattle.field.specs.Lists.{every}
use Rattle.field.proofs.TestLaws.{passed, either_way, if_true, if_false}
use Rattle.field.proofs.TestParts.{and_then}
use Rattle.finder.specs.declared.Indexed.{Indexed}
use Rattle.finder.specs.Finder.{within_bounds_indexed}
use Rattle.rules.specs.Step.{number_of, number_and_zeros, step_of}
use Rattle.rules.proofs.StepLaws.{number_is}
use Rattle.rules.proofs.Refusals.{accepted_within}
use Rattle.indexed.specs.Indexed.{with_index}
use Rattle.indexed.proofs.Own.{within_own}
use Rattle.history.specs.declared.History.{History}
use Rattle.history.specs.declared.SteppedHistory.{SteppedHistory}
use Rattle.history.specs.History.{counted, kept_within_bounds, within_bounds_history, keeping, number_history, step_history, number_back, field_given_back, step_back}
use Rattle.history.proofs.MovedUp.{moved_up, moved_length, moved_last}
use Rattle.history.proofs.StepNumbers as numbers
use Rattle.taken_back.specs.Calls.{Call, request, back, called}
use Rattle.taken_back.specs.TakenBack.{NothingChanged, GivenBack}

every_behind : {A : Type 0} (p : A → Bool) (l : List A) (x : A) → every p l ≡ true → p x ≡ true → every p (l ++ (x ∷ [])) ≡ true
every_behind p [] x e h = and_then h refl
every_behind p (y ∷ l) x e h = and_then (both_left (p y) (every p l) e) (every_behind p l x (both_right (p y) (every p l) e) h)

every_rest : {A : Type 0} (p : A → Bool) (l : List A) → every p l ≡ true → every p (drop 1 l) ≡ true
every_rest p [] e = refl
every_rest p (x ∷ l) e = both_right (p x) (every p l) e

-- what an accepted request has passed
pub record PassesHistory (h : History) (r : Request) : Type 0 where
  pub bounds : within_bounds_history h ≡ true
  pub number : number_of h.now.field r ≡ 0

pub passes : (h : History) (r : Request) → number_history h r ≡ 0 → PassesHistory h r
unfolding number_history
passes h r z = go (eqb (input_number r) 0) refl (within_bounds_history h) refl z
  where
    go : (a : Bool) → eqb (input_number r) 0 ≡ a → (b : Bool) → within_bounds_history h ≡ b → cond a (cond b (number_of h.now.field r) 10) (input_number r) ≡ 0 → PassesHistory h r
    go true i true w k = record { bounds = w; number = k }
    go true i false w k = absurd (omega (arith, k))
    go false i b w k = absurd (eqb-false (input_number r) 0 i k)

-- what a step back finds on g, where h was before
record Finds (h g : History) : Type 0 where
  pub bounds : within_bounds_history g ≡ true
  pub some : ltb 0 g.count ≡ true
  pub last : get_or g.kept (g.count - 1) g.now ≡ h.now
  pub rest : take (g.count - 1) g.kept ≡ cond (ltb h.count most_kept) (counted h) (drop 1 (counted h))

module _ (h : History) (places : length h.kept ≡ most_kept) (w : within_bounds_history h ≡ true) (next : Indexed) (n : within_bounds_indexed next ≡ true) where
  kept_within : kept_within_bounds h ≡ true
  unfolding within_bounds_history
  kept_within = both_left (kept_within_bounds h) (within_bounds_indexed h.now) w

  now_within : within_bounds_indexed h.now ≡ true
  unfolding within_bounds_history
  now_within = both_right (kept_within_bounds h) (within_bounds_indexed h.now) w

  each_within : every within_bounds_indexed (counted h) ≡ true
  unfolding kept_within_bounds
  each_within = both_right (leb h.count most_kept) (every within_bounds_indexed (counted h)) kept_within

  few : h.count ≤ most_kept
  few = numbers.few_kept h w

  -- the field was put behind those that count, ..
  found_behind : ltb h.count most_kept ≡ true → Finds h (record { now = next; kept = set h.kept h.count h.now; count = h.count + 1 })
  unfolding within_bounds_history kept_within_bounds
  found_behind t =
      let room = ltb-true h.count most_kept t in
      let one : h.count + 1 - 1 ≡ h.count = omega arith in
      let ks : List Indexed = set h.kept h.count h.now in
      let taken : take (h.count + 1) ks ≡ counted h ++ (h.now ∷ []) = rw add-one (take-suc-set h.kept h.count h.now (omega (arith, places, room))) in
      let each = ap (every within_bounds_indexed) taken ∙ every_behind within_bounds_indexed (counted h) h.now each_within now_within in
      record {
        bounds = and_then (and_then (le-leb (h.count + 1) most_kept (omega (arith, room))) each) n;
        some = lt-ltb 0 (h.count + 1) (omega arith);
        last = ap (λ (j : ℕ). get_or ks j next) one ∙ get_or-set_same h.kept h.count h.now next (omega (arith, places, room));
        rest = ap (λ (j : ℕ). take j ks) one ∙ take-set-le h.count h.kept h.count h.now (omega arith) ∙ sym (if_true _ _ t);
      }

  -- .. or as the eighth
  found_moved : ltb h.count most_kept ≡ false → Finds h (record { now = next; kept = moved_up h.kept h.now; count = h.count })
  unfolding within_bounds_history kept_within_bounds
  found_moved t =
      let small = few in
      let full : h.count ≡ most_kept = (let g = ltb-false h.count most_kept t in omega (arith, g, small)) in
      let ks : List Indexed = moved_up h.kept h.now in
      let long = moved_length h.kept h.now (omega (arith, places)) in
      let short = length-drop 1 h.kept in
      let all : counted h ≡ h.kept = take_all h.count h.kept (omega (arith, places, full)) in
      let each = every_rest within_bounds_indexed h.kept (ap (every within_bounds_indexed) (sym all) ∙ each_within) in
      record {
        bounds = and_then (and_then (le-leb _ _ small) (ap (every within_bounds_indexed) (take_all h.count ks (omega (arith, places, full, long)))
            ∙ every_behind within_bounds_indexed (drop 1 h.kept) h.now each now_within)) n;
        some = lt-ltb 0 h.count (omega (arith, full));
        last = moved_last h.kept h.now (h.count - 1) next (omega (arith, places, full));
        rest = take_at (drop 1 h.kept) (h.now ∷ []) (h.count - 1) (omega (arith, places, full, short)) ∙ ap (drop 1) (sym all) ∙ sym (if_false _ _ t);
      }

  found : Finds h (keeping h next)
  unfolding keeping
  found =
      either_way (Finds h) (ltb h.count most_kept)
      (record { now = next; kept = set h.kept h.count h.now; count = h.count + 1 })
      (record { now = next; kept = moved_up h.kept h.now; count = h.count })
      found_behind found_moved

-- so a field within the bounds that comes in place of the field, which is kept, keeps the bounds
pub keeping_within : (h : History) → length h.kept ≡ most_kept → within_bounds_history h ≡ true → (next : Indexed) → within_bounds_indexed next ≡ true → within_bounds_history (keeping h next) ≡ true
keeping_within h places w next n = (found h places w next n).bounds

-- an accepted request is taken back by a step back of either desk
pub given_back : (h : History) → length h.kept ≡ most_kept → (r : Request) → number_history h r ≡ 0 → (desk : ℕ) → within 1 2 desk ≡ true → GivenBack h r desk
unfolding field_given_back
given_back h places r z desk d =
    let p = passes h r z in
    let f = h.now.field in
    let next = with_index (step_of f r).field in
    let g = keeping h next in
    let within-next : within_bounds_indexed next ≡ true = within_own (step_of f r).field ∙ passed (accepted_within f r (number_is f r ∙ p.number)) in
    let x = found h places p.bounds next within-next in
    let back : step_back (step_history h r).after desk ≡ record { answer = number_and_zeros 0; after = field_given_back g } =
    ap (λ (s : SteppedHistory). step_back s.after desk) (sym (numbers.let_through h r z)) ∙ sym (numbers.back_let_through g desk (numbers.number_0 g desk d x.bounds x.some)) in
    record {
      answer = ap (λ (s : SteppedHistory). s.answer) back;
      now = ap (λ (s : SteppedHistory). s.after.now) back ∙ x.last;
      kept = ap (λ (s : SteppedHistory). counted s.after) back ∙ x.rest;
    }

-- ---- a refused call
refused_request : (h : History) (r : Request) → ((step_history h r).answer.number ≡ 0 → ⊥) → record { answer = number_and_zeros (number_history h r); after = h } ≡ step_history h r
refused_request h r k = numbers.turned_away h r refl (λ z. k (sym (ap (λ (s : SteppedHistory). s.answer.number) (numbers.let_through h r z)) ∙ number_is h.now.field r ∙ (passes h r z).number))

refused_back : (h : History) (desk : ℕ) → ((step_back h desk).answer.number ≡ 0 → ⊥) → record { answer = number_and_zeros (number_back h desk); after = h } ≡ step_back h desk
unfolding number_and_zeros
refused_back h desk k = numbers.back_turned_away h desk refl (λ z. k (sym (ap (λ (s : SteppedHistory). s.answer.number) (numbers.back_let_through h desk z))))

module _ (h : History) (c : Call) (n : ℕ) (e : record { answer = number_and_zeros n; after = h } ≡ called h c) where
  turned_away : NothingChanged h c
  unfolding number_and_zeros
  turned_away = record {
    same = sym (ap (λ (s : SteppedHistory). s.after) e);
    zeros = sym (ap (λ (s : SteppedHistory). s.answer) e) ∙ ap (λ (s : SteppedHistory). number_and_zeros s.answer.number) e;
  }

pub nothing_changed : (h : History) (c : Call) → ((called h c).answer.number ≡ 0 → ⊥) → NothingChanged h c
nothing_changed h (request r) k = turned_away h (request r) (number_history h r) (refused_request h r k)
nothing_changed h (back desk) k = turned_away h (back desk) (number_back h desk) (refused_back h desk k)
