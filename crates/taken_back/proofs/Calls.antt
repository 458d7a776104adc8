-- Any list of requests and steps back from a history that calls may start from: the field and its kept ones follow the history. Assumes nothing.
use mathlib.Core.Path.{◌≡◌, refl, sym, ap, ◌∙◌, subst⁻¹}
use mathlib.Core.Logic.{inl, inr}
use mathlib.Core.Bool.{true, cond, not}
use mathlib.Core.List.{List, [], ◌∷◌, ◌++◌, map}
use Prim.Native.Nat.{ℕ, ◌+◌, ◌-◌}
use native.Mathlib.Omega.{arith}
use lib.Dec.{T, eqb, ltb}
use lib.ListN.{length, take}
use lib.Ieee.Fits.{and_i}
use borrow.Author.Tests.{le-leb, eq-eqb, ne_eqb, eqb-true, eqb-false, ltb-true}
use Rattle.request.specs.Input.{within}
use Rattle.request.specs.declared.Request.{Request}
use Rattle.field.specs.declared.Field.{Field}
use Rattle.field.proofs.TestLaws.{passed, fail, decided, if_true, if_false}
use Rattle.field.proofs.TestParts.{and_then}
use Rattle.finder.specs.declared.Indexed.{Indexed}
use Rattle.finder.specs.Finder.{within_bounds_indexed}
use Rattle.rules.specs.declared.Answer.{Answer}
use Rattle.rules.specs.declared.Stepped.{Stepped}
use Rattle.rules.specs.Step.{number_of, number_and_zeros, step_of}
use Rattle.rules.specs.Play.{field_after, played}
use Rattle.rules.specs.Reason.{Sound}
use Rattle.rules.proofs.StepLaws.{number_is, field_refused}
use Rattle.step.proofs.StepsByTests as step
use Rattle.reason.proofs.Reason.{start_sound, sound_after, neither_10_nor_25}
use Rattle.demand.specs.Exact.{ExactOf}
use Rattle.demand.proofs.Demand.{demand_3}
use Rattle.demand.proofs.Exact.{exactness}
use Rattle.indexed.specs.Indexed.{with_index, number_indexed}
use Rattle.indexed.proofs.Own.{within_own, number_own}
use Rattle.history.specs.declared.History.{History}
use Rattle.history.specs.declared.SteppedHistory.{SteppedHistory}
use Rattle.history.specs.History.{kept_within_bounds, within_bounds_history, keeping, number_history, step_history, number_back, field_given_back, step_back}
use Rattle.taken_back.specs.Calls.{Call, request, back, called, played_calls, after_calls, with_call, with_calls, history_of}
use Rattle.history.proofs.StepNumbers as numbers
use Rattle.taken_back.specs.TakenBack.{never_answered, Follows, TakenBack, TakenBackExactly, as_call, NoneTakenBack}
use Rattle.taken_back.proofs.PlayedBehind.{after_behind, every_read}
use Rattle.taken_back.proofs.Starts.{starts}
use Rattle.taken_back.proofs.KeptCounts.{count_exact}
use Rattle.taken_back.proofs.Follows.{field_now, follows_start, follows_keeping, follows_given}

module _ (empty : Field) (sound : Sound empty) where
  reached : (rs : List Request) → Sound (field_after empty rs)
  reached = sound_after empty sound

  bounded_at : (rs : List Request) → within_bounds_indexed (with_index (field_after empty rs)) ≡ true
  bounded_at rs = within_own (field_after empty rs) ∙ passed (reached rs).bounds

  -- ---- one call
  module _ (h : History) (rs : List Request) (p : Follows empty h rs) where
    abbrev f : Field
    f = field_after empty rs

    -- the bounds hold
    kept_within : kept_within_bounds h ≡ true
    unfolding kept_within_bounds
    kept_within =
        let few = p.few in
        let places = p.places in
        and_then (le-leb _ _ few)
        (every_read within_bounds_indexed h.kept h.count h.now (omega (arith, few, places))
        (λ i k. ap within_bounds_indexed (p.kept i h.now k) ∙ bounded_at (take (length rs - h.count + i) rs)))

    pub bounded : within_bounds_history h ≡ true
    unfolding within_bounds_history
    bounded = and_then kept_within (ap within_bounds_indexed p.now ∙ bounded_at rs)

    -- so a request has the number that it has on the field
    number : (r : Request) → number_history h r ≡ number_of f r
    number r = numbers.number_now h r kept_within ∙ ap (λ (x : Indexed). number_indexed x r) p.now ∙ number_own f r

    -- what a call leaves that makes `more` of the history where it is accepted
    record Answered (more : List Request) (s : SteppedHistory) : Type 0 where
      pub follows : Follows empty s.after (cond (eqb s.answer.number 0) more rs)
      pub not_10 : s.answer.number ≡ 10 → ⊥
      pub not_25 : s.answer.number ≡ 25 → ⊥

    turned_away : (more : List Request) (n : ℕ) → (n ≡ 0 → ⊥) → (n ≡ 10 → ⊥) → (n ≡ 25 → ⊥) → Answered more (record { answer = number_and_zeros n; after = h })
    unfolding number_and_zeros
    turned_away more n z a b = record { follows = subst⁻¹ (Follows empty h) (if_false more rs (ne_eqb n 0 z)) p; not_10 = a; not_25 = b }

    let_through : (more : List Request) (a : Answer) (g : History) → a.number ≡ 0 → Follows empty g more → Answered more (record { answer = a; after = g })
    let_through more a g z q =
        record { follows = subst⁻¹ (Follows empty g) (if_true more rs (eq-eqb _ _ z)) q; not_10 = λ e. omega (arith, z, e); not_25 = λ e. omega (arith, z, e) }

    -- a request that is accepted, and one that is refused
    accepted_is : (r : Request) → number_of f r ≡ 0 → step_history h r ≡ record { answer = (step_of f r).answer; after = keeping h (with_index (step_of f r).field) }
    accepted_is r z =
        sym (numbers.let_through h r (number r ∙ z))
        ∙ ap (λ (g : Field). record { answer = (step_of g r).answer; after = keeping h (with_index (step_of g r).field) }) (field_now empty h rs p)

    refused_is : (r : Request) → (number_of f r ≡ 0 → ⊥) → step_history h r ≡ record { answer = number_and_zeros (number_of f r); after = h }
    refused_is r z = sym (numbers.turned_away h r (number r) z)

    requested : (r : Request) → Answered (rs ++ (r ∷ [])) (step_history h r)
    requested r =
        elim (decided (eqb (number_of f r) 0)) [
          | inl e ↦
              let z = eqb-true (number_of f r) 0 e in
              subst⁻¹ (Answered (rs ++ (r ∷ []))) (accepted_is r z) (let_through (rs ++ (r ∷ [])) (step_of f r).answer _ (number_is f r ∙ z) (follows_keeping empty h rs p r z))
          | inr e ↦
              let z = eqb-false (number_of f r) 0 e in
              let n = neither_10_nor_25 f (reached rs) r in
              subst⁻¹ (Answered (rs ++ (r ∷ []))) (refused_is r z) (turned_away (rs ++ (r ∷ [])) (number_of f r) z n.0 n.1)
        ]

    stepped_back : (desk : ℕ) → Answered (take (length rs - 1) rs) (step_back h desk)
    unfolding number_and_zeros
    stepped_back desk =
        elim (decided (within 1 2 desk)) [
          | inl d ↦
              elim (decided (ltb 0 h.count)) [
                | inl k ↦
                    subst⁻¹ (Answered (take (length rs - 1) rs)) (sym (numbers.back_let_through h desk (numbers.number_0 h desk d bounded k)))
                    (let_through (take (length rs - 1) rs) (number_and_zeros 0) (field_given_back h) refl (follows_given empty h rs p (ltb-true 0 h.count k)))
                | inr k ↦ refused 27 (numbers.number_27 h desk d bounded k) (λ e. omega arith) (λ e. omega arith) (λ e. omega arith)
              ]
          | inr d ↦ refused 31 (numbers.number_31 h desk d) (λ e. omega arith) (λ e. omega arith) (λ e. omega arith)
        ]
      where
        refused : (n : ℕ) → number_back h desk ≡ n → (n ≡ 0 → ⊥) → (n ≡ 10 → ⊥) → (n ≡ 25 → ⊥) → Answered (take (length rs - 1) rs) (step_back h desk)
        refused n e z a b = subst⁻¹ (Answered (take (length rs - 1) rs)) (sym (numbers.back_turned_away h desk e z)) (turned_away (take (length rs - 1) rs) n z a b)

  -- one call on a history that follows: it follows after it, and is answered neither 10 nor 25
  pub record Called (h : History) (rs : List Request) (c : Call) : Type 0 where
    pub follows : Follows empty (called h c).after (with_call rs (c, (called h c).answer))
    pub not_10 : (called h c).answer.number ≡ 10 → ⊥
    pub not_25 : (called h c).answer.number ≡ 25 → ⊥

  pub one_call : (h : History) (rs : List Request) → Follows empty h rs → (c : Call) → Called h rs c
  one_call h rs p (request r) = let a = requested h rs p r in record { follows = a.follows; not_10 = a.not_10; not_25 = a.not_25 }
  one_call h rs p (back desk) = let a = stepped_back h rs p desk in record { follows = a.follows; not_10 = a.not_10; not_25 = a.not_25 }

  -- ---- any list
  record Ran (h : History) (rs : List Request) (cs : List Call) : Type 0 where
    pub follows : Follows empty (after_calls h cs) (with_calls rs (played_calls h cs))
    pub no_10 : T (never_answered 10 (played_calls h cs))
    pub no_25 : T (never_answered 25 (played_calls h cs))

  runs : (h : History) (rs : List Request) → Follows empty h rs → (cs : List Call) → Ran h rs cs
  runs h rs p [] = record { follows = p; no_10 = tt; no_25 = tt }
  runs h rs p (c ∷ cs) =
      let a = one_call h rs p c in
      let s = called h c in
      let rest = runs s.after (with_call rs (c, s.answer)) a.follows cs in
      record {
        follows = rest.follows;
        no_10 = and_i (not (eqb s.answer.number 10)) (never_answered 10 (played_calls s.after cs)) (fail (ne_eqb _ _ a.not_10)) rest.no_10;
        no_25 = and_i (not (eqb s.answer.number 25)) (never_answered 25 (played_calls s.after cs)) (fail (ne_eqb _ _ a.not_25)) rest.no_25;
      }

  -- ---- requests alone
  module _ (h : History) (rs : List Request) (p : Follows empty h rs) (r : Request) where
    -- the answer is that on the field, ..
    answer_same : (step_history h r).answer ≡ (step_of (field_after empty rs) r).answer
    answer_same =
        let f = field_after empty rs in
        elim (decided (eqb (number_of f r) 0)) [
          | inl e ↦ ap (λ (s : SteppedHistory). s.answer) (accepted_is h rs p r (eqb-true (number_of f r) 0 e))
          | inr e ↦
              let z = eqb-false (number_of f r) 0 e in
              ap (λ (s : SteppedHistory). s.answer) (refused_is h rs p r z) ∙ ap (λ (s : Stepped). s.answer) (step.turned_away f r refl z)
        ]

    -- .. and so is the field
    field_same : field_after empty (with_call rs (request r, (step_history h r).answer)) ≡ (step_of (field_after empty rs) r).field
    field_same =
        let f = field_after empty rs in
        let n : (step_history h r).answer.number ≡ number_of f r = ap (λ (a : Answer). a.number) answer_same ∙ number_is f r in
        ap (λ (k : ℕ). field_after empty (cond (eqb k 0) (rs ++ (r ∷ [])) rs)) n
        ∙ elim (decided (eqb (number_of f r) 0)) [
          | inl e ↦ ap (field_after empty) (if_true (rs ++ (r ∷ [])) rs e) ∙ after_behind empty rs (r ∷ [])
          | inr e ↦ ap (field_after empty) (if_false (rs ++ (r ∷ [])) rs e) ∙ sym (field_refused f r (eqb-false (number_of f r) 0 e))
        ]

  record Alone (h : History) (f : Field) (qs : List Request) : Type 0 where
    pub answers : played_calls h (map request qs) ≡ map as_call (played f qs)
    pub now : (after_calls h (map request qs)).now ≡ with_index (field_after f qs)

  alone : (h : History) (rs : List Request) → Follows empty h rs → (qs : List Request) → Alone h (field_after empty rs) qs
  alone h rs p [] = record { answers = refl; now = p.now }
  alone h rs p (r ∷ qs) =
      let s = step_history h r in
      let f = field_after empty rs in
      let rest = alone s.after (with_call rs (request r, s.answer)) (one_call h rs p (request r)).follows qs in
      let same = field_same h rs p r in
      record {
        answers =
            ap (λ (a : Answer). (request r, a) ∷ played_calls s.after (map request qs)) (answer_same h rs p r)
            ∙ ap (λ (ps : List (Call × Answer)). (request r, (step_of f r).answer) ∷ ps) (rest.answers ∙ ap (λ (g : Field). map as_call (played g qs)) same);
        now = rest.now ∙ ap (λ (g : Field). with_index (field_after g qs)) same;
      }

-- ---- from every start
pub taken_back : TakenBack
taken_back start t cs =
    let p = starts start t in
    let f = start.now.field in
    let run = runs f (start_sound f p.empty) start [] (follows_start start t) cs in
    record { follows = run.follows; count = count_exact start p.none cs; no_10 = run.no_10; no_25 = run.no_25; demand = demand_3 f p.empty (history_of start cs) }

pub none_taken_back : NoneTakenBack
none_taken_back start t rs =
    let f = start.now.field in
    let a = alone f (start_sound f (starts start t).empty) start [] (follows_start start t) rs in
    record { answers = a.answers; now = a.now }

-- exactness, over the history
pub taken_back_exactly : TakenBackExactly
taken_back_exactly w start t l cs =
    let f = start.now.field in
    let rs = history_of start cs in
    subst⁻¹ (ExactOf w (played f rs)) (field_now f (after_calls start cs) rs (taken_back start t cs).follows) (exactness w f (starts start t).empty l rs)
