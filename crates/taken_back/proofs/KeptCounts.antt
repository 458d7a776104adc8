-- How many kept fields count after any list of calls: the length of the history, less what it had over eight when it was longest. Assumes nothing.
use mathlib.Core.Path.{◌≡◌, refl, sym, ap, ◌∙◌, subst, subst⁻¹}
use mathlib.Core.Logic.{inl, inr}
use mathlib.Core.Bool.{Bool, true, false, cond}
use mathlib.Core.List.{List, [], ◌∷◌, ◌++◌}
use Prim.Native.Nat.{ℕ, ◌+◌, ◌-◌, ◌≤◌, ◌<◌}
use native.Mathlib.Omega.{arith}
use lib.Dec.{eqb, ltb}
use lib.ListN.{length, take, length-append}
use lib.Seq.{length-take-le}
use borrow.Author.Tests.{eq-eqb, ne_eqb, eqb-true, eqb-false, ltb-true, ltb-false}
use Rattle.limits.specs.Limits.{most_kept}
use Rattle.request.specs.Input.{within}
use Rattle.request.specs.declared.Request.{Request}
use Rattle.field.proofs.TestLaws.{decided, either_way, if_true, if_false}
use Rattle.rules.specs.declared.Answer.{Answer}
use Rattle.rules.specs.Step.{number_and_zeros, step_of}
use Rattle.rules.proofs.StepLaws.{number_is}
use Rattle.indexed.specs.Indexed.{with_index}
use Rattle.finder.specs.declared.Indexed.{Indexed}
use Rattle.history.specs.declared.History.{History}
use Rattle.history.specs.declared.SteppedHistory.{SteppedHistory}
use Rattle.history.specs.History.{keeping, number_history, step_history, within_bounds_history, number_back, field_given_back, step_back}
use Rattle.history.proofs.StepNumbers as numbers
use Rattle.taken_back.specs.Calls.{Call, request, back, called, played_calls, after_calls, with_call, with_calls, history_of, longest_from, longest_of}
use Rattle.taken_back.proofs.GivenBack.{passes}

-- a count beside a history of so many requests, which has had so many at most
pub record Counts (count long most : ℕ) : Type 0 where
  pub below : long ≤ most
  pub near : most ≤ long + most_kept
  pub exact : count ≡ long - (most - most_kept)

-- what a call leaves, where it makes the history so long
abbrev After : ℕ → ℕ → ℕ → Type 0
After count long most = Counts count long (cond (ltb most long) long most)

module _ {count long most : ℕ} (p : Counts count long most) where
  counts_same : After count long most
  counts_same = let b = p.below in either_way (Counts count long) (ltb most long) long most (λ t. let g = ltb-true most long t in absurd (omega (arith, g, b))) (λ t. p)

  -- a request more
  counts_more : After (cond (ltb count most_kept) (count + 1) count) (long + 1) most
  counts_more =
      let b = p.below in
      let n = p.near in
      let e = p.exact in
      either_way (λ (k : ℕ). After k (long + 1) most) (ltb count most_kept) (count + 1) count
      (λ t.
      let room = ltb-true count most_kept t in
      either_way (Counts (count + 1) (long + 1)) (ltb most (long + 1)) (long + 1) most
      (λ u. let g = ltb-true most (long + 1) u in record { below = omega arith; near = omega arith; exact = omega (arith, b, e, g, room) })
      (λ u. let g = ltb-false most (long + 1) u in record { below = omega (arith, g); near = omega (arith, n); exact = omega (arith, n, e, g) }))
      (λ t.
      let full = ltb-false count most_kept t in
      either_way (Counts count (long + 1)) (ltb most (long + 1)) (long + 1) most
      (λ u. let g = ltb-true most (long + 1) u in record { below = omega arith; near = omega arith; exact = omega (arith, b, e, g, full) })
      (λ u. let g = ltb-false most (long + 1) u in absurd (omega (arith, e, g, full))))

  -- one less
  counts_fewer : 0 < count → After (count - 1) (long - 1) most
  counts_fewer some =
      let b = p.below in
      let n = p.near in
      let e = p.exact in
      either_way (Counts (count - 1) (long - 1)) (ltb most (long - 1)) (long - 1) most
      (λ u. let g = ltb-true most (long - 1) u in absurd (omega (arith, g, b)))
      (λ u. record { below = omega (arith, b); near = omega (arith, e, some); exact = omega (arith, e, some) })

none_kept : (h : History) → h.count ≡ 0 → Counts h.count 0 0
none_kept h e = record { below = omega arith; near = omega arith; exact = e }

-- a step back that is accepted finds a kept field
pub some_kept : (h : History) (desk : ℕ) → number_back h desk ≡ 0 → 0 < h.count
unfolding number_back
some_kept h desk z = go (within 1 2 desk) (within_bounds_history h) (ltb 0 h.count) refl z
  where
    go : (a b k : Bool) → ltb 0 h.count ≡ k → ◌≡◌ {A = ℕ} (cond a (cond b (cond k 0 27) 10) 31) 0 → 0 < h.count
    go true true true e z = ltb-true 0 h.count e
    go true true false e z = absurd (omega (arith, z))
    go true false k e z = absurd (omega (arith, z))
    go false b k e z = absurd (omega (arith, z))

-- how many count when one more is kept
pub keeping_count : (h : History) (next : Indexed) → (keeping h next).count ≡ cond (ltb h.count most_kept) (h.count + 1) h.count
unfolding keeping
keeping_count h next = elim (decided (ltb h.count most_kept)) [
  | inl t ↦ ap (λ (g : History). g.count) (if_true _ _ t) ∙ sym (if_true _ _ t)
  | inr t ↦ ap (λ (g : History). g.count) (if_false _ _ t) ∙ sym (if_false _ _ t)
]

module _ (h : History) (rs : List Request) (most : ℕ) (p : Counts h.count (length rs) most) where
  -- what a call leaves that makes `more` of the history where it is accepted
  abbrev Left : List Request → SteppedHistory → Type 0
  Left more s = After s.after.count (length (cond (eqb s.answer.number 0) more rs)) most

  let_through : (more : List Request) (a : Answer) (g : History) → a.number ≡ 0 → After g.count (length more) most → Left more (record { answer = a; after = g })
  let_through more a g z q = subst⁻¹ (λ (l : List Request). After g.count (length l) most) (if_true more rs (eq-eqb _ _ z)) q

  turned_away : (more : List Request) (n : ℕ) → (n ≡ 0 → ⊥) → Left more (record { answer = number_and_zeros n; after = h })
  unfolding number_and_zeros
  turned_away more n z = subst⁻¹ (λ (l : List Request). After h.count (length l) most) (if_false more rs (ne_eqb n 0 z)) (counts_same p)

  requested : (r : Request) → Left (rs ++ (r ∷ [])) (step_history h r)
  requested r =
      let f = h.now.field in
      let next = with_index (step_of f r).field in
      elim (decided (eqb (number_history h r) 0)) [
        | inl e ↦
            let z = eqb-true (number_history h r) 0 e in
            subst (Left (rs ++ (r ∷ []))) (numbers.let_through h r z)
            (let_through (rs ++ (r ∷ [])) (step_of f r).answer (keeping h next) (number_is f r ∙ (passes h r z).number)
            (rw (keeping_count h next, length-append rs (r ∷ [])) (counts_more p)))
        | inr e ↦
            let z = eqb-false (number_history h r) 0 e in
            subst (Left (rs ++ (r ∷ []))) (numbers.turned_away h r refl z) (turned_away (rs ++ (r ∷ [])) (number_history h r) z)
      ]

  stepped_back : (desk : ℕ) → Left (take (length rs - 1) rs) (step_back h desk)
  unfolding number_and_zeros field_given_back
  stepped_back desk =
      let less = take (length rs - 1) rs in
      elim (decided (eqb (number_back h desk) 0)) [
        | inl e ↦
            let z = eqb-true (number_back h desk) 0 e in
            subst (Left less) (numbers.back_let_through h desk z)
            (let_through less (number_and_zeros 0) (field_given_back h) refl
            (subst⁻¹ (λ (k : ℕ). After (h.count - 1) k most) (length-take-le (length rs - 1) rs (omega arith)) (counts_fewer p (some_kept h desk z))))
        | inr e ↦
            let z = eqb-false (number_back h desk) 0 e in
            subst (Left less) (numbers.back_turned_away h desk refl z) (turned_away less (number_back h desk) z)
      ]

-- ---- any list
one_call : (h : History) (rs : List Request) (most : ℕ) → Counts h.count (length rs) most → (c : Call) → After (called h c).after.count (length (with_call rs (c, (called h c).answer))) most
one_call h rs most p (request r) = requested h rs most p r
one_call h rs most p (back desk) = stepped_back h rs most p desk

runs : (h : History) (rs : List Request) (most : ℕ) → Counts h.count (length rs) most → (cs : List Call)
    → Counts (after_calls h cs).count (length (with_calls rs (played_calls h cs))) (longest_from most rs (played_calls h cs))
runs h rs most p [] = p
runs h rs most p (c ∷ cs) =
    let s = called h c in
    let next = with_call rs (c, s.answer) in
    runs s.after next (cond (ltb most (length next)) (length next) most) (one_call h rs most p c) cs

pub count_exact : (start : History) → start.count ≡ 0 → (cs : List Call) → (after_calls start cs).count ≡ length (history_of start cs) - (longest_of start cs - most_kept)
count_exact start e cs = (runs start [] 0 (none_kept start e) cs).exact
