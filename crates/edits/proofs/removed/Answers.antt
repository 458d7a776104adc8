-- `edits::removed` meets its contract: the definition takes the arm of the test. Assumes nothing.
use Rattle.std.proofs.Common.{◌≡◌, ℕ, suc, ◌+◌, ◌-◌, ◌<◌, ◌≤◌, Bool, true, false, cond, not, List, [], ◌∷◌, length, eqb, ltb, Some, None, refl, sym, ap, ◌∙◌, arith, rules}
use Rattle.std.proofs.Math.ListN.{length-take}
use Rattle.std.proofs.lemmas.Iterator.{YieldsList-from_slice}
use Rattle.std.proofs.lemmas.Iterator.Search.{position_from_yields_List}
use Rattle.std.specs.List.{position_or_len}
use borrow.Author.Tests.{tests, lt-ltb, le-ltb, ltb-true, ltb-false}
use Rattle.field.specs.declared.Sequence.{Sequence}
use Rattle.field.specs.Airspace.{order_of}
use Rattle.edits.specs.Edits.{before, removed, closed_up}
use Rattle.edits.proofs.removed.Goals as goal

one_more : (t : Bool) {m n : ℕ} → m ≡ n → cond (not t) (1 + m) 0 ≡ cond t 0 (suc n)
one_more true e = refl
one_more false e = omega arith

-- the index at which a number is found is how many stand before it
stands : (number : ℕ) (ns : List ℕ) → position_or_len (λ n. eqb n number) ns ≡ before number ns
stands number [] = refl
stands number (n ∷ ns) = one_more (eqb n number) (stands number ns)

-- what is found where a number is present among n, with b before it, ..
present : (b n : ℕ) {k : ℕ} → cond (ltb b n) (Some b) None ≡ Some k → (k ≡ b) × (b < n)
present b n {k} e = by (ltb b n) refl e
  where
    by : (t : Bool) → ltb b n ≡ t → cond t (Some b) None ≡ Some k → (k ≡ b) × (b < n)
    by true h e = (cc, ltb-true b n h)
    by false h e = cc

-- .. and where it is absent
absent : (b n : ℕ) → cond (ltb b n) (Some b) None ≡ None → n ≤ b
absent b n e = by (ltb b n) refl e
  where
    by : (t : Bool) → ltb b n ≡ t → cond t (Some b) None ≡ None → n ≤ b
    by true h e = cc
    by false h e = ltb-false b n h

-- the definition where the number is present, at index k
moved : (s : Sequence) (number k : ℕ) {r : List ℕ} → (k ≡ before number (order_of s)) × (before number (order_of s) < length (order_of s))
    → r ≡ closed_up s.numbers k 0 → record { numbers = r; length = s.length - 1 } ≡ removed s number
unfolding removed closed_up order_of
moved s number k e f =
    let b = before number (order_of s) in
    let there : b < length s.numbers = omega (arith, length-take s.length s.numbers) in
    simp (f, e.0, lt-ltb b (length s.numbers) there, lt-ltb _ _ e.1)

-- .. and where it is absent
unmoved : (s : Sequence) (number : ℕ) → length (order_of s) ≤ before number (order_of s) → s ≡ removed s number
unfolding removed
unmoved s number h = simp (le-ltb _ _ h)

pub overflow_sub-result : goal.overflow_sub-result
unfolding order_of
overflow_sub-result c =
    let s = c.args.s in
    omega (arith, c.in-Some.ensures.bound, ap length (c.iter.ensures.rest ∙ c.order.ensures), length-take s.length s.numbers)

pub returns-in-Some : goal.returns-in-Some
returns-in-Some c =
    let a = c.args in
    let order = order_of a.s in
    let there = YieldsList-from_slice order (c.iter.ensures.rest ∙ c.order.ensures) in
    let found = position_from_yields_List (λ n. eqb n a.number) _ _ _ c.position.ensures.ran there (λ x b q k. search (rules, tests)) in
    moved a.s a.number c.in-Some.k (present (before a.number order) (length order) (rw (← stands a.number order) (sym found ∙ c.in-Some.is))) c.closed_up.ensures

pub returns-in-None : goal.returns-in-None
returns-in-None c =
    let a = c.args in
    let order = order_of a.s in
    let there = YieldsList-from_slice order (c.iter.ensures.rest ∙ c.order.ensures) in
    let found = position_from_yields_List (λ n. eqb n a.number) _ _ _ c.position.ensures.ran there (λ x b q k. search (rules, tests)) in
    unmoved a.s a.number (absent (before a.number order) (length order) (rw (← stands a.number order) (sym found ∙ c.in-None.is)))
