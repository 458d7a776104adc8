-- First in sequence and leader, by places in the landing sequence: what the model asks of sequence numbers is what the rules ask of the sequence. Assumes
-- nothing.
use mathlib.Core.Path.{◌≡◌, sym, ap, ◌∙◌}
use mathlib.Core.Logic.{◌≢◌, ◌⊎◌, inl, inr}
use mathlib.Core.Bool.{Bool, true, false, not, ◌||◌, true≢false, or-true}
use mathlib.Core.List.{List, [], ◌∷◌}
use Prim.Native.Nat.{ℕ, suc, ◌-◌}
use native.Mathlib.Omega.{arith}
use borrow.Author.Tests.{eq-eqb, ne_eqb, eqb-true, eqb-false}
use lib.Dec.{T, eqb}
use lib.Ieee.Fits.{and_l, and_r}
use Rattle.field.specs.Lists.{is_in, all_different}
use Rattle.edits.specs.Edits.{before}
use Rattle.questions.specs.Find.{is_head, ahead_of}
use Rattle.field.proofs.TestLaws.{decided, failed, if_true, if_false, same, flip_eqb}

-- ---- lists of numbers

-- the place from 1 is 1 exactly at the head
pub first_place : (n : ℕ) (ns : List ℕ) → is_in n ns ≡ true → eqb (suc (before n ns)) 1 ≡ is_head n ns
first_place n [] i = absurd (true≢false (sym i))
first_place n (m ∷ ms) i = elim (decided (eqb m n)) [
  | inl e ↦ ap (λ (k : ℕ). eqb (suc k) 1) (if_true 0 (suc (before n ms)) e) ∙ sym e
  | inr e ↦ ap (λ (k : ℕ). eqb (suc k) 1) (if_false 0 (suc (before n ms)) e) ∙ ne_eqb (suc (suc (before n ms))) 1 (λ q. omega arith) ∙ sym e
]

-- numbers one larger are equal where the numbers are
pub one_less : (a b : ℕ) → eqb (suc a) (suc b) ≡ eqb a b
one_less a b = elim (decided (eqb a b)) [
  | inl e ↦ eq-eqb (suc a) (suc b) (ap suc (eqb-true a b e)) ∙ sym e
  | inr e ↦ ne_eqb (suc a) (suc b) (λ q. eqb-false a b e (omega arith)) ∙ sym e
]

-- one in the list is before none exactly where it is the first
before_none : (p m : ℕ) (ns : List ℕ) → eqb (before m (p ∷ ns)) 0 ≡ eqb m p
before_none p m ns = elim (decided (eqb p m)) [
  | inl e ↦ ap (λ (k : ℕ). eqb k 0) (if_true 0 (suc (before m ns)) e) ∙ sym (flip_eqb p m e)
  | inr e ↦ ap (λ (k : ℕ). eqb k 0) (if_false 0 (suc (before m ns)) e) ∙ ne_eqb (suc (before m ns)) 0 (λ q. omega arith) ∙ sym (flip_eqb p m e)
]

-- the one ahead is p or one of the list
ahead_in : (p n : ℕ) (ns : List ℕ) → is_in n ns ≡ true → is_in (ahead_of p n ns) (p ∷ ns) ≡ true
ahead_in p n [] i = absurd (true≢false (sym i))
ahead_in p n (x ∷ xs) i = go (decided (eqb x n)) (ahead_in x n xs)
  where
    go : (eqb x n ≡ true) ⊎ (eqb x n ≡ false) → (is_in n xs ≡ true → is_in (ahead_of x n xs) (x ∷ xs) ≡ true) → is_in (ahead_of p n (x ∷ xs)) (p ∷ x ∷ xs) ≡ true
    go (inl e) later = ap (λ (k : ℕ). is_in k (p ∷ x ∷ xs)) (if_true p (ahead_of x n xs) e) ∙ ap (λ (b : Bool). b || is_in p (x ∷ xs)) (same p)
    go (inr e) later =
        ap (λ (k : ℕ). is_in k (p ∷ x ∷ xs)) (if_false p (ahead_of x n xs) e)
        ∙ ap (λ (b : Bool). eqb p (ahead_of x n xs) || b) (later (sym (ap (λ (b : Bool). b || is_in n xs) e) ∙ i))
        ∙ or-true (eqb p (ahead_of x n xs))

-- m stands just ahead of n, behind p
just_ahead : (p n m : ℕ) (ns : List ℕ) → T (all_different (p ∷ ns)) → is_in n ns ≡ true → eqb (before m (p ∷ ns)) (before n ns) ≡ eqb m (ahead_of p n ns)
just_ahead p n m [] d i = absurd (true≢false (sym i))
just_ahead p n m (x ∷ xs) d i = go (decided (eqb x n)) (just_ahead x n m xs (and_r (not (is_in p (x ∷ xs))) (all_different (x ∷ xs)) d))
  where
    ns : List ℕ
    ns = x ∷ xs

    absent : is_in p ns ≡ false
    absent = failed (and_l (not (is_in p ns)) (all_different ns) d)

    further : is_in n xs ≡ true → eqb (before m ns) (before n xs) ≡ eqb m (ahead_of x n xs) → (eqb p m ≡ true) ⊎ (eqb p m ≡ false) → eqb (before m (p ∷ ns)) (suc (before n xs)) ≡ eqb m (ahead_of x n xs)
    further j later (inl e) =
        ap (λ (k : ℕ). eqb k (suc (before n xs))) (if_true 0 (suc (before m ns)) e)
        ∙ ne_eqb 0 (suc (before n xs)) (λ q. omega arith)
        ∙ sym (ne_eqb m (ahead_of x n xs) (λ q. true≢false (sym (ahead_in x n xs j) ∙ ap (λ (k : ℕ). is_in k ns) (sym q ∙ sym (eqb-true p m e)) ∙ absent)))
    further j later (inr e) = ap (λ (k : ℕ). eqb k (suc (before n xs))) (if_false 0 (suc (before m ns)) e) ∙ one_less (before m ns) (before n xs) ∙ later

    go : (eqb x n ≡ true) ⊎ (eqb x n ≡ false) → (is_in n xs ≡ true → eqb (before m ns) (before n xs) ≡ eqb m (ahead_of x n xs)) → eqb (before m (p ∷ ns)) (before n ns) ≡ eqb m (ahead_of p n ns)
    go (inl e) later = ap (eqb (before m (p ∷ ns))) (if_true 0 (suc (before n xs)) e) ∙ before_none p m ns ∙ ap (eqb m) (sym (if_true p (ahead_of x n xs) e))
    go (inr e) later =
        let j : is_in n xs ≡ true = sym (ap (λ (b : Bool). b || is_in n xs) e) ∙ i in
        ap (eqb (before m (p ∷ ns))) (if_false 0 (suc (before n xs)) e) ∙ further j (later j) (decided (eqb p m)) ∙ ap (eqb m) (sym (if_false p (ahead_of x n xs) e))

-- m has the place before n's exactly where it is just ahead of n; m is not 0
pub leader_place : (n m : ℕ) (ns : List ℕ) → T (all_different ns) → is_in n ns ≡ true → m ≢ 0 → eqb (suc (before m ns)) (suc (before n ns) - 1) ≡ eqb m (ahead_of 0 n ns)
leader_place n m [] d i h = absurd (true≢false (sym i))
leader_place n m (x ∷ xs) d i h = go (decided (eqb x n))
  where
    ns : List ℕ
    ns = x ∷ xs

    go : (eqb x n ≡ true) ⊎ (eqb x n ≡ false) → eqb (suc (before m ns)) (suc (before n ns) - 1) ≡ eqb m (ahead_of 0 n ns)
    go (inl e) =
        let none : before n ns ≡ 0 = if_true 0 (suc (before n xs)) e in
        ne_eqb (suc (before m ns)) (suc (before n ns) - 1) (λ q. omega arith) ∙ sym (ne_eqb m 0 h) ∙ ap (eqb m) (sym (if_true 0 (ahead_of x n xs) e))
    go (inr e) =
        let j : is_in n xs ≡ true = sym (ap (λ (b : Bool). b || is_in n xs) e) ∙ i in
        let one : suc (before n ns) - 1 ≡ suc (before n xs) = ap (λ (k : ℕ). suc k - 1) (if_false 0 (suc (before n xs)) e) ∙ omega arith in
        ap (eqb (suc (before m ns))) one ∙ one_less (before m ns) (before n xs) ∙ just_ahead x n m xs d j ∙ ap (eqb m) (sym (if_false 0 (ahead_of x n xs) e))
