-- The landing sequence when its first leaves it and when another comes to its end, and what becomes of sequence numbers then. Assumes nothing.
use mathlib.Core.Path.{◌≡◌, refl, sym, ap, ◌∙◌}
use mathlib.Core.Logic.{inl, inr}
use mathlib.Core.Bool.{Bool, true, false, cond, ◌||◌, true≢false, or-true}
use mathlib.Core.List.{List, [], ◌∷◌, ◌++◌, map}
use Prim.Native.Nat.{ℕ, zero, suc, ◌-◌, ◌≤◌, ◌<◌}
use native.Mathlib.Omega.{arith}
use borrow.Author.Tests.{lt-ltb}
use lib.Dec.{eqb, ltb}
use lib.ListN.{length, take, drop, length-append, length-drop}
use lib.Seq.{take-append-le}
use Rattle.field.specs.declared.Aircraft as field
use Rattle.field.specs.declared.Sequence.{Sequence}
use Rattle.field.specs.declared.Field.{Field}
use Rattle.field.specs.Airspace.{order_of}
use Rattle.edits.specs.Edits.{before, appended, removed}
use Rattle.field.specs.Lists.{is_in}
use Rattle.field.proofs.TestLaws.{decided, if_true, if_false, same, flip_eqb}
use Rattle.field.proofs.NumberLists.{or_false_left, or_false_right}
use Rattle.questions.proofs.FindLaws.{numbers}
use Rattle.laws.proofs.EditLaws.{ShapedSequence, Shaped}
use Rattle.descent.proofs.BySequence.{order_length_lem, last_put}
use Rattle.nasa.specs.Definitions.{ScaAircraft, decrease}
use Rattle.nasa.specs.Stands.{seen}
use Rattle.nasa.proofs.States.{as_seen}

-- ---- the sequence

-- a list without its first
moved_up : (m : ℕ) (xs ys : List ℕ) → 1 ≤ m → m ≤ length xs → take (m - 1) (drop 1 xs ++ ys) ≡ drop 1 (take m xs)
moved_up zero xs ys l h = absurd (omega arith)
moved_up (suc m) [] ys l h = absurd (omega arith)
moved_up (suc m) (x ∷ xs) ys l h = let e : suc m - 1 ≡ m = omega arith in ap (λ (i : ℕ). take i (xs ++ ys)) e ∙ take-append-le m xs ys (omega arith)

-- a full one stays as it is
pub full_stays : (s : Sequence) (n : ℕ) → ltb s.length 4 ≡ false → appended s n ≡ s
unfolding appended
full_stays s n h = if_false _ s h

-- x is the first of a field's sequence, and these stand behind it
pub record FirstInSequence (f : Field) (x : field.Aircraft) : Type 0 where
  pub behind : List ℕ
  pub order : order_of f.sequence ≡ x.number ∷ behind

module _ {f : Field} {x : field.Aircraft} (k : Shaped f) (b : FirstInSequence f x) where
  abbrev s₀ : Sequence
  s₀ = f.sequence

  abbrev n₀ : ℕ
  n₀ = x.number

  some : 1 ≤ s₀.length
  some = let l = order_length_lem s₀ k.sequence in let m = ap length b.order in omega arith

  left : removed s₀ n₀ ≡ record { numbers = drop 1 s₀.numbers ++ (0 ∷ []); length = s₀.length - 1 }
  unfolding removed
  left =
      let none : before n₀ (order_of s₀) ≡ 0 = ap (before n₀) b.order ∙ if_true 0 (suc (before n₀ b.behind)) (same n₀) in
      if_true _ s₀ (lt-ltb (before n₀ (order_of s₀)) (length (order_of s₀)) (let m = ap length b.order in omega arith))
      ∙ ap (λ (j : ℕ). record { numbers = take j s₀.numbers ++ drop (suc j) s₀.numbers ++ (0 ∷ []); length = s₀.length - 1 }) none

  -- it leaves the sequence, ..
  pub first_left : order_of (removed s₀ n₀) ≡ b.behind
  unfolding order_of
  first_left = let m = some in let q = k.sequence in ap order_of left ∙ moved_up s₀.length s₀.numbers (0 ∷ []) m (omega arith) ∙ ap (drop 1) b.order

  -- .. or goes to its end
  pub first_last : order_of (appended (removed s₀ n₀) n₀) ≡ b.behind ++ (n₀ ∷ [])
  first_last =
      let m = some in
      let q = k.sequence in
      let shaped : ShapedSequence (removed s₀ n₀) = rw left (record { places = simp (length-append, length-drop) (omega arith); fits = omega arith }) in
      let few = ap (λ (c : Sequence). c.length) left in
      last_put (removed s₀ n₀) shaped n₀ (omega arith) ∙ ap (λ (l : List ℕ). l ++ (n₀ ∷ [])) first_left

-- ---- how many stand before a number

-- before one that is in the list nothing changes when another comes to its end
pub before_kept : (m n : ℕ) (ns : List ℕ) → is_in m ns ≡ true → before m (ns ++ (n ∷ [])) ≡ before m ns
before_kept m n [] i = absurd (true≢false (sym i))
before_kept m n (x ∷ xs) i = elim (decided (eqb x m)) [
  | inl e ↦ if_true 0 (suc (before m (xs ++ (n ∷ [])))) e ∙ sym (if_true 0 (suc (before m xs)) e)
  | inr e ↦
      if_false 0 (suc (before m (xs ++ (n ∷ [])))) e
      ∙ ap suc (before_kept m n xs (sym (ap (λ (b : Bool). b || is_in m xs) e) ∙ i))
      ∙ sym (if_false 0 (suc (before m xs)) e)
]

-- before the one that comes to the end stand all
pub before_last : (n : ℕ) (ns : List ℕ) → is_in n ns ≡ false → before n (ns ++ (n ∷ [])) ≡ length ns
before_last n [] i = if_true 0 1 (same n)
before_last n (x ∷ xs) i =
    if_false 0 (suc (before n (xs ++ (n ∷ [])))) (or_false_left (eqb x n) (is_in n xs) i)
    ∙ ap suc (before_last n xs (or_false_right (eqb x n) (is_in n xs) i))

-- ---- queues, from one field to another
module _ (f g : Field) (w : ℕ) where
  -- sequence numbers stay
  pub seen_kept : (xs : List field.Aircraft) → ((m : ℕ) → is_in m (numbers xs) ≡ true → before m (order_of g.sequence) ≡ before m (order_of f.sequence)) → map (seen g w) xs ≡ map (seen f w) xs
  seen_kept [] h = refl
  seen_kept (x ∷ xs) h =
      let n = x.number in
      ap (λ (b : ℕ). as_seen (cond (eqb w 13) 1 (suc b)) x.fix ∷ map (seen g w) xs) (h n (ap (λ (b : Bool). b || is_in n (numbers xs)) (same n)))
      ∙ ap (λ (l : List ScaAircraft). seen f w x ∷ l) (seen_kept xs (λ m i. h m (ap (λ (b : Bool). eqb n m || b) i ∙ or-true (eqb n m))))

  -- the first of the sequence is gone: each is lowered by one
  module _ {y : field.Aircraft} (b : FirstInSequence f y) (not-runway : eqb w 13 ≡ false) where
    one_lowered : (x : field.Aircraft) → eqb x.number y.number ≡ false → before x.number (order_of g.sequence) ≡ before x.number b.behind
        → seen g w x ≡ as_seen ((seen f w x).seq - 1) x.fix
    one_lowered x a h =
        let m = x.number in
        let later : before m (order_of f.sequence) ≡ suc (before m b.behind) = ap (before m) b.order ∙ if_false 0 (suc (before m b.behind)) (flip_eqb m y.number a) in
        let less : suc (before m b.behind) ≡ suc (before m (order_of f.sequence)) - 1 = omega arith in
        ap (λ (b : Bool). as_seen (cond b 1 (suc (before m (order_of g.sequence)))) x.fix) not-runway
        ∙ ap (λ (b : ℕ). as_seen (suc b) x.fix) h
        ∙ ap (λ (b : ℕ). as_seen b x.fix) less
        ∙ ap (λ (b : Bool). as_seen (cond b 1 (suc (before m (order_of f.sequence))) - 1) x.fix) (sym not-runway)

    pub seen_lowered : (xs : List field.Aircraft) → is_in y.number (numbers xs) ≡ false → ((m : ℕ) → is_in m (numbers xs) ≡ true → before m (order_of g.sequence) ≡ before m b.behind)
        → map (seen g w) xs ≡ decrease (map (seen f w) xs)
    seen_lowered [] a h = refl
    seen_lowered (x ∷ xs) a h =
        let m = x.number in
        let later = is_in y.number (numbers xs) in
        ap (λ (c : ScaAircraft). c ∷ map (seen g w) xs) (one_lowered x (or_false_left (eqb m y.number) later a) (h m (ap (λ (b : Bool). b || is_in m (numbers xs)) (same m))))
        ∙ ap (λ (l : List ScaAircraft). as_seen ((seen f w x).seq - 1) x.fix ∷ l)
        (seen_lowered xs (or_false_right (eqb m y.number) later a) (λ j i. h j (ap (λ (b : Bool). eqb m j || b) i ∙ or-true (eqb m j))))
