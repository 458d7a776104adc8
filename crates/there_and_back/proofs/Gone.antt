-- The list of a field within the bounds, where everyone on it waits in a holding. Assumes nothing.
use mathlib.Core.Path.{◌≡◌, refl, sym, ap, ◌∙◌, subst}
use mathlib.Core.Logic.{◌⊎◌, inl, inr}
use mathlib.Core.Bool.{Bool, true, false, cond, ◌||◌, true≢false, or-true}
use mathlib.Core.List.{List, [], ◌∷◌, ◌++◌, map, append-nil}
use Prim.Native.Nat.{ℕ, suc, ◌+◌, ◌≤◌}
use native.Mathlib.Omega.{arith}
use lib.Dec.{T, eqb, eqb→eq}
use lib.Ieee.Fits.{and_i, and_l, and_r}
use borrow.Author.Tests.{eq-eqb, ne_eqb, eqb-true}
use Rattle.request.specs.Input.{within}
use Rattle.field.specs.declared.Field.{Field}
use Rattle.field.specs.Airspace.{runway, is_side, opposite, order_of}
use Rattle.field.specs.Lists.{every, is_in}
use Rattle.field.proofs.TestLaws.{decided, if_true, if_false}
use Rattle.questions.specs.Counts.{is_empty}
use Rattle.questions.specs.Find.{place_of, fix_of, aircraft_at}
use Rattle.bounds.specs.Bounds.{alternate}
use Rattle.dialect.specs.declared.ListEntry.{ListEntry}
use Rattle.dialect.specs.Going.{list_entry, list_entries, on_runway, entries_of}
use Rattle.dialect_field.specs.Coming.{is_placed, placed_from, fix_in}
use Rattle.there_and_back.proofs.Shape.{at_zone, numbers_in, next_from}
use Rattle.there_and_back.proofs.ByLocation.{holding, own_place, first_placed, rest_placed}

-- ---- nobody on the runway

-- the last of a list has a place from 1
last_placed : (place : ℕ) (es : List ListEntry) (e : ListEntry) → T (placed_from place (es ++ (e ∷ []))) → (k : ℕ) × (place ≤ k) × T (is_placed e k)
last_placed place [] e t = (place, omega arith, first_placed place e [] t)
last_placed place (x ∷ es) e t =
    let r = last_placed (suc place) es e (rest_placed place x (es ++ (e ∷ [])) t) in
    (r.0, (let h = r.1 in omega arith), r.2)

module _ (f : Field) where
  at_0 : (n k : ℕ) → 1 ≤ k → T (is_placed (list_entry f n 0) k) → ⊥
  unfolding list_entry
  at_0 n k h p = let q = own_place (list_entry f n 0) k p in omega arith

  pub none_on_runway : T (placed_from 1 (entries_of f)) → is_empty f runway ≡ true
  unfolding entries_of on_runway
  none_on_runway t = go (decided (is_empty f runway))
    where
      go : (is_empty f runway ≡ true) ⊎ (is_empty f runway ≡ false) → is_empty f runway ≡ true
      go (inl e) = e
      go (inr e) =
          let es = list_entries f 1 (order_of f.sequence) in
          let last = list_entry f (aircraft_at f runway 1).number 0 in
          let all = subst (λ (l : List ListEntry). T (placed_from 1 (es ++ l))) (if_false [] (last ∷ []) e) t in
          let r = last_placed 1 es last all in
          absurd (at_0 (aircraft_at f runway 1).number r.0 r.1 r.2)

  pub entries_are : is_empty f runway ≡ true → entries_of f ≡ list_entries f 1 (order_of f.sequence)
  unfolding entries_of on_runway
  entries_are e = ap (λ (l : List ListEntry). list_entries f 1 (order_of f.sequence) ++ l) (if_true _ _ e) ∙ append-nil (list_entries f 1 (order_of f.sequence))

  -- ---- everyone of the sequence waits in a holding
  pub all_hold : (place : ℕ) (ns : List ℕ) → T (placed_from place (list_entries f place ns)) → T (every (λ n. within 1 4 (place_of f n).zone) ns)
  unfolding list_entry
  all_hold place [] t = tt
  all_hold place (n ∷ ns) t =
      let rest = list_entries f (suc place) ns in
      and_i (within 1 4 (place_of f n).zone) (every (λ n. within 1 4 (place_of f n).zone) ns) (holding (list_entry f n place) place (first_placed place (list_entry f n place) rest t))
      (all_hold (suc place) ns (rest_placed place (list_entry f n place) rest t))

  -- ---- the list by its numbers
  pub numbers_are : (place : ℕ) (ns : List ℕ) → numbers_in (list_entries f place ns) ≡ ns
  unfolding list_entry
  numbers_are place [] = refl
  numbers_are place (n ∷ ns) = ap (λ (l : List ℕ). n ∷ l) (numbers_are (suc place) ns)

  -- where nobody of the sequence is in a zone, nobody of the list is
  pub none_listed : (z place : ℕ) (ns : List ℕ) → ((n : ℕ) → is_in n ns ≡ true → (place_of f n).zone ≡ z → ⊥) → at_zone z (list_entries f place ns) ≡ []
  unfolding list_entry
  none_listed z place [] h = refl
  none_listed z place (n ∷ ns) h =
      if_false _ _ (ne_eqb z (place_of f n).zone (λ e. h n (ap (λ (b : Bool). b || is_in n ns) (eq-eqb n n refl)) (sym e)))
      ∙ none_listed z (suc place) ns (λ m i. h m (go m i))
    where
      go : (m : ℕ) → is_in m ns ≡ true → (eqb n m || is_in m ns) ≡ true
      go m i = ap (λ (b : Bool). eqb n m || b) i ∙ or-true (eqb n m)

  -- one of the sequence splits the list
  pub record Split (place : ℕ) (ns : List ℕ) (n : ℕ) : Type 0 where
    pub ahead : List ListEntry
    pub own : ℕ
    pub behind : List ListEntry
    pub is : list_entries f place ns ≡ ahead ++ list_entry f n own ∷ behind

  pub split_at : (place : ℕ) (ns : List ℕ) (n : ℕ) → is_in n ns ≡ true → Split place ns n
  split_at place [] n i = absurd (true≢false (sym i))
  split_at place (m ∷ ns) n i = go (decided (eqb m n)) (split_at (suc place) ns n)
    where
      go : (eqb m n ≡ true) ⊎ (eqb m n ≡ false) → (is_in n ns ≡ true → Split (suc place) ns n) → Split place (m ∷ ns) n
      go (inl e) later =
          record { ahead = []; own = place; behind = list_entries f (suc place) ns; is = ap (λ (k : ℕ). list_entry f k place ∷ list_entries f (suc place) ns) (eqb-true m n e) }
      go (inr e) later =
          let r = later (sym (ap (λ (b : Bool). b || is_in n ns) e) ∙ i) in
          record { ahead = list_entry f m place ∷ r.ahead; own = r.own; behind = r.behind; is = ap (λ (l : List ListEntry). list_entry f m place ∷ l) r.is }

  -- ---- the next fix
  opposite_in : (s : ℕ) → opposite (fix_in s) ≡ opposite s
  unfolding fix_in is_side opposite
  opposite_in s = go (decided (eqb s 1)) (decided (eqb s 2))
    where
      go : (eqb s 1 ≡ true) ⊎ (eqb s 1 ≡ false) → (eqb s 2 ≡ true) ⊎ (eqb s 2 ≡ false) → opposite (fix_in s) ≡ opposite s
      go (inl a) b = ap (λ (k : ℕ). opposite (cond (eqb k 1 || eqb k 2) k 0)) (eqb-true s 1 a) ∙ ap opposite (sym (eqb-true s 1 a))
      go (inr a) (inl b) = ap (λ (k : ℕ). opposite (cond (eqb k 1 || eqb k 2) k 0)) (eqb-true s 2 b) ∙ ap opposite (sym (eqb-true s 2 b))
      go (inr a) (inr b) =
          ap (λ (t : Bool). opposite (cond (t || eqb s 2) s 0)) a ∙ ap (λ (t : Bool). opposite (cond t s 0)) b
          ∙ sym (ap (λ (t : Bool). cond t 2 (cond (eqb s 2) 1 0)) a ∙ ap (λ (t : Bool). cond t 1 0) b)

  -- behind somebody it is the field's, by bound f
  pub next_is : (n : ℕ) (ns : List ℕ) (next place : ℕ) → T (alternate (map (fix_of f) (n ∷ ns) ++ (f.next ∷ []))) → next_from next (list_entries f place (n ∷ ns)) ≡ f.next
  unfolding list_entry
  next_is n [] next place t = opposite_in (fix_of f n) ∙ sym (eqb→eq f.next (opposite (fix_of f n)) (and_l (eqb f.next (opposite (fix_of f n))) true t))
  next_is n (m ∷ ns) next place t =
      next_is m ns (opposite (fix_in (fix_of f n))) (suc place)
      (and_r (eqb (fix_of f m) (opposite (fix_of f n))) (alternate (map (fix_of f) (m ∷ ns) ++ (f.next ∷ []))) t)
