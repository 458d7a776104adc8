-- What is found among entries after one more was put among them. Assumes nothing.
use mathlib.Core.Path.{◌≡◌, refl, sym, ap, ◌∙◌, subst}
use mathlib.Core.Logic.{◌≢◌, ◌⊎◌, inl, inr}
use mathlib.Core.Bool.{Bool, true, false, cond, not, ◌&&◌, ◌||◌}
use mathlib.Core.List.{List, [], ◌∷◌, map}
use Prim.Native.Nat.{ℕ, suc, ◌+◌, ◌≤◌, ◌<◌}
use native.Mathlib.Omega.{arith}
use borrow.Author.Tests.{eq-eqb, ne_eqb, eqb-true, eqb-false, ltb-true, ltb-false}
use lib.Dec.{eqb, ltb}
use lib.ListN.{length}
use Rattle.field.specs.declared.Field.{Field}
use Rattle.field.specs.Lists.{is_in}
use Rattle.field.proofs.TestLaws.{if_true, if_false}
use Rattle.questions.specs.declared.Place.{Place}
use Rattle.questions.specs.Find.{place_of}
use Rattle.finder.specs.declared.Entry.{Entry}
use Rattle.finder.specs.Finder.{unused, entry_of, is_before, first_of, second_of, put_among, put_each, found_among}

-- ---- two entries

-- which of two stands first, by their numbers
pub before_unused : (a b : Entry) → a.number ≢ 0 → b.number ≡ 0 → is_before a b ≡ true
unfolding is_before
before_unused a b h e =
    ap (λ (t : Bool). not t && (eqb b.number 0 || ltb a.number b.number)) (ne_eqb a.number 0 h)
    ∙ ap (λ (t : Bool). t || ltb a.number b.number) (eq-eqb b.number 0 e)

before_used : (a b : Entry) → a.number ≢ 0 → b.number ≢ 0 → is_before a b ≡ ltb a.number b.number
unfolding is_before
before_used a b h g =
    ap (λ (t : Bool). not t && (eqb b.number 0 || ltb a.number b.number)) (ne_eqb a.number 0 h)
    ∙ ap (λ (t : Bool). t || ltb a.number b.number) (ne_eqb b.number 0 g)

-- one that stands before another is put there, and the other goes on; ..
pub put_before : (e x : Entry) (xs : List Entry) → is_before e x ≡ true → put_among e (x ∷ xs) ≡ e ∷ put_among x xs
unfolding first_of second_of
put_before e x xs h = ap (λ (t : Bool). cond t e x ∷ put_among (cond t x (cond (eqb e.number x.number) unused e)) xs) h

-- .. one that stands behind it goes on itself; ..
put_behind : (e x : Entry) (xs : List Entry) → is_before e x ≡ false → e.number ≢ x.number → put_among e (x ∷ xs) ≡ x ∷ put_among e xs
unfolding first_of second_of
put_behind e x xs h g =
    ap (λ (t : Bool). cond t e x ∷ put_among (cond t x (cond (eqb e.number x.number) unused e)) xs) h
    ∙ ap (λ (t : Bool). x ∷ put_among (cond t unused e) xs) (ne_eqb e.number x.number g)

-- .. nothing goes on behind one with the same number, ..
put_same : (e x : Entry) (xs : List Entry) → is_before e x ≡ false → e.number ≡ x.number → put_among e (x ∷ xs) ≡ x ∷ put_among unused xs
unfolding first_of second_of
put_same e x xs h g =
    ap (λ (t : Bool). cond t e x ∷ put_among (cond t x (cond (eqb e.number x.number) unused e)) xs) h
    ∙ ap (λ (t : Bool). x ∷ put_among (cond t unused e) xs) (eq-eqb e.number x.number g)

-- .. and an unused one changes nothing
pub put_unused : (xs : List Entry) → put_among unused xs ≡ xs
unfolding first_of second_of is_before
put_unused [] = refl
put_unused (x ∷ xs) = go (eqb 0 x.number) (put_unused xs)
  where
    go : (b : Bool) → put_among unused xs ≡ xs → ◌≡◌ {A = List Entry} (x ∷ put_among (cond b unused unused) xs) (x ∷ xs)
    go true e = ap (λ (l : List Entry). x ∷ l) e
    go false e = ap (λ (l : List Entry). x ∷ l) e

-- nor does another of number 0
pub put_zero : (e : Entry) → e.number ≡ 0 → (xs : List Entry) → put_among e xs ≡ xs
unfolding first_of second_of is_before
put_zero e z [] = refl
put_zero e z (x ∷ xs) =
    ap (λ (t : Bool).
    let b = not t && (eqb x.number 0 || ltb e.number x.number) in
    cond b e x ∷ put_among (cond b x (cond (eqb e.number x.number) unused e)) xs) (eq-eqb e.number 0 z)
    ∙ go (eqb e.number x.number) (put_zero e z xs)
  where
    go : (b : Bool) → put_among e xs ≡ xs → ◌≡◌ {A = List Entry} (x ∷ put_among (cond b unused e) xs) (x ∷ xs)
    go true h = ap (λ (l : List Entry). x ∷ l) (put_unused xs)
    go false h = ap (λ (l : List Entry). x ∷ l) h

-- a used entry put among entries with a used one first: it stands before that one, has its number, or goes on behind it
pub put_by : (P : List Entry → Type 0) (e x : Entry) (xs : List Entry) → e.number ≢ 0 → x.number ≢ 0
    → (e.number < x.number → P (e ∷ put_among x xs))
    → (e.number ≡ x.number → P (x ∷ xs))
    → (x.number < e.number → P (x ∷ put_among e xs))
    → P (put_among e (x ∷ xs))
put_by P e x xs h g less alike more = go (ltb e.number x.number) (eqb e.number x.number) refl refl
  where
    used : is_before e x ≡ ltb e.number x.number
    used = before_used e x h g

    go : (b c : Bool) → ltb e.number x.number ≡ b → eqb e.number x.number ≡ c → P (put_among e (x ∷ xs))
    go true c s t = subst P (sym (put_before e x xs (used ∙ s))) (less (ltb-true e.number x.number s))
    go false true s t =
        let equal = eqb-true e.number x.number t in
        subst P (sym (put_same e x xs (used ∙ s) equal ∙ ap (λ (l : List Entry). x ∷ l) (put_unused xs))) (alike equal)
    go false false s t =
        let most = ltb-false e.number x.number s in
        let other = eqb-false e.number x.number t in
        subst P (sym (put_behind e x xs (used ∙ s) other)) (more (omega (arith, most, other)))

-- ---- one more among others

-- how many places are unused
abbrev pub free : List Entry → ℕ
free [] = 0
free (x ∷ xs) = cond (eqb x.number 0) 1 0 + free xs

-- an entry of the field: its own, of a number that is not 0
pub record Own (f : Field) (x : Entry) : Type 0 where
  pub nonzero : x.number ≢ 0
  pub own : x ≡ entry_of f x.number

-- entries each of which is unused or one of the field
abbrev pub Owns : Field → List Entry → Type 0
Owns f [] = Unit {0}
Owns f (x ∷ xs) = ((x ≡ unused) ⊎ Own f x) × Owns f xs

-- where an entry says that its number is
abbrev says : Entry → Place
says e = record { zone = e.zone; place = e.place }

own_says : (f : Field) (e : Entry) → Own f e → says e ≡ place_of f e.number
unfolding entry_of
own_says f e o = ap says o.own

-- what holds of entries with e put among them
pub record More (f : Field) (e : Entry) (es : List Entry) (rs : List Entry) : Type 0 where
  pub owns : Owns f rs
  pub room : free es ≤ suc (free rs)
  pub finds : (n : ℕ) → n ≢ 0 → found_among n rs ≡ cond (eqb e.number n) (place_of f e.number) (found_among n es)

module _ (f : Field) where
  -- at an unused place
  at_unused : {e : Entry} {xs : List Entry} → Own f e → Owns f xs → More f e (unused ∷ xs) (e ∷ xs)
  at_unused {e} {xs} o os =
      record {
        owns = (inr o, os);
        room = omega arith;
        finds = λ n h.
            ap (λ (p : Place). cond (eqb e.number n) p (found_among n xs)) (own_says f e o)
            ∙ ap (cond (eqb e.number n) (place_of f e.number)) (sym (if_false (says unused) (found_among n xs) (ne_eqb 0 n (λ z. h (sym z)))));
      }

  -- where its number has a place
  at_same : {e x : Entry} {xs : List Entry} → Own f e → Own f x → e.number ≡ x.number → Owns f xs → More f e (x ∷ xs) (x ∷ xs)
  at_same {e} {x} {xs} o p g os =
      record {
        owns = (inr p, os);
        room = omega arith;
        finds = λ n h. go n (eqb e.number n) refl;
      }
    where
      go : (n : ℕ) (b : Bool) → eqb e.number n ≡ b → found_among n (x ∷ xs) ≡ cond b (place_of f e.number) (found_among n (x ∷ xs))
      go n true t =
          if_true (says x) (found_among n xs) (ap (λ (k : ℕ). eqb k n) (sym g) ∙ t) ∙ own_says f x p ∙ ap (place_of f) (sym g)
      go n false t = refl

  -- before another, which goes on
  at_before : {e x : Entry} {xs rs : List Entry} → Own f e → Own f x → More f x xs rs → More f e (x ∷ xs) (e ∷ rs)
  at_before {e} {x} {xs} {rs} o p m =
      let used = if_false {A = ℕ} 1 0 (ne_eqb x.number 0 p.nonzero) in
      let other = if_false {A = ℕ} 1 0 (ne_eqb e.number 0 o.nonzero) in
      let left = m.room in
      record {
        owns = (inr o, m.owns);
        room = omega (arith, used, other, left);
        finds = λ n h.
            ap (λ (p : Place). cond (eqb e.number n) p (found_among n rs)) (own_says f e o)
            ∙ ap (cond (eqb e.number n) (place_of f e.number))
            (m.finds n h ∙ ap (λ (p : Place). cond (eqb x.number n) p (found_among n xs)) (sym (own_says f x p)));
      }

  -- behind another
  at_behind : {e x : Entry} {xs rs : List Entry} → Own f x → e.number ≢ x.number → More f e xs rs → More f e (x ∷ xs) (x ∷ rs)
  at_behind {e} {x} {xs} p g m =
      let left = m.room in
      record {
        owns = (inr p, m.owns);
        room = omega (arith, left);
        finds = λ n h. ap (cond (eqb x.number n) (says x)) (m.finds n h) ∙ swapped n (eqb x.number n) (eqb e.number n) refl refl;
      }
    where
      swapped : (n : ℕ) (b c : Bool) → eqb x.number n ≡ b → eqb e.number n ≡ c
          → cond b (says x) (cond c (place_of f e.number) (found_among n xs)) ≡ cond c (place_of f e.number) (cond b (says x) (found_among n xs))
      swapped n true true s t = absurd (g (eqb-true e.number n t ∙ sym (eqb-true x.number n s)))
      swapped n true false s t = refl
      swapped n false c s t = refl

  -- An entry of the field put among such entries, where a place is unused.
  pub put_more : (e : Entry) → Own f e → (es : List Entry) → Owns f es → 1 ≤ free es → More f e es (put_among e es)
  put_more e o [] os room = absurd (omega arith)
  put_more e o (x ∷ xs) os room = go os.0 (put_more e o xs os.1) (λ p. put_more x p xs os.1)
    where
      used : Own f x → 1 ≤ free xs
      used p = let no = if_false {A = ℕ} 1 0 (ne_eqb x.number 0 p.nonzero) in omega (arith, no, room)

      go : (x ≡ unused) ⊎ Own f x → (1 ≤ free xs → More f e xs (put_among e xs)) → ((p : Own f x) → 1 ≤ free xs → More f x xs (put_among x xs))
          → More f e (x ∷ xs) (put_among e (x ∷ xs))
      go (inl z) later other =
          let made = put_before e unused xs (before_unused e unused o.nonzero refl) ∙ ap (λ (l : List Entry). e ∷ l) (put_unused xs) in
          subst (λ (y : Entry). More f e (y ∷ xs) (put_among e (y ∷ xs))) (sym z)
          (subst (More f e (unused ∷ xs)) (sym made) (at_unused o os.1))
      go (inr p) later other =
          put_by (More f e (x ∷ xs)) e x xs o.nonzero p.nonzero
          (λ g. at_before o p (other p (used p)))
          (λ g. at_same o p g os.1)
          (λ g. at_behind p (λ t. omega (arith, g, t)) (later (used p)))

  -- ---- all numbers of a list

  -- none of them is 0
  abbrev pub NonZero : List ℕ → Type 0
  NonZero [] = Unit {0}
  NonZero (n ∷ ns) = (n ≢ 0) × NonZero ns

  entry_own : (n : ℕ) → n ≢ 0 → Own f (entry_of f n)
  unfolding entry_of
  entry_own n h = record { nonzero = h; own = refl }

  -- Numbers put among such entries, where there is a place for each: each is found where a look through the queues finds it, and the others are found as before.
  pub all_found : (ns : List ℕ) → NonZero ns → (es : List Entry) → Owns f es → length ns ≤ free es → (n : ℕ) → n ≢ 0
      → found_among n (put_each (map (entry_of f) ns) es) ≡ cond (is_in n ns) (place_of f n) (found_among n es)
  unfolding entry_of
  all_found [] z es os room n h = refl
  all_found (m ∷ ns) z es os room n h =
      let more = put_more (entry_of f m) (entry_own m z.0) es os (omega arith) in
      let left = more.room in
      all_found ns z.1 (put_among (entry_of f m) es) more.owns (omega (arith, left)) n h
      ∙ ap (cond (is_in n ns) (place_of f n)) (more.finds n h)
      ∙ joined (eqb m n) (is_in n ns) refl
    where
      joined : (b c : Bool) → eqb m n ≡ b → cond c (place_of f n) (cond b (place_of f m) (found_among n es)) ≡ cond (b || c) (place_of f n) (found_among n es)
      joined true true t = refl
      joined true false t = ap (place_of f) (eqb-true m n t)
      joined false c t = refl

  -- Each takes at most one of the unused places.
  pub all_room : (ns : List ℕ) → NonZero ns → (es : List Entry) → Owns f es → length ns ≤ free es → free es ≤ free (put_each (map (entry_of f) ns) es) + length ns
  unfolding entry_of
  all_room [] z es os room = omega arith
  all_room (m ∷ ns) z es os room =
      let more = put_more (entry_of f m) (entry_own m z.0) es os (omega arith) in
      let left = more.room in
      let rest = all_room ns z.1 (put_among (entry_of f m) es) more.owns (omega (arith, left)) in
      omega (arith, left, rest)
