-- Look-up on a field where the head of a zone has left it, or where one more stands at the tail of a zone. Assumes nothing.
use mathlib.Core.Path.{◌≡◌, refl, sym, ap, ◌∙◌, subst}
use mathlib.Core.Logic.{◌≢◌, ◌⊎◌, inl, inr}
use mathlib.Core.Bool.{Bool, true, false, cond, ◌||◌, true≢false}
use mathlib.Core.List.{List, [], ◌∷◌, ◌++◌}
use Prim.Native.Nat.{ℕ, zero, suc, ◌+◌, ◌≤◌}
use native.Mathlib.Omega.{arith}
use borrow.Author.Tests.{eqb-true, eqb-false, eq-eqb, ne_eqb, lt-ltb}
use lib.Dec.{T, eqb, ltb}
use lib.ListN.{length, get_or, length-append}
use Rattle.leg.specs.Ticks.{Between}
use Rattle.request.specs.Input.{within}
use Rattle.request.proofs.InputTests.{within_low, within_high}
use Rattle.field.specs.declared.Aircraft.{Aircraft}
use Rattle.field.specs.declared.Field.{Field}
use Rattle.field.specs.Airspace.{nobody, everywhere, in_zone}
use Rattle.field.specs.Lists.{is_in, all_different}
use Rattle.field.proofs.NumberLists.{every_listed, zone_listed, absent_left, absent_right}
use Rattle.field.proofs.TestParts.{and_then, and_cut}
use Rattle.field.proofs.TestLaws.{decided, passed, if_true, if_false}
use Rattle.questions.specs.declared.Place.{Place}
use Rattle.questions.specs.Counts.{how_many, present_on}
use Rattle.questions.specs.Find.{aircraft_at, nowhere, place_from, find_in, place_of, numbers_in}
use Rattle.questions.proofs.FindLaws.{numbers, at, no_place, place_at, found_there, absent_nowhere, own_place, find_own, find_same}
use Rattle.laws.proofs.CountLaws.{total_changed}
use Rattle.kept_up.proofs.Entries.{moved_up}

-- the head of a zone, with a number, has left it, by the queues before and after
pub record Left (f g : Field) (z n : ℕ) : Type 0 where
  pub zone : Between 1 13 z
  pub head : Aircraft
  pub behind : List Aircraft
  pub here : in_zone f z ≡ head ∷ behind
  pub named : head.number ≡ n
  pub after : in_zone g z ≡ behind
  pub elsewhere : (y : ℕ) → y ≢ z → in_zone g y ≡ in_zone f y

-- one more, with a number, stands at the tail of a zone
pub record Come (f g : Field) (z n : ℕ) : Type 0 where
  pub zone : Between 1 13 z
  pub last : Aircraft
  pub named : last.number ≡ n
  pub there : in_zone g z ≡ in_zone f z ++ (last ∷ [])
  pub elsewhere : (y : ℕ) → y ≢ z → in_zone g y ≡ in_zone f y

-- ---- a queue

-- a queue whose head is a place further back
further_back : (k m : ℕ) (xs : List Aircraft) → place_from (suc (suc k)) m xs ≡ cond (eqb (place_from (suc k) m xs) 0) 0 (suc (place_from (suc k) m xs))
further_back k m [] = refl
further_back k m (x ∷ xs) = go (eqb x.number m) (further_back (suc k) m xs)
  where
    go : (b : Bool) → place_from (suc (suc (suc k))) m xs ≡ cond (eqb (place_from (suc (suc k)) m xs) 0) 0 (suc (place_from (suc (suc k)) m xs))
        → cond b (suc (suc k)) (place_from (suc (suc (suc k))) m xs)
        ≡ (let p = cond b (suc k) (place_from (suc (suc k)) m xs) in cond (eqb p 0) 0 (suc p))
    go true later = sym (if_false _ _ (ne_eqb (suc k) 0 (λ h. omega (arith, h))))
    go false later = later

-- a queue with one more behind it
with_last : (k m : ℕ) (xs : List Aircraft) (a : Aircraft) → a.number ≢ m → place_from k m (xs ++ (a ∷ [])) ≡ place_from k m xs
with_last k m [] a h = if_false _ _ (ne_eqb a.number m h)
with_last k m (x ∷ xs) a h = ap (cond (eqb x.number m) k) (with_last (suc k) m xs a h)

-- ---- the head has left
module _ {f g : Field} {z n : ℕ} (l : Left f g z n) where
  -- Every other one is where it was, or a place further ahead; ..
  module _ (m : ℕ) (other : m ≢ n) where
    not_head : eqb l.head.number m ≡ false
    not_head = ne_eqb l.head.number m (λ e. other (sym e ∙ l.named))

    -- its place in the zone that was left
    up_one : place_from 1 m (in_zone f z) ≡ cond (eqb (place_from 1 m (in_zone g z)) 0) 0 (suc (place_from 1 m (in_zone g z)))
    up_one =
        ap (place_from 1 m) l.here
        ∙ if_false _ _ not_head
        ∙ further_back 0 m l.behind
        ∙ ap (λ (xs : List Aircraft). cond (eqb (place_from 1 m xs) 0) 0 (suc (place_from 1 m xs))) (sym l.after)

    -- one zone after the other
    here_or_later : (y p q : ℕ) (a b : Place) → (y ≡ z → q ≡ cond (eqb p 0) 0 (suc p)) → (y ≢ z → p ≡ q) → a ≡ moved_up z b
        → cond (eqb p 0) a (at y p) ≡ moved_up z (cond (eqb q 0) b (at y q))
    here_or_later y p q a b h k e = go p (decided (eqb y z)) h k
      where
        -- look-up goes on past a zone that does not have the number, and stops at one that has
        found : (i j : ℕ) → i ≡ suc j → moved_up z (cond (eqb i 0) b (at y i)) ≡ moved_up z (at y (suc j))
        found i j r = ap (λ (v : ℕ). moved_up z (cond (eqb v 0) b (at y v))) r ∙ ap (moved_up z) (if_false _ _ (ne_eqb (suc j) 0 (λ t. omega (arith, t))))

        go : (p : ℕ) → (eqb y z ≡ true) ⊎ (eqb y z ≡ false) → (y ≡ z → q ≡ cond (eqb p 0) 0 (suc p)) → (y ≢ z → p ≡ q)
            → cond (eqb p 0) a (at y p) ≡ moved_up z (cond (eqb q 0) b (at y q))
        go zero (inl t) h k = e ∙ sym (ap (λ (j : ℕ). moved_up z (cond (eqb j 0) b (at y j))) (h (eqb-true y z t)))
        go (suc p) (inl t) h k =
            let some = ne_eqb (suc p) 0 (λ t. omega (arith, t)) in
            if_false _ _ some
            ∙ sym
            (found q (suc p) (h (eqb-true y z t) ∙ if_false _ _ some)
            ∙ if_true _ _ (and_then t (lt-ltb 1 (suc (suc p)) (omega arith)))
            ∙ ap (at y) (omega arith))
        go zero (inr t) h k = e ∙ sym (ap (λ (j : ℕ). moved_up z (cond (eqb j 0) b (at y j))) (sym (k (eqb-false y z t))))
        go (suc p) (inr t) h k =
            if_false _ _ (ne_eqb (suc p) 0 (λ t. omega (arith, t))) ∙ sym (found q p (sym (k (eqb-false y z t))) ∙ if_false _ _ (and_cut (ltb 1 (suc p)) t))

    among : (zs : List ℕ) → find_in g m zs ≡ moved_up z (find_in f m zs)
    unfolding find_in
    among [] = let start = l.zone.least in sym (if_false _ _ (and_cut (ltb 1 0) (ne_eqb 0 z (λ e. omega (arith, e, start)))))
    among (y ∷ ys) =
        here_or_later y (place_from 1 m (in_zone g y)) (place_from 1 m (in_zone f y)) (find_in g m ys) (find_in f m ys)
        (λ e. subst (λ (w : ℕ). place_from 1 m (in_zone f w) ≡ cond (eqb (place_from 1 m (in_zone g w)) 0) 0 (suc (place_from 1 m (in_zone g w)))) (sym e) up_one)
        (λ e. ap (place_from 1 m) (l.elsewhere y e))
        (among ys)

    pub others_left : place_of g m ≡ moved_up z (place_of f m)
    unfolding place_of
    others_left = among everywhere

  -- .. and the one that has left is found nowhere, where the numbers were all different.
  module _ (d : T (all_different (numbers_in f everywhere))) where
    pub was_head : place_of f n ≡ at z 1
    unfolding place_of
    was_head = ap (λ (m : ℕ). find_in f m everywhere) (sym l.named) ∙ find_own f z [] l.head l.behind l.here everywhere d (zone_listed z l.zone)

    there_no_more : (y place : ℕ) → (eqb y z ≡ true) ⊎ (eqb y z ≡ false) → Between 1 13 y → 1 ≤ place → place ≤ how_many g y → (aircraft_at g y place).number ≡ n → ⊥
    unfolding how_many aircraft_at
    there_no_more y zero e b low high has = omega arith
    there_no_more y (suc k) (inl e) b low high has =
        let q = eqb-true y z e in
        let more = ap length l.here in
        let behind = ap length (ap (in_zone g) q ∙ l.after) in
        let there : (aircraft_at f z (suc (suc k))).number ≡ n =
        ap (λ (xs : List Aircraft). (get_or (nobody ∷ xs) (suc (suc k)) nobody).number) l.here
        ∙ sym (ap (λ (xs : List Aircraft). (get_or (nobody ∷ xs) (suc k) nobody).number) (ap (in_zone g) q ∙ l.after)) ∙ has in
        let found = sym was_head ∙ ap (place_of f) (sym there) ∙ own_place f z (suc (suc k)) d l.zone (omega arith) (omega (arith, more, behind, high)) in
        let places : 1 ≡ suc (suc k) = ap (λ (p : Place). p.place) found in
        omega (arith, places)
    there_no_more y (suc k) (inr e) b low high has =
        let h = eqb-false y z e in
        let as_many = ap length (l.elsewhere y h) in
        let there : (aircraft_at f y (suc k)).number ≡ n = sym (ap (λ (xs : List Aircraft). (get_or (nobody ∷ xs) (suc k) nobody).number) (l.elsewhere y h)) ∙ has in
        let found = sym was_head ∙ ap (place_of f) (sym there) ∙ own_place f y (suc k) d b low (omega (arith, as_many, high)) in
        h (sym (ap (λ (p : Place). p.zone) found))

    pub own_left : place_of g n ≡ nowhere
    own_left =
        elim (decided (is_in n (numbers_in g everywhere))) [
          | inl e ↦
              let w = found_there g n e in
              absurd (there_no_more (place_of g n).zone (place_of g n).place (decided (eqb (place_of g n).zone z)) (listed_range (place_of g n).zone w.listed) w.first w.last w.has)
          | inr e ↦ absent_nowhere g n e
        ]
      where
        listed_range : (z : ℕ) → is_in z everywhere ≡ true → Between 1 13 z
        listed_range z e =
            let t = passed (every_listed (within 1 13) everywhere z tt e) in
            record { least = within_low 1 13 z t; most = within_high 1 13 z t }

  -- One less is present.
  pub left_total : present_on f ≡ present_on g + 1
  unfolding present_on how_many
  left_total =
      let t = total_changed (how_many f) (how_many g) z (λ y h. sym (ap length (l.elsewhere y h))) everywhere tt in
      let listed = zone_listed z l.zone in
      let before = if_true (how_many f z) 0 listed in
      let after = if_true (how_many g z) 0 listed in
      let more = ap length l.here in
      let less = ap length l.after in
      omega (arith, t, before, after, more, less)

-- ---- one more has come
module _ {f g : Field} {z n : ℕ} (c : Come f g z n) where
  -- Every other one is where it was; ..
  pub others_come : (m : ℕ) → m ≢ n → place_of g m ≡ place_of f m
  unfolding place_of
  others_come m other = find_same g f m (λ y. go y (decided (eqb y z))) everywhere
    where
      go : (y : ℕ) → (eqb y z ≡ true) ⊎ (eqb y z ≡ false) → place_from 1 m (in_zone g y) ≡ place_from 1 m (in_zone f y)
      go y (inl e) =
          subst (λ (w : ℕ). place_from 1 m (in_zone g w) ≡ place_from 1 m (in_zone f w)) (sym (eqb-true y z e))
          (ap (place_from 1 m) c.there ∙ with_last 1 m (in_zone f z) c.last (λ t. other (sym t ∙ c.named)))
      go y (inr e) = ap (place_from 1 m) (c.elsewhere y (eqb-false y z e))

  -- .. and the one that has come is found at the tail, where the numbers are all different.
  pub own_come : T (all_different (numbers_in g everywhere)) → place_of g n ≡ at z (suc (how_many f z))
  unfolding place_of how_many
  own_come d = ap (λ (m : ℕ). find_in g m everywhere) (sym c.named) ∙ find_own g z (in_zone f z) c.last [] c.there everywhere d (zone_listed z c.zone)

  -- So it is where the number was nowhere before.
  pub own_new : is_in n (numbers_in f everywhere) ≡ false → place_of g n ≡ at z (suc (how_many f z))
  unfolding place_of how_many find_in
  own_new none = among_new everywhere (zone_listed z c.zone) none
    where
      among_new : (zs : List ℕ) → is_in z zs ≡ true → is_in n (numbers_in f zs) ≡ false → find_in g n zs ≡ at z (suc (length (in_zone f z)))
      among_new [] i a = absurd (true≢false (sym i))
      among_new (y ∷ ys) i a = go (among_new ys) (decided (eqb y z))
        where
          here : y ≡ z → place_from 1 n (in_zone g y) ≡ suc (length (in_zone f z))
          here q =
              ap (λ (w : ℕ). place_from 1 n (in_zone g w)) q
              ∙ ap (place_from 1 n) c.there
              ∙ ap (λ (m : ℕ). place_from 1 m (in_zone f z ++ (c.last ∷ []))) (sym c.named)
              ∙ place_at 1 (in_zone f z) c.last []
              (ap (λ (m : ℕ). is_in m (numbers (in_zone f z))) c.named ∙ sym (ap (λ (w : ℕ). is_in n (numbers (in_zone f w))) q) ∙ absent_left n (numbers (in_zone f y)) (numbers_in f ys) a)
              ∙ omega arith

          go : (is_in z ys ≡ true → is_in n (numbers_in f ys) ≡ false → find_in g n ys ≡ at z (suc (length (in_zone f z)))) → (eqb y z ≡ true) ⊎ (eqb y z ≡ false)
              → cond (eqb (place_from 1 n (in_zone g y)) 0) (find_in g n ys) (at y (place_from 1 n (in_zone g y))) ≡ at z (suc (length (in_zone f z)))
          go later (inl t) =
              let q = eqb-true y z t in
              let p = here q in
              if_false _ _ (ne_eqb (place_from 1 n (in_zone g y)) 0 (λ e. omega (arith, e, p))) ∙ (λ i. at (q i) (p i))
          go later (inr t) =
              let p = ap (place_from 1 n) (c.elsewhere y (eqb-false y z t)) ∙ no_place 1 n (in_zone f y) (absent_left n (numbers (in_zone f y)) (numbers_in f ys) a) in
              if_true _ _ (eq-eqb (place_from 1 n (in_zone g y)) 0 p)
              ∙ later (sym (ap (λ (b : Bool). b || is_in z ys) t) ∙ i) (absent_right n (numbers (in_zone f y)) (numbers_in f ys) a)

  -- One more is present.
  pub come_total : present_on g ≡ present_on f + 1
  unfolding present_on how_many
  come_total =
      let t = total_changed (how_many g) (how_many f) z (λ y h. ap length (c.elsewhere y h)) everywhere tt in
      let listed = zone_listed z c.zone in
      let before = if_true (how_many f z) 0 listed in
      let after = if_true (how_many g z) 0 listed in
      let more = ap length c.there ∙ length-append (in_zone f z) (c.last ∷ []) in
      omega (arith, t, before, after, more)
