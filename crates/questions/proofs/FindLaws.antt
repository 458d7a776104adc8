-- Laws of look-up: what it finds and where, and what it depends on. Assumes nothing.
use mathlib.Core.Path.{◌≡◌, refl, sym, ap, ◌∙◌, subst, subst⁻¹}
use mathlib.Core.Logic.{◌≢◌, ◌⊎◌, inl, inr}
use mathlib.Core.Bool.{Bool, true, false, cond, not, ◌||◌, true≢false, or-true}
use mathlib.Core.List.{List, [], ◌∷◌, ◌++◌, map, map-append, append_assoc}
use Prim.Native.Nat.{ℕ, zero, suc, ◌+◌, ◌≤◌, ◌<◌}
use native.Mathlib.Omega.{arith}
use borrow.Author.Tests.{eq-eqb, ne_eqb, eqb-true, eqb-false}
use lib.Dec.{T, leb, eqb, leb→le}
use lib.ListN.{length, get_or, take, drop}
use lib.Seq.{split_at, length-take-le}
use Rattle.leg.specs.Ticks.{Between}
use Rattle.field.specs.declared.Aircraft.{Aircraft}
use Rattle.field.specs.declared.Field.{Field}
use Rattle.questions.specs.declared.Place.{Place}
use Rattle.field.specs.Airspace.{everywhere, nobody, zone_of, queue_of, in_zone}
use Rattle.field.specs.Lists.{is_in, all_different}
use Rattle.questions.specs.Counts.{how_many}
use Rattle.questions.specs.Find.{place_from, nowhere, find_in, place_of, aircraft_at, numbers_in}
use Rattle.questions.proofs.NumbersListed.{number_of, numbers_at}
use Rattle.field.proofs.TestLaws.{decided, if_true, if_false, either_way, same}
use Rattle.field.proofs.NumberLists.{or_false_left, or_false_right, absent_left, absent_right, in_append, in_left, in_right, alone, different_right, different_apart, every_listed, zone_listed}

abbrev pub numbers : List Aircraft → List ℕ
numbers xs = map number_of xs

-- a place of a zone
abbrev pub at : ℕ → ℕ → Place
at zone place = record { zone = zone; place = place }

-- ---- the place in a queue

-- Who is not in a queue has no place in it.
pub no_place : (k n : ℕ) (xs : List Aircraft) → is_in n (numbers xs) ≡ false → place_from k n xs ≡ 0
no_place k n [] e = refl
no_place k n (x ∷ xs) e =
    if_false k (place_from (suc k) n xs) (or_false_left (eqb x.number n) (is_in n (numbers xs)) e)
    ∙ no_place (suc k) n xs (or_false_right (eqb x.number n) (is_in n (numbers xs)) e)

-- The first with a number has its own place.
pub place_at : (k : ℕ) (xs : List Aircraft) (a : Aircraft) (ys : List Aircraft) → is_in a.number (numbers xs) ≡ false → place_from k a.number (xs ++ a ∷ ys) ≡ k + length xs
place_at k [] a ys e = if_true k (place_from (suc k) a.number ys) (same a.number) ∙ omega arith
place_at k (x ∷ xs) a ys e =
    if_false k (place_from (suc k) a.number (xs ++ a ∷ ys)) (or_false_left (eqb x.number a.number) (is_in a.number (numbers xs)) e)
    ∙ place_at (suc k) xs a ys (or_false_right (eqb x.number a.number) (is_in a.number (numbers xs)) e)
    ∙ omega arith

-- a number stands at a place of a queue whose head is place k
pub record Standing (k n : ℕ) (xs : List Aircraft) (place : ℕ) : Type 0 where
  pub index : ℕ
  pub below : index < length xs
  pub there : place ≡ k + index
  pub has : (get_or xs index nobody).number ≡ n

-- Who is in a queue has a place in it, and stands there.
pub place_there : (k n : ℕ) (xs : List Aircraft) → is_in n (numbers xs) ≡ true → Standing k n xs (place_from k n xs)
place_there k n [] e = absurd (true≢false (sym e))
place_there k n (x ∷ xs) e = go (place_there (suc k) n xs)
  where
    go : (is_in n (numbers xs) ≡ true → Standing (suc k) n xs (place_from (suc k) n xs)) → Standing k n (x ∷ xs) (place_from k n (x ∷ xs))
    go later =
        either_way (Standing k n (x ∷ xs)) (eqb x.number n) k (place_from (suc k) n xs)
        (λ h. record { index = 0; below = omega arith; there = omega arith; has = eqb-true x.number n h })
        (λ h.
        let r = later (sym (ap (λ (b : Bool). b || is_in n (numbers xs)) h) ∙ e) in
        record { index = suc r.index; below = omega arith; there = r.there ∙ omega arith; has = r.has })

-- ---- who is in the zones

-- Who is in a zone is in the zones that list it.
pub in_zones : (f : Field) (n z : ℕ) (zs : List ℕ) → is_in z zs ≡ true → is_in n (numbers_at f z) ≡ true → is_in n (numbers_in f zs) ≡ true
in_zones f n z [] i e = absurd (true≢false (sym i))
in_zones f n z (w ∷ zs) i e = go (decided (eqb w z)) (in_zones f n z zs)
  where
    go : (eqb w z ≡ true) ⊎ (eqb w z ≡ false) → (is_in z zs ≡ true → is_in n (numbers_at f z) ≡ true → is_in n (numbers_in f zs) ≡ true) → is_in n (numbers_in f (w ∷ zs)) ≡ true
    go (inl h) later = in_left n (numbers_at f w) (numbers_in f zs) (ap (λ (y : ℕ). is_in n (numbers_at f y)) (eqb-true w z h) ∙ e)
    go (inr h) later = in_right n (numbers_at f w) (numbers_in f zs) (later (sym (ap (λ (b : Bool). b || is_in z zs) h) ∙ i) e)

-- ---- the search over zones
module _ (f : Field) (n : ℕ) where
  -- one zone that has the number, or has it not
  passed_by : (z : ℕ) (zs : List ℕ) → place_from 1 n (in_zone f z) ≡ 0 → find_in f n (z ∷ zs) ≡ find_in f n zs
  unfolding find_in
  passed_by z zs e = if_true (find_in f n zs) (at z (place_from 1 n (in_zone f z))) (eq-eqb (place_from 1 n (in_zone f z)) 0 e)

  stopped_at : (z : ℕ) (zs : List ℕ) {k : ℕ} → place_from 1 n (in_zone f z) ≡ suc k → find_in f n (z ∷ zs) ≡ at z (suc k)
  unfolding find_in
  stopped_at z zs e =
      if_false (find_in f n zs) (at z (place_from 1 n (in_zone f z))) (ne_eqb (place_from 1 n (in_zone f z)) 0 (λ h. omega arith))
      ∙ ap (at z) e

  -- Who is in none of the zones is not found in them.
  pub find_none : (zs : List ℕ) → is_in n (numbers_in f zs) ≡ false → find_in f n zs ≡ nowhere
  unfolding find_in
  find_none [] e = refl
  find_none (z ∷ zs) e =
      passed_by z zs (no_place 1 n (in_zone f z) (absent_left n (numbers_at f z) (numbers_in f zs) e))
      ∙ find_none zs (absent_right n (numbers_at f z) (numbers_in f zs) e)

  -- a place of one of the zones, and the number at it
  pub record Found (zs : List ℕ) (p : Place) : Type 0 where
    pub listed : is_in p.zone zs ≡ true
    pub first : 1 ≤ p.place
    pub last : p.place ≤ how_many f p.zone
    pub has : (aircraft_at f p.zone p.place).number ≡ n

  -- Who is in one of the zones is found in them, at a place that has the number.
  pub find_there : (zs : List ℕ) → is_in n (numbers_in f zs) ≡ true → Found zs (find_in f n zs)
  unfolding how_many aircraft_at
  find_there [] e = absurd (true≢false (sym e))
  find_there (z ∷ zs) e = go (decided (is_in n (numbers_at f z))) (find_there zs)
    where
      go : (is_in n (numbers_at f z) ≡ true) ⊎ (is_in n (numbers_at f z) ≡ false) → (is_in n (numbers_in f zs) ≡ true → Found zs (find_in f n zs)) → Found (z ∷ zs) (find_in f n (z ∷ zs))
      go (inl h) later =
          let s = place_there 1 n (in_zone f z) h in
          let k : place_from 1 n (in_zone f z) ≡ suc s.index = s.there ∙ omega arith in
          subst (Found (z ∷ zs)) (sym (stopped_at z zs k))
          (record { listed = ap (λ (b : Bool). b || is_in z zs) (same z); first = omega arith; last = s.below; has = s.has })
      go (inr h) later =
          let rest = sym (ap (λ (b : Bool). b || is_in n (numbers_in f zs)) h) ∙ sym (in_append n (numbers_at f z) (numbers_in f zs)) ∙ e in
          let r = later rest in
          let w = (find_in f n zs).zone in
          subst (Found (z ∷ zs)) (sym (passed_by z zs (no_place 1 n (in_zone f z) h)))
          (record { listed = ap (λ (b : Bool). eqb z w || b) r.listed ∙ or-true (eqb z w); first = r.first; last = r.last; has = r.has })

  -- Who is in one zone only is found in it.
  pub find_at : (z : ℕ) → is_in n (numbers_at f z) ≡ true → ((w : ℕ) → w ≢ z → is_in n (numbers_at f w) ≡ false) → (zs : List ℕ) → is_in z zs ≡ true
      → find_in f n zs ≡ at z (place_from 1 n (in_zone f z))
  find_at z e h [] i = absurd (true≢false (sym i))
  find_at z e h (w ∷ zs) i = go (decided (eqb w z)) (find_at z e h zs)
    where
      go : (eqb w z ≡ true) ⊎ (eqb w z ≡ false) → (is_in z zs ≡ true → find_in f n zs ≡ at z (place_from 1 n (in_zone f z))) → find_in f n (w ∷ zs) ≡ at z (place_from 1 n (in_zone f z))
      go (inl b) later =
          let s = place_there 1 n (in_zone f z) e in
          let k : place_from 1 n (in_zone f z) ≡ suc s.index = s.there ∙ omega arith in
          rw (eqb-true w z b) (stopped_at z zs k ∙ ap (at z) (sym k))
      go (inr b) later = passed_by w zs (no_place 1 n (in_zone f w) (h w (eqb-false w z b))) ∙ later (sym (ap (λ (t : Bool). t || is_in z zs) b) ∙ i)

-- an aircraft that stands in a zone behind others
module _ (f : Field) (z : ℕ) (xs : List Aircraft) (a : Aircraft) (ys : List Aircraft) (e : in_zone f z ≡ xs ++ a ∷ ys) where
  abbrev n : ℕ
  n = a.number

  numbers_there : numbers_at f z ≡ numbers xs ++ n ∷ numbers ys
  numbers_there = ap numbers e ∙ map-append number_of xs (a ∷ ys)

  is_there : is_in n (numbers_at f z) ≡ true
  is_there = ap (is_in n) numbers_there ∙ in_right n (numbers xs) (n ∷ numbers ys) (ap (λ (b : Bool). b || is_in n (numbers ys)) (same n))

  -- It is found at its own place, where the numbers of the zones are all different.
  pub find_own : (zs : List ℕ) → T (all_different (numbers_in f zs)) → is_in z zs ≡ true → find_in f n zs ≡ at z (suc (length xs))
  find_own [] d i = absurd (true≢false (sym i))
  find_own (w ∷ zs) d i = go (decided (eqb w z)) (find_own zs)
    where
      go : (eqb w z ≡ true) ⊎ (eqb w z ≡ false) → (T (all_different (numbers_in f zs)) → is_in z zs ≡ true → find_in f n zs ≡ at z (suc (length xs)))
          → find_in f n (w ∷ zs) ≡ at z (suc (length xs))
      go (inl h) later =
          let q = eqb-true w z h in
          let all = ap (λ (l : List ℕ). l ++ numbers_in f zs) (ap (numbers_at f) q ∙ numbers_there) ∙ append_assoc (numbers xs) (n ∷ numbers ys) (numbers_in f zs) in
          let ahead = (alone (numbers xs) n (numbers ys ++ numbers_in f zs) (subst (λ (l : List ℕ). T (all_different l)) all d)).ahead in
          let k : place_from 1 n (in_zone f w) ≡ suc (length xs) = ap (λ (y : ℕ). place_from 1 n (in_zone f y)) q ∙ ap (place_from 1 n) e ∙ place_at 1 xs a ys ahead ∙ omega arith in
          stopped_at f n w zs k ∙ ap (λ (y : ℕ). at y (suc (length xs))) q
      go (inr h) later =
          let j = sym (ap (λ (b : Bool). b || is_in z zs) h) ∙ i in
          passed_by f n w zs (no_place 1 n (in_zone f w) (different_apart n (numbers_at f w) (numbers_in f zs) d (in_zones f n z zs j is_there)))
          ∙ later (different_right (numbers_at f w) (numbers_in f zs) d) j

-- ---- look-up over all thirteen zones

-- Look-up finds exactly the numbers present: zone 0 exactly where nobody has the number, ..
pub found_exactly : (f : Field) (n : ℕ) → eqb (place_of f n).zone 0 ≡ not (is_in n (numbers_in f everywhere))
unfolding place_of
found_exactly f n = go (decided (is_in n (numbers_in f everywhere)))
  where
    go : (is_in n (numbers_in f everywhere) ≡ true) ⊎ (is_in n (numbers_in f everywhere) ≡ false) → eqb (place_of f n).zone 0 ≡ not (is_in n (numbers_in f everywhere))
    go (inl e) =
        let listed = (find_there f n everywhere e).listed in
        ne_eqb (place_of f n).zone 0 (λ h. true≢false (sym listed ∙ ap (λ (z : ℕ). is_in z everywhere) h)) ∙ sym (ap not e)
    go (inr e) = ap (λ (p : Place). eqb p.zone 0) (find_none f n everywhere e) ∙ sym (ap not e)

-- .. and then place 0 too; ..
pub absent_nowhere : (f : Field) (n : ℕ) → is_in n (numbers_in f everywhere) ≡ false → place_of f n ≡ nowhere
unfolding place_of
absent_nowhere f n = find_none f n everywhere

-- .. where somebody has it, a place of a zone, and who stands there has the number.
pub found_there : (f : Field) (n : ℕ) → is_in n (numbers_in f everywhere) ≡ true → Found f n everywhere (place_of f n)
unfolding place_of
found_there f n = find_there f n everywhere

-- No place is past zone 13, ..
pub place_within : (f : Field) (n : ℕ) → (place_of f n).zone ≤ 13
place_within f n =
    elim (decided (is_in n (numbers_in f everywhere))) [
      | inl e ↦ leb→le (place_of f n).zone 13 (every_listed (λ (z : ℕ). leb z 13) everywhere (place_of f n).zone tt (found_there f n e).listed)
      | inr e ↦ subst⁻¹ (λ (p : Place). p.zone ≤ 13) (absent_nowhere f n e) (omega arith)
    ]

-- .. and nobody stands in zone 0.
pub nobody_nowhere : (f : Field) (place : ℕ) → aircraft_at f 0 place ≡ nobody
unfolding aircraft_at in_zone zone_of queue_of
nobody_nowhere f zero = refl
nobody_nowhere f (suc place) = refl

-- Where the numbers are all different, every aircraft present is found at its own place.
pub own_place : (f : Field) (z place : ℕ) → T (all_different (numbers_in f everywhere)) → Between 1 13 z → 1 ≤ place → place ≤ how_many f z
    → place_of f (aircraft_at f z place).number ≡ at z place
unfolding place_of how_many aircraft_at
own_place f z zero d r l h = absurd (omega arith)
own_place f z (suc k) d r l h =
    find_own f z (take k (in_zone f z)) (get_or (in_zone f z) k nobody) (drop (suc k) (in_zone f z)) (split_at (in_zone f z) k nobody h) everywhere d (zone_listed z r)
    ∙ ap (λ (i : ℕ). at z (suc i)) (length-take-le k (in_zone f z) (omega arith))

-- ---- what look-up depends on

-- the place of a number in a list of numbers whose first is place k
abbrev place_among : ℕ → ℕ → List ℕ → ℕ
place_among k n [] = 0
place_among k n (m ∷ ms) = cond (eqb m n) k (place_among (suc k) n ms)

place_among_lem : (k n : ℕ) (xs : List Aircraft) → place_from k n xs ≡ place_among k n (numbers xs)
place_among_lem k n [] = refl
place_among_lem k n (x ∷ xs) = ap (cond (eqb x.number n) k) (place_among_lem (suc k) n xs)

-- Queues with the same numbers have each number at the same place.
pub place_same : (k n : ℕ) (xs ys : List Aircraft) → numbers xs ≡ numbers ys → place_from k n xs ≡ place_from k n ys
place_same k n xs ys e = place_among_lem k n xs ∙ ap (place_among k n) e ∙ sym (place_among_lem k n ys)

module _ (f g : Field) (n : ℕ) where
  pub find_same : ((z : ℕ) → place_from 1 n (in_zone f z) ≡ place_from 1 n (in_zone g z)) → (zs : List ℕ) → find_in f n zs ≡ find_in g n zs
  unfolding find_in
  find_same h [] = refl
  find_same h (z ∷ zs) =
      ap (λ (k : ℕ). cond (eqb k 0) (find_in f n zs) (at z k)) (h z)
      ∙ ap (λ (p : Place). cond (eqb (place_from 1 n (in_zone g z)) 0) p (at z (place_from 1 n (in_zone g z)))) (find_same h zs)

  -- Look-up depends on the numbers in the queues alone.
  pub look_up_same : ((z : ℕ) → numbers_at f z ≡ numbers_at g z) → place_of f n ≡ place_of g n
  unfolding place_of
  look_up_same h = find_same (λ z. place_same 1 n (in_zone f z) (in_zone g z) (h z)) everywhere

-- So do the numbers of the zones in a row.
pub numbers_same : (f g : Field) → ((z : ℕ) → numbers_at f z ≡ numbers_at g z) → (zs : List ℕ) → numbers_in f zs ≡ numbers_in g zs
numbers_same f g h [] = refl
numbers_same f g h (z ∷ zs) = ap (λ (l : List ℕ). l ++ numbers_in f zs) (h z) ∙ ap (λ (l : List ℕ). numbers_at g z ++ l) (numbers_same f g h zs)
