-- Where an aircraft is, whether it is first and whom it follows, on a field that an order stands for. Assumes nothing.
use mathlib.Core.Path.{◌≡◌, refl, sym, ap, ◌∙◌, subst}
use mathlib.Core.Logic.{◌⊎◌, inl, inr}
use mathlib.Core.Bool.{Bool, true, false, cond, ◌||◌, true≢false}
use mathlib.Core.List.{List, [], ◌∷◌, ◌++◌, append_assoc}
use Prim.Native.Nat.{ℕ, suc, ◌≤◌}
use native.Mathlib.Omega.{arith}
use lib.Dec.{T, leb, eqb, leb→le, le→leb}
use lib.ListN.{length, get_or}
use lib.Seq.{get_or-append_seam}
use lib.Ieee.Fits.{and_i, and_l, and_r}
use borrow.Author.Tests.{eq-eqb, ne_eqb, eqb-true, eqb-false}
use Rattle.request.specs.Input.{within}
use Rattle.field.specs.declared.Aircraft.{Aircraft}
use Rattle.field.specs.declared.Legs.{Legs}
use Rattle.field.specs.declared.Field.{Field}
use Rattle.questions.specs.declared.Place.{Place}
use Rattle.field.specs.Airspace.{everywhere, in_zone, order_of, nobody}
use Rattle.field.specs.Lists.{is_in, all_different, every}
use Rattle.questions.specs.Find.{place_from, nowhere, find_in, place_of, aircraft_at, fix_of, is_head, is_first, ahead_of, leader_of}
use Rattle.order.specs.Model.{Side, last_or, is_nil}
use Rattle.field.proofs.TestLaws.{pass, if_true, if_false, decided, same, each_zone}
use Rattle.field.proofs.NumberLists.{or_false_left, or_false_right, absent_left, absent_right, Alone, alone}
use Rattle.line.proofs.AheadInLists.{map_append, head_is, ahead_is}
use Rattle.questions.proofs.FindLaws.{numbers, at, no_place, place_at}
use Rattle.line.proofs.Line.{order_for, Placed, zones_in, numbers_of, inside, field_of}
use Rattle.line.proofs.CountedOnLine.{inside_append, in_line, on_runway_lem}

-- ---- the place in a queue
-- who is not in the line is in none of its zones
pub absent_inside : (n z : ℕ) (line : List Placed) → is_in n (numbers_of line) ≡ false → is_in n (numbers (inside z line)) ≡ false
absent_inside n z [] e = refl
absent_inside n z (p ∷ line) e = go (eqb p.zone z) (absent_inside n z line (or_false_right (eqb p.aircraft.number n) (is_in n (numbers_of line)) e))
  where
    go : (t : Bool) → is_in n (numbers (inside z line)) ≡ false → is_in n (numbers (cond t (p.aircraft ∷ inside z line) (inside z line))) ≡ false
    go true h = ap (λ (b : Bool). b || is_in n (numbers (inside z line))) (or_false_left (eqb p.aircraft.number n) (is_in n (numbers_of line)) e) ∙ h
    go false h = h

-- ---- the search over zones
module _ (f : Field) (n : ℕ) where
  pub find_none : (zs : List ℕ) → T (every (within 1 13) zs) → ((z : ℕ) → T (within 1 13 z) → place_from 1 n (in_zone f z) ≡ 0) → find_in f n zs ≡ nowhere
  unfolding find_in
  find_none [] t h = refl
  find_none (z ∷ zs) t h =
      if_true (find_in f n zs) (at z (place_from 1 n (in_zone f z))) (eq-eqb (place_from 1 n (in_zone f z)) 0 (h z (and_l (within 1 13 z) (every (within 1 13) zs) t)))
      ∙ find_none zs (and_r (within 1 13 z) (every (within 1 13) zs) t) h

  pub find_at : (zs : List ℕ) (w k : ℕ) → T (every (within 1 13) zs) → is_in w zs ≡ true → place_from 1 n (in_zone f w) ≡ suc k
      → ((z : ℕ) → T (within 1 13 z) → (z ≡ w → ⊥) → place_from 1 n (in_zone f z) ≡ 0) → find_in f n zs ≡ at w (suc k)
  unfolding find_in
  find_at [] w k t i p h = absurd (true≢false (sym i))
  find_at (z ∷ zs) w k t i p h = go (decided (eqb z w)) (λ j. find_at zs w k (and_r (within 1 13 z) (every (within 1 13) zs) t) j p h)
    where
      v : T (within 1 13 z)
      v = and_l (within 1 13 z) (every (within 1 13) zs) t

      here : z ≡ w → place_from 1 n (in_zone f z) ≡ suc k
      here e = ap (λ (y : ℕ). place_from 1 n (in_zone f y)) e ∙ p

      found : z ≡ w → at z (place_from 1 n (in_zone f z)) ≡ at w (suc k)
      found e = ap (λ (y : ℕ). at y (place_from 1 n (in_zone f z))) e ∙ ap (at w) (here e)

      go : (eqb z w ≡ true) ⊎ (eqb z w ≡ false) → (is_in w zs ≡ true → find_in f n zs ≡ at w (suc k)) → find_in f n (z ∷ zs) ≡ at w (suc k)
      go (inl e) later =
          let q = eqb-true z w e in
          if_false (find_in f n zs) (at z (place_from 1 n (in_zone f z))) (ne_eqb (place_from 1 n (in_zone f z)) 0 (λ b. let c = here q in omega arith))
          ∙ found q
      go (inr e) later =
          if_true (find_in f n zs) (at z (place_from 1 n (in_zone f z))) (eq-eqb (place_from 1 n (in_zone f z)) 0 (h z v (eqb-false z w e)))
          ∙ later (ap (λ (b : Bool). b || is_in w zs) (sym e) ∙ i)

-- ---- on a field that an order stands for

zone_below : (z : ℕ) → T (within 1 13 z) → (z ≡ 13 → ⊥) → T (within 1 12 z)
zone_below z t h =
    let l = leb→le 1 z (and_l (leb 1 z) (leb z 13) t) in
    let u = leb→le z 13 (and_r (leb 1 z) (leb z 13) t) in
    and_i (leb 1 z) (leb z 12) (le→leb 1 z l) (le→leb z 12 (below z l u h))
  where
    below : (z : ℕ) → 1 ≤ z → z ≤ 13 → (z ≡ 13 → ⊥) → z ≤ 12
    below z l u h = elim (Rattle.field.proofs.TestLaws.decided (leb z 12)) [ inl e ↦ leb→le z 12 (pass e) | inr e ↦ absurd (h (let k = borrow.Author.Tests.leb-false z 12 e in omega arith)) ]

-- a zone of the field is the runway, or one of the operation area
pub zone_split : {P : ℕ → Type 0} → P 13 → ((z : ℕ) → T (within 1 12 z) → P z) → (z : ℕ) → T (within 1 13 z) → P z
zone_split {P} r l z t = elim (decided (eqb z 13)) [ inl e ↦ subst P (sym (eqb-true z 13 e)) r | inr e ↦ l z (zone_below z t (eqb-false z 13 e)) ]

zone_listed : (z : ℕ) → T (within 1 12 z) → is_in z everywhere ≡ true
zone_listed z t =
    each_zone (λ (y : ℕ). is_in y everywhere ≡ true) (refl, (refl, (refl, (refl, (refl, (refl, (refl, (refl, (refl, (refl, (refl, (refl, (refl, tt))))))))))))) z
    (let l = leb→le 1 z (and_l (leb 1 z) (leb z 12) t) in let u = leb→le z 12 (and_r (leb 1 z) (leb z 12) t) in and_i (leb 1 z) (leb z 13) (le→leb 1 z l) (le→leb z 13 (omega arith)))

-- nobody has the number
pub not_located : (f : Side) (line : List Placed) (runway : List Aircraft) (legs : Legs) (n : ℕ) → is_in n (numbers_of line) ≡ false → is_in n (numbers runway) ≡ false
    → place_of (field_of f line runway legs) n ≡ nowhere
unfolding place_of
not_located f line runway legs n p q =
    let F = field_of f line runway legs in
    find_none F n everywhere tt
    (zone_split {P = λ z. place_from 1 n (in_zone F z) ≡ 0} (ap (place_from 1 n) (on_runway_lem f line runway legs) ∙ no_place 1 n runway q)
    (λ z t. ap (place_from 1 n) (in_line f line runway legs z t) ∙ no_place 1 n (inside z line) (absent_inside n z line p)))

-- the one on the runway has the number
pub located_runway : (f : Side) (line : List Placed) (x : Aircraft) (legs : Legs) → is_in x.number (numbers_of line) ≡ false
    → place_of (field_of f line (x ∷ []) legs) x.number ≡ at 13 1
unfolding place_of
located_runway f line x legs p =
    let F = field_of f line (x ∷ []) legs in
    find_at F x.number everywhere 13 0 tt refl (ap (place_from 1 x.number) (on_runway_lem f line (x ∷ []) legs) ∙ place_at 1 [] x [] refl)
    (λ z t h. ap (place_from 1 x.number) (in_line f line (x ∷ []) legs z (zone_below z t h)) ∙ no_place 1 x.number (inside z line) (absent_inside x.number z line p))

pub inside_at : (a : List Placed) (e : Placed) (b : List Placed) → inside e.zone (a ++ e ∷ b) ≡ inside e.zone a ++ e.aircraft ∷ inside e.zone b
inside_at a e b =
    inside_append e.zone a (e ∷ b)
    ∙ ap (λ (l : List Aircraft). inside e.zone a ++ l) (if_true (e.aircraft ∷ inside e.zone b) (inside e.zone b) (same e.zone))

pub inside_other : (z : ℕ) (a : List Placed) (e : Placed) (b : List Placed) → eqb e.zone z ≡ false → inside z (a ++ e ∷ b) ≡ inside z a ++ inside z b
inside_other z a e b h = inside_append z a (e ∷ b) ∙ ap (λ (l : List Aircraft). inside z a ++ l) (if_false (e.aircraft ∷ inside z b) (inside z b) h)

-- the numbers of a line that is split
pub numbers_split : (a : List Placed) (e : Placed) (b : List Placed) (rest : List ℕ) → numbers_of (a ++ e ∷ b) ++ rest ≡ numbers_of a ++ e.aircraft.number ∷ (numbers_of b ++ rest)
numbers_split a e b rest =
    ap (λ (l : List ℕ). l ++ rest) (map_append (λ (p : Placed). p.aircraft.number) a (e ∷ b))
    ∙ append_assoc (numbers_of a) (e.aircraft.number ∷ numbers_of b) rest

module _ (f : Side) (a : List Placed) (e : Placed) (b : List Placed) (runway : List Aircraft) (legs : Legs) (d : T (all_different (numbers_of (a ++ e ∷ b) ++ numbers runway))) where
  abbrev F : Field
  F = field_of f (a ++ e ∷ b) runway legs

  abbrev n : ℕ
  n = e.aircraft.number

  apart : Alone n (numbers_of a) (numbers_of b ++ numbers runway)
  apart = alone (numbers_of a) n (numbers_of b ++ numbers runway) (subst (λ (l : List ℕ). T (all_different l)) (numbers_split a e b (numbers runway)) d)

  elsewhere : (z : ℕ) → eqb e.zone z ≡ false → is_in n (numbers (inside z (a ++ e ∷ b))) ≡ false
  elsewhere z h =
      ap (λ (l : List Aircraft). is_in n (numbers l)) (inside_other z a e b h ∙ sym (inside_append z a b))
      ∙ absent_inside n z (a ++ b) (ap (is_in n) (map_append (λ (p : Placed). p.aircraft.number) a b)
      ∙ Rattle.field.proofs.NumberLists.absent_both n (numbers_of a) (numbers_of b) apart.ahead (absent_left n (numbers_of b) (numbers runway) apart.behind))

  pub located : T (within 1 12 e.zone) → place_of F n ≡ at e.zone (suc (length (inside e.zone a)))
  unfolding place_of
  located t =
      find_at F n everywhere e.zone (length (inside e.zone a)) tt (zone_listed e.zone t)
      (ap (place_from 1 n) (in_line f (a ++ e ∷ b) runway legs e.zone t ∙ inside_at a e b)
      ∙ place_at 1 (inside e.zone a) e.aircraft (inside e.zone b) (absent_inside n e.zone a apart.ahead)
      ∙ omega arith)
      (zone_split {P = λ z. (z ≡ e.zone → ⊥) → place_from 1 n (in_zone F z) ≡ 0}
      (λ h. ap (place_from 1 n) (on_runway_lem f (a ++ e ∷ b) runway legs) ∙ no_place 1 n runway (absent_right n (numbers_of b) (numbers runway) apart.behind))
      (λ z u h. ap (place_from 1 n) (in_line f (a ++ e ∷ b) runway legs z u) ∙ no_place 1 n (inside z (a ++ e ∷ b)) (elsewhere z (ne_eqb e.zone z (λ q. h (sym q))))))

  pub aircraft_there : T (within 1 12 e.zone) → aircraft_at F e.zone (suc (length (inside e.zone a))) ≡ e.aircraft
  unfolding aircraft_at
  aircraft_there t =
      ap (λ (l : List Aircraft). get_or l (length (inside e.zone a)) nobody) (in_line f (a ++ e ∷ b) runway legs e.zone t ∙ inside_at a e b)
      ∙ get_or-append_seam (inside e.zone a) e.aircraft (inside e.zone b) nobody

  pub fix_there : T (within 1 12 e.zone) → fix_of F n ≡ e.aircraft.fix
  unfolding fix_of
  fix_there t = ap (λ (p : Place). (aircraft_at F p.zone p.place).fix) (located t) ∙ ap (λ (x : Aircraft). x.fix) (aircraft_there t)

  order_there : order_of F.sequence ≡ numbers_of a ++ n ∷ numbers_of b
  unfolding field_of
  order_there = order_for (numbers_of (a ++ e ∷ b)) ∙ map_append (λ (p : Placed). p.aircraft.number) a (e ∷ b)

  nil_of : (l : List Placed) → is_nil (numbers_of l) ≡ is_nil (zones_in l)
  nil_of [] = refl
  nil_of (x ∷ l) = refl

  pub first_there : is_first F.sequence n ≡ is_nil (zones_in a)
  unfolding is_first
  first_there = ap (is_head n) order_there ∙ head_is n (numbers_of a) (numbers_of b) apart.ahead ∙ nil_of a

  pub leader_there : leader_of F.sequence n ≡ last_or 0 (numbers_of a)
  unfolding leader_of
  leader_there = ap (ahead_of 0 n) order_there ∙ ahead_is 0 n (numbers_of a) (numbers_of b) apart.ahead

  -- the zone of the one at a place of zone 1 to 12 at the head of its queue
  pub head_there : T (within 1 12 e.zone) → inside e.zone a ≡ [] → aircraft_at F e.zone 1 ≡ e.aircraft
  head_there t h = ap (λ (l : List Aircraft). aircraft_at F e.zone (suc (length l))) (sym h) ∙ aircraft_there t
