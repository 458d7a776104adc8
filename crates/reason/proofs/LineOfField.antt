-- A field with all its places, within the bounds and with the reason, stands for the line of its sequence: each number with the aircraft
-- and the zone that the look-up finds. Assumes nothing.
use mathlib.Core.Path.{◌≡◌, refl, sym, ap, ◌∙◌, subst}
use mathlib.Core.Logic.{◌⊎◌, inl, inr}
use mathlib.Core.Bool.{Bool, true, false, cond, ◌||◌, false≢true}
use mathlib.Core.List.{List, [], ◌∷◌, ◌++◌, map, append_assoc}
use Prim.Native.Nat.{ℕ, suc, ◌+◌, ◌-◌, ◌≤◌}
use native.Mathlib.Omega.{arith}
use lib.Dec.{T, leb, eqb, leb→le, eqb→eq}
use lib.ListN.{length, take, drop, replicate, get_or, take-append-drop, length-drop, length-append}
use lib.Seq.{length-take-le, get_or-append_seam}
use lib.Ieee.Fits.{and_i, and_l, and_r}
use borrow.Author.Tests.{eqb-true, eqb-false}
use Rattle.request.specs.Input.{within}
use Rattle.field.specs.declared.Aircraft.{Aircraft}
use Rattle.field.specs.declared.Zone.{Zone}
use Rattle.field.specs.declared.Sequence.{Sequence}
use Rattle.field.specs.declared.Field.{Field}
use Rattle.questions.specs.declared.Place.{Place}
use Rattle.field.specs.Airspace.{zones_from, operation, everywhere, empty_zone, zone_of, in_zone, order_of, nobody}
use Rattle.field.specs.Lists.{is_in, every, all_different}
use Rattle.questions.specs.Counts.{total}
use Rattle.questions.specs.Find.{place_from, find_in, place_of, aircraft_at, fix_of, numbers_in}
use Rattle.bounds.specs.Bounds.{sequence_kept}
use Rattle.order.specs.Model.{Side, num, next_fix, count, one}
use Rattle.rules.specs.Reason.{Listed, listed, sequence_listed, those, is_in_zone, QueueAgrees}
use Rattle.field.proofs.TestLaws.{passed, decided, if_true, if_false, same}
use Rattle.laws.proofs.RoomLaws.{one_in_total, two_in_total}
use Rattle.field.proofs.NumberLists.{in_append}
use Rattle.line.proofs.AheadInLists.{map_append}
use Rattle.line.proofs.Line.{zone_for, sequence_for, field_by, by_zones, Placed, zones_in, numbers_of, inside, zones_of, field_of}
use Rattle.line.proofs.CountedOnLine.{lower, not_13, in_everywhere}
use Rattle.questions.proofs.FindLaws.{numbers, no_place, place_at, at}
use Rattle.line.proofs.Located.{find_at, zone_split}
use Rattle.line.proofs.Members.{numbers_total, count_append, absent_count, count_different}
use Rattle.reason.proofs.AlongLine.{as_listed}

-- ---- arrays of four places

-- a list of four whose last ones are all d, by those before
filled : {A : Type 0} (d : A) (xs : List A) (n : ℕ) → length xs ≡ 4 → n ≤ 4 → drop n xs ≡ replicate (length (drop n xs)) d
    → (xs ≡ take n xs ++ replicate (4 - length (take n xs)) d) × (n ≡ length (take n xs))
filled d xs n e h r =
    let k = length-take-le n xs (subst (λ (m : ℕ). n ≤ m) (sym e) h) in
    let l : length (drop n xs) ≡ 4 - length (take n xs) = length-drop n xs ∙ ap (λ (m : ℕ). m - n) e ∙ ap (λ (m : ℕ). 4 - m) (sym k) in
    (sym (take-append-drop n xs) ∙ ap (λ (ys : List _). take n xs ++ ys) (r ∙ ap (λ (m : ℕ). replicate m d) l), sym k)

zeros : (xs : List ℕ) → T (every (λ n. eqb n 0) xs) → xs ≡ replicate (length xs) 0
zeros [] t = refl
zeros (x ∷ xs) t = ap (λ (n : ℕ). n ∷ xs) (eqb→eq x 0 (and_l (eqb x 0) (every (λ n. eqb n 0) xs) t)) ∙ ap (λ (l : List ℕ). 0 ∷ l) (zeros xs (and_r (eqb x 0) (every (λ n. eqb n 0) xs) t))

pub sequence_is : (s : Sequence) → length s.numbers ≡ 4 → T (sequence_kept s) → s ≡ sequence_for (order_of s)
unfolding sequence_kept order_of
sequence_is s e t =
    let r =
    filled 0 s.numbers s.length e (leb→le s.length 4 (and_l (leb s.length 4) (every (λ n. eqb n 0) (drop s.length s.numbers)) t))
    (zeros (drop s.length s.numbers) (and_r (leb s.length 4) (every (λ n. eqb n 0) (drop s.length s.numbers)) t)) in
    λ i. record { numbers = r.0 i; length = r.1 i }

-- thirteen zones by their numbers
zones_by : (d : Zone) (zs pre : List Zone) → zs ≡ map (λ z. get_or (pre ++ zs) z d) (zones_from (length pre) (length zs))
zones_by d [] pre = refl
zones_by d (q ∷ zs) pre =
    let e = get_or-append_seam pre q zs d in
    let m : length (pre ++ (q ∷ [])) ≡ suc (length pre) = length-append pre (q ∷ []) ∙ omega arith in
    let r = zones_by d zs (pre ++ (q ∷ [])) in
    ap (λ (p : Zone). p ∷ zs) (sym e)
    ∙ ap (λ (l : List Zone). get_or (pre ++ q ∷ zs) (length pre) d ∷ l)
    (r ∙ ap (λ (l : List Zone). map (λ z. get_or l z d) (zones_from (length (pre ++ (q ∷ []))) (length zs))) (append_assoc pre (q ∷ []) zs)
    ∙ ap (λ (k : ℕ). map (λ z. get_or (pre ++ q ∷ zs) z d) (zones_from k (length zs))) m)

pub zones_are : (f : Field) → length f.zones ≡ 13 → f.zones ≡ map (zone_of f) everywhere
unfolding zone_of
zones_are f e = zones_by empty_zone f.zones (empty_zone ∷ []) ∙ ap (λ (k : ℕ). map (λ z. get_or (empty_zone ∷ f.zones) z empty_zone) (zones_from 1 k)) e

-- ---- what the look-up finds
record Got (n : ℕ) (queue : List Aircraft) (x : Aircraft) : Type 0 where
  named : x.number ≡ n
  has : (p : Aircraft → Bool) → T (every p queue) → T (p x)

got : (n : ℕ) (pre queue : List Aircraft) (k i : ℕ) → k ≡ length pre → place_from k n queue ≡ i → (i ≡ 0 → ⊥) → Got n queue (get_or (pre ++ queue) i nobody)
got n pre [] k i e p h = absurd (h (sym p))
got n pre (x ∷ xs) k i e p h =
    go (decided (eqb x.number n))
    (λ q. got n (pre ++ (x ∷ [])) xs (suc k) i (let m = length-append pre (x ∷ []) in omega arith) q h)
  where
    go : (eqb x.number n ≡ true) ⊎ (eqb x.number n ≡ false) → (place_from (suc k) n xs ≡ i → Got n xs (get_or ((pre ++ (x ∷ [])) ++ xs) i nobody)) → Got n (x ∷ xs) (get_or (pre ++ x ∷ xs) i nobody)
    go (inl b) later =
        let here : x ≡ get_or (pre ++ x ∷ xs) i nobody =
        sym (get_or-append_seam pre x xs nobody) ∙ ap (λ (j : ℕ). get_or (pre ++ x ∷ xs) j nobody) (sym e ∙ sym (if_true k (place_from (suc k) n xs) b) ∙ p) in
        subst (Got n (x ∷ xs)) here (record { named = eqb-true x.number n b; has = λ p t. and_l (p x) (every p xs) t })
    go (inr b) later =
        let g = later (sym (if_false k (place_from (suc k) n xs) b) ∙ p) in
        let same : get_or ((pre ++ (x ∷ [])) ++ xs) i nobody ≡ get_or (pre ++ x ∷ xs) i nobody = ap (λ (l : List Aircraft). get_or l i nobody) (append_assoc pre (x ∷ []) xs) in
        subst (Got n (x ∷ xs)) same (record { named = g.named; has = λ p t. g.has p (and_r (p x) (every p xs) t) })

-- a place of 0 is no place
no_number : (k n : ℕ) (xs : List Aircraft) → 1 ≤ k → place_from k n xs ≡ 0 → is_in n (numbers xs) ≡ false
no_number k n [] h e = refl
no_number k n (x ∷ xs) h e = go (decided (eqb x.number n)) (no_number (suc k) n xs (omega arith))
  where
    go : (eqb x.number n ≡ true) ⊎ (eqb x.number n ≡ false) → (place_from (suc k) n xs ≡ 0 → is_in n (numbers xs) ≡ false) → (eqb x.number n || is_in n (numbers xs)) ≡ false
    go (inl b) later = absurd (let z : k ≡ 0 = sym (if_true k (place_from (suc k) n xs) b) ∙ e in omega arith)
    go (inr b) later = ap (λ (c : Bool). c || is_in n (numbers xs)) b ∙ later (sym (if_false k (place_from (suc k) n xs) b) ∙ e)

pub record FoundInZones (f : Field) (n : ℕ) (zs : List ℕ) (p : Place) : Type 0 where
  pub zone_in : is_in p.zone zs ≡ true
  pub named : (aircraft_at f p.zone p.place).number ≡ n
  pub has : (t : Aircraft → Bool) → T (every t (in_zone f p.zone)) → T (t (aircraft_at f p.zone p.place))

found : (f : Field) (n : ℕ) (zs ws : List ℕ) → is_in n (numbers_in f zs) ≡ true → FoundInZones f n zs (find_in f n (zs ++ ws))
unfolding find_in aircraft_at
found f n [] ws e = absurd (false≢true e)
found f n (z ∷ zs) ws e = go (decided (eqb (place_from 1 n (in_zone f z)) 0)) (found f n zs ws)
  where
    here : Place
    here = at z (place_from 1 n (in_zone f z))

    go : (eqb (place_from 1 n (in_zone f z)) 0 ≡ true) ⊎ (eqb (place_from 1 n (in_zone f z)) 0 ≡ false)
        → (is_in n (numbers_in f zs) ≡ true → FoundInZones f n zs (find_in f n (zs ++ ws))) → FoundInZones f n (z ∷ zs) (cond (eqb (place_from 1 n (in_zone f z)) 0) (find_in f n (zs ++ ws)) here)
    go (inl b) later =
        let none = no_number 1 n (in_zone f z) (omega arith) (eqb-true (place_from 1 n (in_zone f z)) 0 b) in
        let i : is_in n (numbers_in f zs) ≡ true = sym (ap (λ (c : Bool). c || is_in n (numbers_in f zs)) none) ∙ sym (in_append n (numbers (in_zone f z)) (numbers_in f zs)) ∙ e in
        let r = later i in
        let p = find_in f n (zs ++ ws) in
        subst (FoundInZones f n (z ∷ zs)) (sym (if_true p here b))
        (record { zone_in = ap (λ (c : Bool). eqb z p.zone || c) r.zone_in ∙ right_true (eqb z p.zone); named = r.named; has = r.has })
      where
        right_true : (b : Bool) → (b || true) ≡ true
        right_true true = refl
        right_true false = refl
    go (inr b) later =
        let g = got n (nobody ∷ []) (in_zone f z) 1 (place_from 1 n (in_zone f z)) refl refl (eqb-false (place_from 1 n (in_zone f z)) 0 b) in
        subst (FoundInZones f n (z ∷ zs)) (sym (if_false (find_in f n (zs ++ ws)) here b)) (record { zone_in = ap (λ (c : Bool). c || is_in z zs) (same z); named = g.named; has = g.has })

-- ---- the line of a field
abbrev pub looked_up : Field → ℕ → Placed
looked_up f n = record { aircraft = aircraft_at f (place_of f n).zone (place_of f n).place; zone = (place_of f n).zone }

abbrev pub landing_line : Field → List Placed
landing_line f = map (looked_up f) (order_of f.sequence)

module _ (f : Field) where
  -- the numbers of the sequence are those of the operation area
  abbrev pub Named : List ℕ → Type 0
  Named ns = T (every (λ n. is_in n (numbers_in f operation)) ns)

  pub found_one : (n : ℕ) → T (is_in n (numbers_in f operation)) → FoundInZones f n operation (place_of f n)
  unfolding place_of
  found_one n t = found f n operation (13 ∷ []) (passed t)

  -- each by its test, of the line of the sequence
  pub line_all : (p : Placed → Bool) → ((n : ℕ) → T (is_in n (numbers_in f operation)) → T (p (looked_up f n))) → (ns : List ℕ) → Named ns → T (every p (map (looked_up f) ns))
  line_all p h [] t = tt
  line_all p h (n ∷ ns) t =
      let later = every (λ n. is_in n (numbers_in f operation)) ns in
      and_i (p (looked_up f n)) (every p (map (looked_up f) ns)) (h n (and_l (is_in n (numbers_in f operation)) later t)) (line_all p h ns (and_r (is_in n (numbers_in f operation)) later t))

  pub line_numbers : (ns : List ℕ) → Named ns → numbers_of (map (looked_up f) ns) ≡ ns
  line_numbers [] t = refl
  line_numbers (n ∷ ns) t =
      let later = every (λ n. is_in n (numbers_in f operation)) ns in
      ap (λ (m : ℕ). m ∷ numbers_of (map (looked_up f) ns)) (found_one n (and_l (is_in n (numbers_in f operation)) later t)).named
      ∙ ap (λ (l : List ℕ). n ∷ l) (line_numbers ns (and_r (is_in n (numbers_in f operation)) later t))

  pub line_seen : (ns : List ℕ) → Named ns → map (listed f) ns ≡ map as_listed (map (looked_up f) ns)
  unfolding fix_of
  line_seen [] t = refl
  line_seen (n ∷ ns) t =
      let later = every (λ n. is_in n (numbers_in f operation)) ns in
      let e = (found_one n (and_l (is_in n (numbers_in f operation)) later t)).named in
      let h : listed f n ≡ as_listed (looked_up f n) = λ i. record { number = sym e i; zone = (place_of f n).zone; fix = fix_of f n } in
      ap (λ (y : Listed). y ∷ map (listed f) ns) h ∙ ap (λ (l : List Listed). as_listed (looked_up f n) ∷ l) (line_seen ns (and_r (is_in n (numbers_in f operation)) later t))

  -- ---- who stands in a queue is found there
  module _ (d : T (all_different (numbers_in f everywhere))) where
    once : (n : ℕ) → total (λ z. count (numbers (in_zone f z)) n) everywhere ≤ 1
    once n = let a = numbers_total f n everywhere in let b = count_different (numbers_in f everywhere) d n in omega arith

    in_queue : (z : ℕ) → T (within 1 13 z) → (pre : List Aircraft) (x : Aircraft) (post : List Aircraft) → in_zone f z ≡ pre ++ x ∷ post → place_of f x.number ≡ at z (suc (length pre))
    unfolding place_of
    in_queue z t pre x post e =
        let n = x.number in
        let g : ℕ → ℕ = λ y. count (numbers (in_zone f y)) n in
        let here : g z ≡ count (numbers pre) n + count (n ∷ numbers post) n =
        ap (λ (q : List Aircraft). count (numbers q) n) e ∙ ap (λ (l : List ℕ). count l n) (map_append (λ (a : Aircraft). a.number) pre (x ∷ post))
        ∙ count_append (numbers pre) (n ∷ numbers post) n in
        let one-here : one (eqb n n) ≡ 1 = if_true 1 0 (same n) in
        let all_once = once n in
        let upper = one_in_total g everywhere z (in_everywhere z t) in
        let before : is_in n (numbers pre) ≡ false = absent_count (numbers pre) n (omega arith) in
        find_at f n everywhere z (length pre) tt (in_everywhere z t)
        (ap (place_from 1 n) e ∙ place_at 1 pre x post before ∙ omega arith)
        (λ y u h. no_place 1 n (in_zone f y) (absent_count (numbers (in_zone f y)) n (let both = two_in_total g everywhere y z (in_everywhere y u) (in_everywhere z t) h in omega arith)))

    queue_found : (z : ℕ) → T (within 1 13 z) → (pre post : List Aircraft) → in_zone f z ≡ pre ++ post → post ≡ map (λ n. (looked_up f n).aircraft) (numbers post)
    unfolding aircraft_at
    queue_found z t pre [] e = refl
    queue_found z t pre (x ∷ post) e =
        let p = in_queue z t pre x post e in
        let h : (looked_up f x.number).aircraft ≡ x =
        ap (λ (q : Place). aircraft_at f q.zone q.place) p ∙ ap (λ (l : List Aircraft). get_or l (length pre) nobody) e ∙ get_or-append_seam pre x post nobody in
        let r = queue_found z t (pre ++ (x ∷ [])) post (e ∙ sym (append_assoc pre (x ∷ []) post)) in
        ap (λ (a : Aircraft). a ∷ post) (sym h) ∙ ap (λ (l : List Aircraft). (looked_up f x.number).aircraft ∷ l) r

    -- a queue that agrees with the sequence is the line inside its zone
    pub queue_is : (z : ℕ) → T (within 1 12 z) → QueueAgrees f z → in_zone f z ≡ inside z (landing_line f)
    unfolding sequence_listed
    queue_is z t a =
        queue_found z (lower z t) [] (in_zone f z) refl
        ∙ ap (map (λ n. (looked_up f n).aircraft)) a
        ∙ sym (inside_those (order_of f.sequence))
      where
        inside_those : (ns : List ℕ) → inside z (map (looked_up f) ns) ≡ map (λ n. (looked_up f n).aircraft) (map (λ (y : Listed). y.number) (those (is_in_zone z) (map (listed f) ns)))
        inside_those [] = refl
        inside_those (n ∷ ns) = go (eqb (place_of f n).zone z) (inside_those ns)
          where
            look : ℕ → Aircraft
            look m = (looked_up f m).aircraft

            rest : List Listed
            rest = those (is_in_zone z) (map (listed f) ns)

            go : (b : Bool) → inside z (map (looked_up f) ns) ≡ map look (map (λ (y : Listed). y.number) rest)
                → cond b (look n ∷ inside z (map (looked_up f) ns)) (inside z (map (looked_up f) ns)) ≡ map look (map (λ (y : Listed). y.number) (cond b (listed f n ∷ rest) rest))
            go true h = ap (λ (l : List Aircraft). look n ∷ l) h
            go false h = h

-- ---- the field is that of its line
pub stands_for : (f : Field) (first : Side) → length f.zones ≡ 13 → ((z : ℕ) → T (within 1 13 z) → zone_of f z ≡ zone_for (in_zone f z))
    → ((z : ℕ) → T (within 1 12 z) → in_zone f z ≡ inside z (landing_line f))
    → f.sequence ≡ sequence_for (numbers_of (landing_line f)) → f.next ≡ num (next_fix first (zones_in (landing_line f))) → f ≡ field_of first (landing_line f) (in_zone f 13) f.legs
unfolding field_of
stands_for f first e q i s n =
    let g = zones_of (landing_line f) (in_zone f 13) in
    let z = zones_are f e in
    let zones : field_by (zone_of f) f.sequence f.next f.legs ≡ field_by g f.sequence f.next f.legs =
    by_zones (zone_of f) f.sequence f.next f.legs g
    (zone_split {P = λ z. zone_of f z ≡ g z} (q 13 tt) (λ z t. q z (lower z t) ∙ ap zone_for (i z t) ∙ sym (if_false (zone_for (in_zone f 13)) (zone_for (inside z (landing_line f))) (not_13 z t)))) in
    let whole : f ≡ field_by (zone_of f) f.sequence f.next f.legs = λ j. record { zones = z j; sequence = f.sequence; next = f.next; legs = f.legs } in
    whole ∙ zones ∙ (λ j. field_by g (s j) (n j) f.legs)
