-- The numbers of those in zones, as the code walks them: who has a number, and whether they differ, zone by zone. Assumes nothing.
use mathlib.Core.Path.{◌≡◌, refl, sym, ap, ◌∙◌}
use mathlib.Core.Bool.{Bool, true, false, not, ◌&&◌, ◌||◌}
use mathlib.Core.List.{List, [], ◌∷◌, ◌++◌, map, append_assoc, append-nil}
use Prim.Native.Nat.{ℕ, zero, suc, ◌+◌, ◌-◌, ◌≤◌, ◌<◌}
use native.Mathlib.Omega.{arith}
use lib.Dec.{eqb}
use lib.ListN.{length, get_or, take, drop}
use lib.Seq.{drop-cons}
use Rattle.std.specs.List.{list_all, list_any}
use Rattle.std.proofs.lemmas.List.Recursion.{same_from_clauses}
use Rattle.field.specs.declared.Aircraft.{Aircraft}
use Rattle.field.specs.declared.Zone.{Zone}
use Rattle.field.specs.declared.Field.{Field}
use Rattle.field.specs.Airspace.{zones_from, empty_zone, zone_of, queue_of, in_zone}
use Rattle.field.specs.Lists.{is_in, every, all_different}
use Rattle.field.proofs.Arrays.{Walked, next_of, walked_more, walked_stop}
use Rattle.field.proofs.Chains.{part_from}
use Rattle.field.proofs.NumberLists.{in_append, in_left, in_right, absent_both}
use Rattle.field.proofs.TestParts.{and_then, and_cut}
use Rattle.questions.specs.Find.{numbers_in}
use Rattle.questions.proofs.NumbersListed.{number_of}
use Rattle.numbers.specs.Numbers.{numbers_of, apart}

abbrev pub numbers : List Aircraft → List ℕ
numbers xs = map number_of xs

-- ---- the zones of the array
pub along : (f : Field) (k n : ℕ) → k + n ≤ length f.zones → numbers_of (take n (drop k f.zones)) ≡ numbers_in f (zones_from (suc k) n)
unfolding zone_of in_zone
along f k zero h = refl
along f k (suc n) h =
    let first : k < length f.zones = omega arith in
    ap (λ (l : List Zone). numbers_of (take (suc n) l)) (drop-cons f.zones k empty_zone first)
    ∙ ap (λ (l : List ℕ). numbers (queue_of (get_or f.zones k empty_zone)) ++ l) (along f (suc k) n (omega arith))

-- ---- who has a number
pub in_queue : (n : ℕ) (xs : List Aircraft) → list_any (λ a. eqb a.number n) xs ≡ is_in n (numbers xs)
in_queue n = same_from_clauses (list_any (λ a. eqb a.number n)) (λ xs. is_in n (numbers xs)) (λ a b. eqb a.number n || b) refl (λ _ _. refl) (λ _ _. refl)

pub in_any : (n : ℕ) (qs : List Zone) → list_any (λ q. is_in n (numbers (queue_of q))) qs ≡ is_in n (numbers_of qs)
in_any n =
    same_from_clauses (list_any (λ q. is_in n (numbers (queue_of q)))) (λ qs. is_in n (numbers_of qs)) (λ q b. is_in n (numbers (queue_of q)) || b)
    refl (λ _ _. refl) (λ q qs. in_append n (numbers (queue_of q)) (numbers_of qs))

-- ---- a test of every number
module _ (p : ℕ → Bool) where
  both : (a b c : Bool) → (a && (b && c)) ≡ (a && b && c)
  both true b c = refl
  both false b c = refl

  every_append : (xs ys : List ℕ) → every p (xs ++ ys) ≡ (every p xs && every p ys)
  every_append [] ys = refl
  every_append (x ∷ xs) ys = ap (λ (b : Bool). p x && b) (every_append xs ys) ∙ both (p x) (every p xs) (every p ys)

  pub in_each : (xs : List Aircraft) → list_all (λ a. p a.number) xs ≡ every p (numbers xs)
  in_each = same_from_clauses (list_all (λ a. p a.number)) (λ xs. every p (numbers xs)) (λ a b. p a.number && b) refl (λ _ _. refl) (λ _ _. refl)

  pub in_every : (qs : List Zone) → list_all (λ q. every p (numbers (queue_of q))) qs ≡ every p (numbers_of qs)
  in_every =
      same_from_clauses (list_all (λ q. every p (numbers (queue_of q)))) (λ qs. every p (numbers_of qs)) (λ q b. every p (numbers (queue_of q)) && b)
      refl (λ _ _. refl) (λ q qs. every_append (numbers (queue_of q)) (numbers_of qs))

-- ---- apart
-- that those in front differ, and those behind, ..
joined : (a b c : Bool) → (a && (b && c)) ≡ (a && b && c)
joined true b c = refl
joined false b c = refl

pub apart_append : (xs ys behind : List ℕ) → apart (xs ++ ys) behind ≡ (apart xs (ys ++ behind) && apart ys behind)
apart_append [] ys behind = refl
apart_append (x ∷ xs) ys behind =
    let here : List ℕ → Bool = λ l. not (eqb x 0) && not (is_in x l) in
    ap (λ (l : List ℕ). here l && apart (xs ++ ys) behind) (append_assoc xs ys behind)
    ∙ ap (λ (b : Bool). here (xs ++ (ys ++ behind)) && b) (apart_append xs ys behind)
    ∙ joined (here (xs ++ (ys ++ behind))) (apart xs (ys ++ behind)) (apart ys behind)

-- .. and with nobody behind that is what is asked of the whole field
exchanged : (a b c d : Bool) → (a && b && (c && d)) ≡ (a && c && (b && d))
exchanged true true c d = refl
exchanged true false true d = refl
exchanged true false false d = refl
exchanged false b c d = refl

pub apart_all : (l : List ℕ) → (every (λ n. not (eqb n 0)) l && all_different l) ≡ apart l []
apart_all [] = refl
apart_all (n ∷ ns) =
    let nonzero = every (λ (m : ℕ). not (eqb m 0)) ns in
    exchanged (not (eqb n 0)) nonzero (not (is_in n ns)) (all_different ns)
    ∙ ap (λ (b : Bool). not (eqb n 0) && not (is_in n ns) && b) (apart_all ns)
    ∙ ap (λ (l : List ℕ). not (eqb n 0) && not (is_in n l) && apart ns []) (sym (append-nil ns))

-- ---- a turn over a queue, with those of other zones behind it
module _ (l : List Aircraft) (behind : List ℕ) (i : ℕ) (d : Aircraft) (h : i < length l) where
  abbrev number : ℕ
  number = (get_or l i d).number

  abbrev rest : List ℕ
  rest = numbers (take (length l - (i + 1)) (drop (i + 1) l))

  abbrev from : List Aircraft → Bool
  from xs = apart (numbers xs) behind

  -- the one at place i, by the part of the queue behind it
  here : (not (eqb number 0) && not (is_in number (numbers (drop (i + 1) l) ++ behind))) ≡ (not (eqb number 0) && not (is_in number (rest ++ behind)))
  here = ap (λ (xs : List Aircraft). not (eqb number 0) && not (is_in number (numbers xs ++ behind))) (sym (part_from l (i + 1)))

  pub queue_more : Walked from l 0 i → eqb number 0 ≡ false → is_in number rest ≡ false → is_in number behind ≡ false → Walked from l 0 (i + 1)
  queue_more w nonzero e g =
      walked_more from l 0 i w h (next_of l i d h) (and_then (here ∙ and_then (ap not nonzero) (ap not (absent_both number rest behind e g))) refl)

  stopped : Walked from l 0 i → (not (eqb number 0) && not (is_in number (rest ++ behind))) ≡ false → from l ≡ false
  stopped w e = walked_stop from l 0 i w (next_of l i d h) (and_cut _ (here ∙ e))

  barred : (a : Bool) {b : Bool} → b ≡ true → (a && not b) ≡ false
  barred true e = ap not e
  barred false e = refl

  pub queue_zero : Walked from l 0 i → eqb number 0 ≡ true → from l ≡ false
  queue_zero w e = stopped w (and_cut _ (ap not e))

  pub queue_twice : Walked from l 0 i → is_in number rest ≡ true → from l ≡ false
  queue_twice w e = stopped w (barred (not (eqb number 0)) (in_left number rest behind e))

  pub queue_behind : Walked from l 0 i → is_in number behind ≡ true → from l ≡ false
  queue_behind w e = stopped w (barred (not (eqb number 0)) (in_right number rest behind e))

-- ---- a turn over the zones
module _ (l : List Zone) (i : ℕ) (d : Zone) (h : i < length l) where
  abbrev zone : Zone
  zone = get_or l i d

  abbrev from_zone : List Zone → Bool
  from_zone qs = apart (numbers_of qs) []

  abbrev after : List Zone
  after = take (length l - (i + 1)) (drop (i + 1) l)

  parts : from_zone (zone ∷ drop (i + 1) l) ≡ (apart (numbers (queue_of zone)) (numbers_of after) && from_zone (drop (i + 1) l))
  parts =
      let behind = numbers_of (drop (i + 1) l) in
      apart_append (numbers (queue_of zone)) behind []
      ∙ ap (λ (ms : List ℕ). apart (numbers (queue_of zone)) ms && apart behind []) (append-nil behind ∙ ap numbers_of (sym (part_from l (i + 1))))

  -- xs is the queue of the zone as the code reads it
  module _ {xs : List Aircraft} (e : xs ≡ queue_of zone) where
    read : apart (numbers (queue_of zone)) (numbers_of after) ≡ apart (numbers xs) (numbers_of after)
    read = ap (λ (ys : List Aircraft). apart (numbers ys) (numbers_of after)) (sym e)

    pub zones_more : Walked from_zone l 0 i → apart (numbers xs) (numbers_of after) ≡ true → Walked from_zone l 0 (i + 1)
    zones_more w t = walked_more from_zone l 0 i w h (next_of l i d h) (parts ∙ and_then (read ∙ t) refl)

    pub zones_stop : Walked from_zone l 0 i → apart (numbers xs) (numbers_of after) ≡ false → from_zone l ≡ false
    zones_stop w t = walked_stop from_zone l 0 i w (next_of l i d h) (parts ∙ and_cut _ (read ∙ t))
