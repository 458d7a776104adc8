-- There and back: the field again, with the parts set that document 02 names. Assumes nothing.
use mathlib.Core.Path.{◌≡◌, refl, sym, ap, ◌∙◌, subst}
use mathlib.Core.Logic.{◌⊎◌, inl, inr}
use mathlib.Core.Bool.{Bool, true, false, cond, not, ◌&&◌, ◌||◌, true≢false}
use mathlib.Core.List.{List, [], ◌∷◌, ◌++◌, map}
use Prim.Native.Nat.{ℕ, ◌+◌, ◌-◌, ◌≤◌, ◌<◌}
use native.Mathlib.Omega.{arith}
use lib.Dec.{T, eqb, leb, leb→le, le→leb, eqb→eq}
use lib.Ieee.{eq}
use lib.ListN.{length, get_or, take, drop, replicate, length-take, length-drop, length-map}
use lib.Seq.{length-take-le, take-append_seam}
use lib.Ieee.Fits.{and_i, and_l, and_r}
use borrow.Author.Tests.{eq-eqb, ne_eqb, lt-leb, eqb-true, leb-true, leb-false}
use Rattle.request.specs.Input.{within}
use Rattle.practice.specs.declared.FileLegs.{FileLegs}
use Rattle.leg.specs.Progress.{whole}
use Rattle.leg.specs.declared.Progress.{Progress}
use Rattle.leg.specs.declared.Progress.TheVariants.{Waiting, Flying}
use Rattle.field.specs.declared.Aircraft.{Aircraft}
use Rattle.field.specs.declared.Zone.{Zone}
use Rattle.field.specs.declared.Legs.{Legs}
use Rattle.field.specs.declared.Field.{Field}
use Rattle.field.specs.Airspace.{right, is_flying_zone, everywhere, operation, zones_from, nobody, zone_of, queue_of, in_zone, order_of, order_length, entering, runway}
use Rattle.field.specs.Lists.{every, is_in, all_different}
use Rattle.field.proofs.TestLaws.{pass, passed, decided, if_true, if_false, same, every_from, each_operation}
use Rattle.field.proofs.NumberLists.{every_listed}
use Rattle.field.proofs.Shapes.{order_fits}
use Rattle.questions.specs.declared.Place.{Place}
use Rattle.questions.specs.Counts.{how_many, is_empty}
use Rattle.questions.specs.Find as find
use Rattle.questions.proofs.NumbersListed.{number_of, numbers_at}
use Rattle.questions.proofs.FindLaws.{at, find_own, in_zones, found_exactly, found_there}
use Rattle.numbers.specs.Numbers.{sequence_exact}
use Rattle.bounds.specs.Bounds.{lateral_rule, bound_c, bound_f, alternate, is_nobody, zone_kept, within_bounds}
use Rattle.fits.specs.Fits.{is_waiting, fits_zone}
use Rattle.laws.proofs.EditLaws.{no_zone_empty}
use Rattle.laws.proofs.BoundLaws.{within_each, within_e, numbers_different}
use Rattle.laws.proofs.Fits.{Fits, fits_parts}
use Rattle.rules.specs.Reason.{has_places}
use Rattle.finder.specs.declared.Indexed.{Indexed}
use Rattle.finder.specs.Finder.{index_of, same_index, within_bounds_indexed}
use Rattle.finder.proofs.IndexLaws.{index_same, same_equal}
use Rattle.indexed.specs.Indexed.{with_index}
use Rattle.line.proofs.Line.{zone_for, queue_for, sequence_for, by_zones}
use Rattle.line.proofs.CountedOnLine.{in_everywhere}
use Rattle.reason.proofs.Invariant.{Places, places_parts, parts}
use Rattle.reason.proofs.LineOfField.{sequence_is, zones_are}
use Rattle.playing.specs.Playing.{legs_in_miles}
use Rattle.dialect.specs.declared.ListEntry.{ListEntry}
use Rattle.dialect.specs.declared.Listing.{Listing}
use Rattle.dialect.specs.Going.{list_entry, list_entries, entries_of, in_dialect, no_entry, entries_listed, list_refused, list_of}
use Rattle.dialect_field.specs.Coming.{entries_in, placed_from, fix_in, built, field_of_list}
use Rattle.there_and_back.specs.Settled.{settled, plain_zeros, settled_zone, settled_field, settled_indexed}
use Rattle.there_and_back.proofs.Shape.{uncut, waiting, at_zone, numbers_in, next_from, built_for}
use Rattle.there_and_back.proofs.ByLocation.{located, none_at, at_split, only, side_kept}
use Rattle.there_and_back.proofs.AcceptedList.{accepted}
use Rattle.there_and_back.proofs.Back.{zone_is, one_at}
use Rattle.there_and_back.proofs.Gone.{none_on_runway, entries_are, all_hold, numbers_are, none_listed, split_at, next_is}

-- ---- a zone that is settled
plain : (a : Aircraft) → T (is_nobody a) → plain_zeros a ≡ nobody
unfolding is_nobody plain_zeros
plain a t =
    let n = eqb a.number 0 in
    let f = eqb a.fix 0 in
    let s = eqb a.speed 0 in
    let w = eq a.waited (whole 0) in
    let l = eq a.leg (whole 0) in
    let d = eqb a.desk 0 in
    let six = and_l (n && f && s && d && w && l) (is_waiting a.progress) t in
    let five = and_l (n && f && s && d && w) l six in
    let four = and_l (n && f && s && d) w five in
    let three = and_l (n && f && s) d four in
    let two = and_l (n && f) s three in
    made (eqb→eq a.number 0 (and_l n f two)) (eqb→eq a.fix 0 (and_r n f two)) (eqb→eq a.speed 0 (and_r (n && f) s three)) (eqb→eq a.desk 0 (and_r (n && f && s) d four))
    (waits a.progress (and_r (n && f && s && d && w && l) (is_waiting a.progress) t))
  where
    waits : (p : Progress) → T (is_waiting p) → p ≡ Waiting
    waits Waiting u = refl
    waits (Flying m) u = absurd u

    made : {n f s d : ℕ} {p : Progress} → n ≡ 0 → f ≡ 0 → s ≡ 0 → d ≡ 0 → p ≡ Waiting
        → ◌≡◌ {A = Aircraft} (record { number = n; fix = f; speed = s; progress = p; waited = whole 0; leg = whole 0; desk = d }) nobody
    made a b c d e i = record { number = a i; fix = b i; speed = c i; progress = e i; waited = whole 0; leg = whole 0; desk = d i }

all_plain : (xs : List Aircraft) → T (every is_nobody xs) → map plain_zeros xs ≡ replicate (length xs) nobody
all_plain [] t = refl
all_plain (x ∷ xs) t =
    ap (λ (a : Aircraft). a ∷ map plain_zeros xs) (plain x (and_l (is_nobody x) (every is_nobody xs) t))
    ∙ ap (λ (l : List Aircraft). nobody ∷ l) (all_plain xs (and_r (is_nobody x) (every is_nobody xs) t))

zone_settled : (speed : ℕ) (q : Zone) → length q.aircraft ≡ 4 → T (zone_kept q) → settled_zone speed q ≡ zone_for (map (settled speed) (queue_of q))
unfolding settled_zone zone_kept queue_of
zone_settled speed q e t =
    let past = drop q.length q.aircraft in
    let fits = leb→le q.length 4 (and_l (leb q.length 4) (every is_nobody past) t) in
    let long : length (take q.length q.aircraft) ≡ q.length = length-take-le q.length q.aircraft (omega arith) in
    let same = length-map (take q.length q.aircraft) (settled speed) in
    let count : q.length ≡ length (map (settled speed) (take q.length q.aircraft)) = omega arith in
    let rest = length-drop q.length q.aircraft in
    let left : length past ≡ 4 - length (map (settled speed) (take q.length q.aircraft)) = omega arith in
    let zeros : map plain_zeros past ≡ replicate (4 - length (map (settled speed) (take q.length q.aircraft))) nobody
    = all_plain past (and_r (leb q.length 4) (every is_nobody past) t) ∙ ap (λ (n : ℕ). replicate n nobody) left in
    λ i. record { aircraft = map (settled speed) (take q.length q.aircraft) ++ zeros i; length = count i }

-- ---- a field whose list builds a field within the bounds
module _ (f : Field) (h : Places f) (w : T (within_bounds f)) (legs : Legs) (speed : ℕ) (p : T (placed_from 1 (entries_of f))) (u : T (within_bounds (built legs speed (entries_of f)))) where
  abbrev order : List ℕ
  order = order_of f.sequence

  abbrev es : List ListEntry
  es = entries_of f

  clear : is_empty f runway ≡ true
  clear = none_on_runway f p

  es_are : es ≡ list_entries f 1 order
  es_are = entries_are f clear

  holds : T (every (λ n. within 1 4 (find.place_of f n).zone) order)
  holds = all_hold f 1 order (subst (λ (l : List ListEntry). T (placed_from 1 l)) es_are p)

  -- everyone of the operation area is in the sequence
  listed_in_order : (n : ℕ) → is_in n (find.numbers_in f operation) ≡ true → is_in n order ≡ true
  unfolding sequence_exact
  listed_in_order n i =
      let two = every (λ n. is_in n (find.numbers_in f operation)) order in
      passed (every_listed (λ n. is_in n order) (find.numbers_in f operation) n (and_r (all_different order && two) (every (λ n. is_in n order) (find.numbers_in f operation)) (within_e f w).exact) i)

  -- the head of a zone's queue is found there
  found_head : (z : ℕ) → T (within 1 13 z) → (a : Aircraft) (rest : List Aircraft) → in_zone f z ≡ a ∷ rest → find.place_of f a.number ≡ at z 1
  unfolding find.place_of
  found_head z t a rest e = find_own f z [] a rest e everywhere (numbers_different f w) (in_everywhere z t)

  in_order : (z : ℕ) → T (within 1 12 z) → (a : Aircraft) (rest : List Aircraft) → in_zone f z ≡ a ∷ rest → is_in a.number order ≡ true
  in_order z t a rest e =
      listed_in_order a.number
      (in_zones f a.number z operation (in_operation_lem z t)
      (ap (λ (l : List Aircraft). is_in a.number (map number_of l)) e ∙ ap (λ (b : Bool). b || is_in a.number (map number_of rest)) (same a.number)))
    where
      in_operation_lem : (z : ℕ) → T (within 1 12 z) → is_in z operation ≡ true
      in_operation_lem = λ z t. each_operation (λ y. is_in y operation ≡ true) (refl, refl, refl, refl, refl, refl, refl, refl, refl, refl, refl, refl) z t

  -- nobody but in the holdings
  empty_past : (z : ℕ) → T (within 1 13 z) → 4 < z → in_zone f z ≡ []
  unfolding how_many
  empty_past z t high = go (in_zone f z) refl
    where
      go : (l : List Aircraft) → in_zone f z ≡ l → l ≡ []
      go [] e = refl
      go (a ∷ rest) e =
          elim (decided (leb z 12)) [
            | inl b ↦
                let in-12 : T (within 1 12 z) = and_i (leb 1 z) (leb z 12) (and_l (leb 1 z) (leb z 13) t) (pass b) in
                let four = every_listed (λ n. within 1 4 (find.place_of f n).zone) order a.number holds (in_order z in-12 a rest e) in
                let here = subst (λ (q : Place). T (within 1 4 q.zone)) (found_head z t a rest e) four in
                let low = leb→le z 4 (and_r (leb 1 z) (leb z 4) here) in
                absurd (omega arith)
            | inr b ↦
                let last : z ≡ 13 = let x = leb→le z 13 (and_r (leb 1 z) (leb z 13) t) in let y = leb-false z 12 b in omega arith in
                let none = eqb-true (length (in_zone f 13)) 0 clear in
                let some = ap length (sym (ap (in_zone f) last) ∙ e) in
                absurd (omega arith)
          ]

  -- one that stands alone in a holding
  module _ (z : ℕ) (t : T (within 1 13 z)) (low : 1 ≤ z) (high : z ≤ 4) (a : Aircraft) (e : in_zone f z ≡ a ∷ []) where
    fits : Fits f.legs z a
    fits =
        let all = every_listed (λ y. every (fits_zone f.legs y) (in_zone f y)) everywhere z (parts f (within_each f w)).fit (in_everywhere z t) in
        fits_parts f.legs z a (and_l (fits_zone f.legs z a) true (subst (λ (l : List Aircraft). T (every (fits_zone f.legs z) l)) e all))

    has_fix_lem : find.fix_of f a.number ≡ a.fix
    unfolding find.fix_of find.aircraft_at
    has_fix_lem = ap (λ (q : Place). (find.aircraft_at f q.zone q.place).fix) (found_head z t a [] e) ∙ ap (λ (l : List Aircraft). (get_or (nobody ∷ l) 1 nobody).fix) e

    waits : a.progress ≡ Waiting
    unfolding is_flying_zone
    waits = go a.progress (fits.waits (ap (λ (b : Bool). b && leb z 12) (lt-leb 7 z (omega arith))))
      where
        go : (q : Progress) → T (is_waiting q) → q ≡ Waiting
        go Waiting v = refl
        go (Flying m) v = absurd v

    built_again : (place : ℕ) → waiting speed (list_entry f a.number place) ≡ settled speed a
    unfolding list_entry entering settled
    built_again place =
        let fix = ap fix_in has_fix_lem ∙ side_kept a.fix fits.side in
        λ i. record { number = a.number; fix = fix i; speed = speed; progress = sym waits i; waited = whole 0; leg = whole 0; desk = 1 }

    only_one : map (waiting speed) (at_zone z es) ≡ settled speed a ∷ []
    unfolding list_entry
    only_one =
        let s = split_at f 1 order a.number (in_order z (and_i (leb 1 z) (leb z 12) (le→leb 1 z low) (le→leb z 12 (omega arith))) a [] e) in
        let e' = list_entry f a.number s.own in
        let own : eqb z e'.location ≡ true = eq-eqb z e'.location (sym (ap (λ (q : Place). q.zone) (found_head z t a [] e))) in
        let split = ap (at_zone z) (es_are ∙ s.is) ∙ at_split z s.ahead e' s.behind own in
        let one = one_at legs speed es p u z low high in
        let long = ap length split in
        ap (map (waiting speed)) (split ∙ only (at_zone z s.ahead) e' (at_zone z s.behind) (omega arith)) ∙ ap (λ (b : Aircraft). b ∷ []) (built_again s.own)

  -- at most one in a holding, by bound c
  one_in : (z : ℕ) → 1 ≤ z → z ≤ 4 → length (in_zone f z) ≤ 1
  unfolding bound_c how_many
  one_in z low high =
      let all = every (λ y. leb (how_many f y) 1) (zones_from 1 6) in
      let c = and_l all (lateral_rule f 1) (and_l (all && lateral_rule f 1) (lateral_rule f 2) (within_each f w).bound_c_is) in
      leb→le (how_many f z) 1 (every_from (λ y. leb (how_many f y) 1) 1 6 c z low (omega arith))

  -- where nobody is in a zone, nobody of the list is
  none_there : (z : ℕ) → 1 ≤ z → in_zone f z ≡ [] → at_zone z es ≡ []
  unfolding how_many
  none_there z low e =
      ap (at_zone z) es_are
      ∙ none_listed f z 1 order
      (λ n i q.
      let away = found_exactly f n in
      let there : is_in n (find.numbers_in f everywhere) ≡ true = go (is_in n (find.numbers_in f everywhere)) (sym away ∙ ne_eqb (find.place_of f n).zone 0 (λ k. omega arith)) in
      let r = found_there f n there in
      let none = ap length (ap (in_zone f) q ∙ e) in
      let first = r.first in
      let last = r.last in
      omega arith)
    where
      go : (b : Bool) → not b ≡ false → b ≡ true
      go true k = refl
      go false k = absurd (true≢false k)

  same_queue : (z : ℕ) → T (within 1 13 z) → map (waiting speed) (at_zone z es) ≡ map (settled speed) (in_zone f z)
  same_queue z t = go (decided (leb z 4))
    where
      low : 1 ≤ z
      low = leb→le 1 z (and_l (leb 1 z) (leb z 13) t)

      held : z ≤ 4 → (l : List Aircraft) → in_zone f z ≡ l → map (waiting speed) (at_zone z es) ≡ map (settled speed) l
      held high [] e = ap (map (waiting speed)) (none_there z low e)
      held high (a ∷ []) e = only_one z t low high a e
      held high (a ∷ b ∷ rest) e = absurd (let one = one_in z low high in let long = ap length e in omega arith)

      go : (leb z 4 ≡ true) ⊎ (leb z 4 ≡ false) → map (waiting speed) (at_zone z es) ≡ map (settled speed) (in_zone f z)
      go (inl b) = held (leb-true z 4 b) (in_zone f z) refl
      go (inr b) =
          let high = leb-false z 4 b in
          ap (map (waiting speed)) (none_at z 1 es p high) ∙ sym (ap (map (settled speed)) (empty_past z t high))

  -- ---- the field again
  short : (z : ℕ) → T (within 1 13 z) → length (map (settled speed) (in_zone f z)) ≤ 4
  unfolding in_zone queue_of
  short z t =
      let same = length-map (in_zone f z) (settled speed) in
      let cut = length-take (zone_of f z).length (zone_of f z).aircraft in
      let four = h.four z t in
      omega arith

  queue_again : (z : ℕ) → T (within 1 13 z) → take 4 (map (waiting speed) (at_zone z es)) ≡ map (settled speed) (in_zone f z)
  queue_again z t = ap (take 4) (same_queue z t) ∙ uncut 4 (map (settled speed) (in_zone f z)) (short z t)

  zone_again : (z : ℕ) → T (within 1 13 z) → zone_for (take 4 (map (waiting speed) (at_zone z es))) ≡ settled_zone speed (zone_of f z)
  unfolding in_zone
  zone_again z t =
      ap zone_for (queue_again z t)
      ∙ sym (zone_settled speed (zone_of f z) (h.four z t) (every_listed (λ y. zone_kept (zone_of f y)) everywhere z (within_e f w).zones_kept (in_everywhere z t)))

  order_again : take 4 (numbers_in es) ≡ order
  order_again = ap (λ (l : List ListEntry). take 4 (numbers_in l)) es_are ∙ ap (take 4) (numbers_are f 1 order) ∙ uncut 4 order (order_fits f.sequence h.numbers)

  next_by : (ns : List ℕ) → T (alternate (map (find.fix_of f) ns ++ (f.next ∷ []))) → next_from right (list_entries f 1 ns) ≡ cond (eqb (length ns) 0) right f.next
  next_by [] t = refl
  next_by (n ∷ ns) t = next_is f n ns right 1 t ∙ sym (if_false right f.next (ne_eqb (length (n ∷ ns)) 0 (λ k. omega arith)))

  next_again : next_from right es ≡ cond (eqb (order_length f.sequence) 0) right f.next
  unfolding order_length bound_f
  next_again = ap (next_from right) es_are ∙ next_by order (within_each f w).bound_f_is

  pub field_again : built legs speed es ≡ settled_field legs speed f
  unfolding settled_field
  field_again =
      let zones = sym (ap (map (settled_zone speed)) (zones_are f h.thirteen)) in
      let sequence = ap sequence_for order_again ∙ sym (sequence_is f.sequence h.numbers (within_e f w).sequence_kept_lem) in
      built_for legs speed es (located 1 es p)
      ∙ by_zones (λ z. zone_for (take 4 (map (waiting speed) (at_zone z es)))) (sequence_for (take 4 (numbers_in es))) (next_from right es) legs (λ z. settled_zone speed (zone_of f z)) zone_again
      ∙ (λ i. record { zones = zones i; sequence = sequence i; next = next_again i; legs = legs })

  -- ---- and its index
  numbers_kept : (l : List Aircraft) → map number_of (map (settled speed) l) ≡ map number_of l
  unfolding settled
  numbers_kept [] = refl
  numbers_kept (a ∷ l) = ap (λ (ns : List ℕ). a.number ∷ ns) (numbers_kept l)

  long : length (built legs speed es).zones ≡ 13
  long = ap (λ (g : Field). length g.zones) (built_for legs speed es (located 1 es p))

  numbers_again : (z : ℕ) → numbers_at (built legs speed es) z ≡ numbers_at f z
  unfolding in_zone
  numbers_again z = go (decided (leb 1 z)) (decided (leb z 13))
    where
      none : (z ≡ 0) ⊎ (13 < z) → numbers_at (built legs speed es) z ≡ numbers_at f z
      none k = ap (λ (q : Zone). map number_of (queue_of q)) (no_zone_empty (built legs speed es) long z k ∙ sym (no_zone_empty f h.thirteen z k))

      go : (leb 1 z ≡ true) ⊎ (leb 1 z ≡ false) → (leb z 13 ≡ true) ⊎ (leb z 13 ≡ false) → numbers_at (built legs speed es) z ≡ numbers_at f z
      go (inl a) (inl b) =
          let t : T (within 1 13 z) = and_i (leb 1 z) (leb z 13) (pass a) (pass b) in
          ap (λ (q : Zone). map number_of (queue_of q)) (zone_is legs speed es p u z t)
          ∙ ap (map number_of) (queue_for (take 4 (map (waiting speed) (at_zone z es))) ∙ queue_again z t)
          ∙ numbers_kept (in_zone f z)
      go (inr a) b = none (inl (let k = leb-false 1 z a in omega arith))
      go (inl a) (inr b) = none (inr (leb-false z 13 b))

  pub index_again : index_of (built legs speed es) ≡ index_of f
  index_again = index_same (built legs speed es) f numbers_again

-- ---- what going tells
those_listed : (es : List ListEntry) → take (entries_listed es).count (entries_listed es).entries ≡ es
unfolding entries_listed
those_listed es = take-append_seam es (replicate (5 - length es) no_entry)

record Gone (x : Indexed) (es : List ListEntry) : Type 0 where
  pub bounds : T (within_bounds_indexed x)
  pub entries : es ≡ entries_of x.field

gone : (x : Indexed) (es : List ListEntry) → list_of x ≡ entries_listed es → Gone x es
unfolding list_of entries_listed list_refused
gone x es e = go (decided (within_bounds_indexed x)) (decided (in_dialect x.field))
  where
    go : (within_bounds_indexed x ≡ true) ⊎ (within_bounds_indexed x ≡ false) → (in_dialect x.field ≡ true) ⊎ (in_dialect x.field ≡ false) → Gone x es
    go (inl a) (inl b) =
        let same : entries_listed (entries_of x.field) ≡ entries_listed es = sym (if_true _ _ a ∙ if_true _ _ b) ∙ e in
        record { bounds = pass a; entries = sym (those_listed es) ∙ ap (λ (l : Listing). take l.count l.entries) (sym same) ∙ those_listed (entries_of x.field) }
    go (inl a) (inr b) = absurd (let n : 29 ≡ 0 = ap (λ (l : Listing). l.number) (sym (if_true _ _ a ∙ if_false _ _ b) ∙ e) in omega arith)
    go (inr a) b = absurd (let n : 10 ≡ 0 = ap (λ (l : Listing). l.number) (sym (if_false _ _ a) ∙ e) in omega arith)

-- There and back, where both accept, gives the field again but for the parts that are set.
pub there_and_back : (x : Indexed) → T (has_places x.field) → (legs : FileLegs) (speed : ℕ) (bytes : List ℕ) → list_of x ≡ entries_listed (entries_in bytes) → (field_of_list legs speed bytes).number ≡ 0
    → (field_of_list legs speed bytes).after ≡ settled_indexed (legs_in_miles legs) speed x
unfolding within_bounds_indexed with_index settled_indexed
there_and_back x shaped legs speed bytes l n =
    let f = x.field in
    let miles = legs_in_miles legs in
    let a = accepted legs speed bytes n in
    let b = gone x (entries_in bytes) l in
    let agrees = same_index x.index (index_of f) in
    let w = and_l (within_bounds f) agrees b.bounds in
    let own = same_equal x.index (index_of f) (and_r (within_bounds f) agrees b.bounds) in
    let h = places_parts f shaped in
    let p = subst (λ (es : List ListEntry). T (placed_from 1 es)) b.entries a.placed in
    let u = subst (λ (es : List ListEntry). T (within_bounds (built miles speed es))) b.entries a.bounds in
    let index = index_again f h w miles speed p u ∙ sym own in
    let field = field_again f h w miles speed p u in
    a.after ∙ ap (λ (es : List ListEntry). with_index (built miles speed es)) b.entries ∙ (λ i. record { field = field i; index = index i })
