-- A field with its places, the bounds and the reason, whose places past the lengths are as an empty field's, is one that an orderly line stands for. Assumes nothing.
use mathlib.Core.Path.{◌≡◌, refl, sym, ap, ◌∙◌, subst}
use mathlib.Core.Logic.{inl, inr}
use mathlib.Core.Bool.{Bool, true, false, cond, ◌&&◌, ◌||◌}
use mathlib.Core.List.{List, [], ◌∷◌, ◌++◌, map}
use Prim.Native.Nat.{ℕ, ◌≤◌}
use native.Mathlib.Omega.{arith}
use lib.Dec.{T, leb, eqb, leb→le, le→leb, eqb→eq}
use lib.ListN.{length, drop, length-map}
use lib.Ieee.Fits.{and_i, and_l, and_r}
use borrow.Author.Tests.{ne_eqb}
use Rattle.request.specs.Input.{within}
use Rattle.field.specs.declared.Aircraft.{Aircraft}
use Rattle.field.specs.declared.Legs.{Legs}
use Rattle.field.specs.declared.Field.{Field}
use Rattle.field.specs.Airspace.{is_side, opposite, at3000, at2000, lateral, missed, zones_from, area, operation, everywhere, zone_of, in_zone, order_of}
use Rattle.field.specs.Lists.{is_in, every, all_different}
use Rattle.questions.specs.Counts.{total, how_many, in_operation, in_area, is_empty}
use Rattle.questions.specs.Find.{place_of, fix_of, numbers_in}
use Rattle.bounds.specs.Bounds.{bound_a, bound_b, lateral_rule, bound_c, final_first, zone_kept, sequence_kept, bound_e, alternate, bound_f}
use Rattle.fits.specs.Fits.{fits_zone, legal_legs, bound_g}
use Rattle.numbers.specs.Numbers.{numbers_differ, sequence_exact}
use Rattle.order.specs.Model.{Side, right_side, left_side, opp, num, next_fix, count, one, of_area, pass_count, chain, okay}
use Rattle.order.specs.Model as model
use Rattle.rules.specs.Reason.{Listed, sequence_listed, those, is_in_area, never_falls, each_among, from_landing, approach_order, height_in}
use Rattle.rules.specs.Reason.{area_order, has_room, room_to_miss, lateral_free, lateral_order, Reason, has_places, Sound}
use Rattle.field.proofs.NumberLists.{every_listed}
use Rattle.laws.proofs.BoundLaws.{Within, within_each}
use Rattle.field.proofs.TestLaws.{each_operation, passed, pass, decided}
use Rattle.laws.proofs.Fits.{fits_parts}
use Rattle.line.proofs.Line.{sequence_for, zone_for, Placed, zones_in, numbers_of, inside, field_of}
use Rattle.line.proofs.CountedOnLine.{length_inside, Alternates, total_same, total_add, lower, side_area, in_everywhere}
use Rattle.questions.proofs.FindLaws.{numbers}
use Rattle.line.proofs.Leaders.{nonzero}
use Rattle.line.proofs.Members.{numbers_total, count_append, count_absent, different_count, count_different, nonzero_count, count_nonzero}
use Rattle.line.proofs.Orderly.{Orderly, opposite_num}
use Rattle.reason.proofs.AlongLine.{as_listed, room_same}
use Rattle.reason.proofs.LineOfField.{sequence_is, looked_up, landing_line, found_one, line_all, line_numbers, line_seen, queue_is, stands_for}
use Rattle.reason.proofs.FromReason.{count_in, Facts, chain_from}

-- ---- sides
side_known : (n : ℕ) → T (is_side n) → (s : Side) × (n ≡ num s)
unfolding is_side
side_known n t = elim (decided (eqb n 1)) [
  | inl e ↦ (right_side, eqb→eq n 1 (pass e))
  | inr e ↦ (left_side, eqb→eq n 2 (subst (λ (b : Bool). T (b || eqb n 2)) e t))
]

-- the aircraft of an area, one by one, are those of its four zones
area_total : (s : Side) (zs : List ℕ) → T (every (within 1 12) zs) → pass_count (of_area s) zs ≡ total (count zs) (area (num s))
area_total s [] t = refl
area_total s (z ∷ zs) t =
    let a = one_zone s z (and_l (within 1 12 z) (every (within 1 12) zs) t) in
    let b = area_total s zs (and_r (within 1 12 z) (every (within 1 12) zs) t) in
    let c = total_add (λ w. cond (eqb z w) 1 0) (count zs) (area (num s)) in
    omega arith
  where
    one_zone : (s : Side) (z : ℕ) → T (within 1 12 z) → one (of_area s z) ≡ total (λ w. cond (eqb z w) 1 0) (area (num s))
    one_zone right_side = each_operation (λ z. one (of_area right_side z) ≡ total (λ w. cond (eqb z w) 1 0) (area 1)) (refl, refl, refl, refl, refl, refl, refl, refl, refl, refl, refl, refl)
    one_zone left_side = each_operation (λ z. one (of_area left_side z) ≡ total (λ w. cond (eqb z w) 1 0) (area 2)) (refl, refl, refl, refl, refl, refl, refl, refl, refl, refl, refl, refl)

-- ---- fixes that alternate, from the first on
abbrev fixes_then : Field → List ℕ → List ℕ
fixes_then f ns = map (fix_of f) ns ++ (f.next ∷ [])

abbrev head_of : List ℕ → ℕ
head_of [] = 0
head_of (n ∷ ns) = n

alternates_back : (f : Field) (s : Side) (ns : List ℕ) → T (alternate (fixes_then f ns)) → head_of (fixes_then f ns) ≡ num s
    → Alternates s (map (looked_up f) ns) × (f.next ≡ num (next_fix s (zones_in (map (looked_up f) ns))))
unfolding fix_of
alternates_back f s [] t e = (tt, e)
alternates_back f s (n ∷ []) t e =
    ((e, tt), eqb→eq f.next (opposite (fix_of f n)) (and_l (eqb f.next (opposite (fix_of f n))) true t) ∙ ap opposite e ∙ opposite_num s)
alternates_back f s (n ∷ m ∷ ns) t e =
    let next = eqb (fix_of f m) (opposite (fix_of f n)) in
    let later = alternate (fixes_then f (m ∷ ns)) in
    let r = alternates_back f (opp s) (m ∷ ns) (and_r next later t) (eqb→eq (fix_of f m) (opposite (fix_of f n)) (and_l next later t) ∙ ap opposite e ∙ opposite_num s) in
    ((e, r.0), r.1)

-- bounds e and g, part by part
pub record Parts (f : Field) : Type 0 where
  pub nonzeros : T (every nonzero (numbers_in f everywhere))
  pub different : T (all_different (numbers_in f everywhere))
  pub sequence_different : T (all_different (order_of f.sequence))
  pub named : T (every (λ n. is_in n (numbers_in f operation)) (order_of f.sequence))
  pub kept : T (every (λ z. zone_kept (zone_of f z)) everywhere)
  pub sequence_kept_lem : T (sequence_kept f.sequence)
  pub fit : T (every (λ z. every (fits_zone f.legs z) (in_zone f z)) everywhere)
  pub next_side : T (is_side f.next)
  pub legal : T (legal_legs f.legs)

pub parts : (f : Field) → Within f → Parts f
unfolding bound_e bound_g numbers_differ sequence_exact
parts f s =
    let ns = order_of f.sequence in
    let zs = every (λ z. zone_kept (zone_of f z)) everywhere in
    let nd = numbers_differ f in
    let se = sequence_exact f in
    let e₁ = and_l (nd && se && final_first f && zs) (sequence_kept f.sequence) s.bound_e_is in
    let e₂ = and_l (nd && se) (final_first f) (and_l (nd && se && final_first f) zs e₁) in
    let nz = every nonzero (numbers_in f everywhere) in
    let ad = all_different (numbers_in f everywhere) in
    let sd = all_different ns in
    let sn = every (λ n. is_in n (numbers_in f operation)) ns in
    let so = every (λ n. is_in n ns) (numbers_in f operation) in
    let fz = every (λ z. every (fits_zone f.legs z) (in_zone f z)) everywhere in
    let g₁ = and_l (fz && is_side f.next) (legal_legs f.legs) s.bound_g_is in
    record {
      nonzeros = and_l nz ad (and_l nd se e₂);
      different = and_r nz ad (and_l nd se e₂);
      sequence_different = and_l sd sn (and_l (sd && sn) so (and_r nd se e₂));
      named = and_r sd sn (and_l (sd && sn) so (and_r nd se e₂));
      kept = and_r (nd && se && final_first f) zs e₁;
      sequence_kept_lem = and_r (nd && se && final_first f && zs) (sequence_kept f.sequence) s.bound_e_is;
      fit = and_l fz (is_side f.next) g₁;
      next_side = and_r fz (is_side f.next) g₁;
      legal = and_r (fz && is_side f.next) (legal_legs f.legs) s.bound_g_is;
    }

-- how long a field's arrays are
pub record Places (f : Field) : Type 0 where
  pub thirteen : length f.zones ≡ 13
  pub four : (z : ℕ) → T (within 1 13 z) → length (zone_of f z).aircraft ≡ 4
  pub numbers : length f.sequence.numbers ≡ 4

pub places_parts : (f : Field) → T (has_places f) → Places f
unfolding has_places
places_parts f h =
    let z = eqb (length f.zones) 13 in
    let a = every (λ z. eqb (length (zone_of f z).aircraft) 4) everywhere in
    let n = eqb (length f.sequence.numbers) 4 in
    record {
      thirteen = eqb→eq (length f.zones) 13 (and_l z a (and_l (z && a) n h));
      four =
          λ z t. eqb→eq (length (zone_of f z).aircraft) 4 (every_listed (λ z. eqb (length (zone_of f z).aircraft) 4) everywhere z
          (and_r (eqb (length f.zones) 13) a (and_l (eqb (length f.zones) 13 && a) n h)) (in_everywhere z t));
      numbers = eqb→eq (length f.sequence.numbers) 4 (and_r (z && a) n h);
    }

-- a field that an orderly line stands for
pub record OrderlyField (f : Field) : Type 0 where
  pub first : Side
  pub line : List Placed
  pub runway : List Aircraft
  pub legs : Legs
  pub is : f ≡ field_of first line runway legs
  pub orderly : Orderly first line runway legs

module _ (f : Field) (h : Places f) (s : Within f) (p : Parts f) (c : Reason f) (zones_kept : (z : ℕ) → T (within 1 13 z) → zone_of f z ≡ zone_for (in_zone f z)) where
  abbrev ns : List ℕ
  ns = order_of f.sequence

  abbrev line : List Placed
  line = landing_line f

  queues : (z : ℕ) → T (within 1 12 z) → in_zone f z ≡ inside z line
  queues z t = queue_is f p.different z t (c.queues_agree z t)

  counts : (z : ℕ) → T (within 1 12 z) → how_many f z ≡ count (zones_in line) z
  unfolding how_many
  counts z t = ap length (queues z t) ∙ length_inside z line

  order_kept : f.sequence ≡ sequence_for ns
  order_kept = sequence_is f.sequence h.numbers p.sequence_kept_lem

  order_numbers : numbers_of line ≡ ns
  order_numbers = line_numbers f ns p.named

  four_in_order : length ns ≤ 4
  unfolding sequence_kept
  four_in_order =
      let e : f.sequence.length ≡ length ns = λ i. (order_kept i).length in
      let l = leb→le f.sequence.length 4 (and_l (leb f.sequence.length 4) (every (λ n. eqb n 0) (drop f.sequence.length f.sequence.numbers)) p.sequence_kept_lem) in
      omega arith

  -- ---- each of the line fits its zone
  fits_one : (n : ℕ) → T (is_in n (numbers_in f operation)) → T (fits_zone f.legs (place_of f n).zone (looked_up f n).aircraft)
  fits_one n t =
      let o = found_one f n t in
      o.has (fits_zone f.legs (place_of f n).zone) (every_listed (λ z. every (fits_zone f.legs z) (in_zone f z)) everywhere (place_of f n).zone p.fit (wider (place_of f n).zone o.zone_in))
    where
      wider : (z : ℕ) → is_in z operation ≡ true → is_in z everywhere ≡ true
      wider z i = in_everywhere z (lower z (every_listed (within 1 12) operation z tt i))

  fix_side : (n : ℕ) → T (is_in n (numbers_in f operation)) → T (is_side (fix_of f n))
  unfolding fix_of
  fix_side n t = (fits_parts f.legs (place_of f n).zone (looked_up f n).aircraft (fits_one n t)).side

  zones_in_lem : (ms : List ℕ) → T (every (λ n. is_in n (numbers_in f operation)) ms) → T (every (within 1 12) (zones_in (map (looked_up f) ms)))
  zones_in_lem [] t = tt
  zones_in_lem (n ∷ ms) t =
      let here = is_in n (numbers_in f operation) in
      let later = every (λ n. is_in n (numbers_in f operation)) ms in
      and_i (within 1 12 (place_of f n).zone) (every (within 1 12) (zones_in (map (looked_up f) ms)))
      (every_listed (within 1 12) operation (place_of f n).zone tt (found_one f n (and_l here later t)).zone_in) (zones_in_lem ms (and_r here later t))

  -- ---- the first fix
  first_fix_lem : (ms : List ℕ) → T (every (λ n. is_in n (numbers_in f operation)) ms) → T (is_side (head_of (fixes_then f ms)))
  first_fix_lem [] t = p.next_side
  first_fix_lem (n ∷ ms) t = fix_side n (and_l (is_in n (numbers_in f operation)) (every (λ n. is_in n (numbers_in f operation)) ms) t)

  first_known : (d : Side) × (head_of (fixes_then f ns) ≡ num d)
  first_known = side_known (head_of (fixes_then f ns)) (first_fix_lem ns p.named)

  abbrev first_side : Side
  first_side = first_known.0

  turns : Alternates first_side line × (f.next ≡ num (next_fix first_side (zones_in line)))
  unfolding bound_f
  turns = alternates_back f first_side ns s.bound_f_is first_known.1

  is_line : f ≡ field_of first_side line (in_zone f 13) f.legs
  is_line = stands_for f first_side h.thirteen zones_kept queues (order_kept ∙ ap sequence_for (sym order_numbers)) turns.1

  -- ---- the numbers of the line and the runway
  fewer : (n : ℕ) → count (ns ++ numbers (in_zone f 13)) n ≤ count (numbers_in f everywhere) n
  fewer n =
      let a = count_append ns (numbers (in_zone f 13)) n in
      let b = numbers_total f n everywhere in
      let d = numbers_total f n operation in
      let once = count_different ns p.sequence_different n in
      elim (decided (is_in n ns)) [
        | inl i ↦
            let there : is_in n (numbers_in f operation) ≡ true = passed (every_listed (λ n. is_in n (numbers_in f operation)) ns n p.named i) in
            let o = count_in (numbers_in f operation) n there in
            omega arith
        | inr i ↦ let o = count_absent ns n i in omega arith
      ]

  -- ---- counts within the bounds
  singles : (z : ℕ) → T (within 1 6 z) → count (zones_in line) z ≤ 1
  unfolding bound_c
  singles z t =
      let q = every (λ z. leb (how_many f z) 1) (zones_from 1 6) in
      let l = leb→le 1 z (and_l (leb 1 z) (leb z 6) t) in
      let u = leb→le z 6 (and_r (leb 1 z) (leb z 6) t) in
      let v : T (within 1 12 z) = and_i (leb 1 z) (leb z 12) (and_l (leb 1 z) (leb z 6) t) (le→leb z 12 (omega arith)) in
      let k =
      leb→le (how_many f z) 1 (every_listed (λ z. leb (how_many f z) 1) (zones_from 1 6) z
      (and_l q (lateral_rule f 1) (and_l (q && lateral_rule f 1) (lateral_rule f 2) s.bound_c_is)) (low_six z v (and_r (leb 1 z) (leb z 6) t))) in
      let e = counts z v in
      omega arith
    where
      low_six : (z : ℕ) → T (within 1 12 z) → T (leb z 6) → is_in z (zones_from 1 6) ≡ true
      low_six =
          each_operation (λ z. T (leb z 6) → is_in z (zones_from 1 6) ≡ true)
          ((λ t. refl), (λ t. refl), (λ t. refl), (λ t. refl), (λ t. refl), (λ t. refl), (λ t. absurd t), (λ t. absurd t), (λ t. absurd t), (λ t. absurd t), (λ t. absurd t), (λ t. absurd t))

  ins : T (every (within 1 12) (zones_in line))
  ins = zones_in_lem ns p.named

  area_of : (d : Side) → pass_count (of_area d) (zones_in line) ≡ in_area f (num d)
  unfolding in_area
  area_of d = area_total d (zones_in line) ins ∙ sym (total_same (how_many f) (count (zones_in line)) (area (num d)) (side_area d) counts)

  crowd : (d : Side) → pass_count (of_area d) (zones_in line) ≤ 2
  unfolding bound_b
  crowd d = let e = area_of d in let k = two d in omega arith
    where
      two : (d : Side) → in_area f (num d) ≤ 2
      two right_side = leb→le (in_area f 1) 2 (and_l (leb (in_area f 1) 2) (leb (in_area f 2) 2) s.bound_b_is)
      two left_side = leb→le (in_area f 2) 2 (and_r (leb (in_area f 1) 2) (leb (in_area f 2) 2) s.bound_b_is)

  -- with an occupied lateral zone the area has nobody else
  alone_of : (d : Side) → T (lateral_rule f (num d)) → T (within 1 12 (lateral (num d))) → T (within 1 6 (lateral (num d))) → 1 ≤ count (zones_in line) (lateral (num d))
      → pass_count (of_area d) (zones_in line) ≤ 1
  unfolding in_area lateral_rule
  alone_of d t u v k =
      let m = how_many f (lateral (num d)) in
      let e = counts (lateral (num d)) u in
      let o = singles (lateral (num d)) v in
      let n : eqb m 0 ≡ false = ne_eqb m 0 (λ z. omega arith) in
      let h3 = is_empty f (at3000 (num d)) in
      let h2 = is_empty f (at2000 (num d)) in
      let hm = is_empty f (missed (num d)) in
      let r = subst (λ (b : Bool). T (b || (h3 && h2 && hm))) n t in
      let z3 = eqb→eq (how_many f (at3000 (num d))) 0 (and_l h3 h2 (and_l (h3 && h2) hm r)) in
      let z2 = eqb→eq (how_many f (at2000 (num d))) 0 (and_r h3 h2 (and_l (h3 && h2) hm r)) in
      let zm = eqb→eq (how_many f (missed (num d))) 0 (and_r (h3 && h2) hm r) in
      let w = area_of d in
      omega arith

  alone : (d : Side) → 1 ≤ count (zones_in line) (lateral (num d)) → pass_count (of_area d) (zones_in line) ≤ 1
  unfolding bound_c
  alone right_side = alone_of right_side (let q = every (λ z. leb (how_many f z) 1) (zones_from 1 6) in and_r q (lateral_rule f 1) (and_l (q && lateral_rule f 1) (lateral_rule f 2) s.bound_c_is)) tt tt
  alone left_side = alone_of left_side (let q = every (λ z. leb (how_many f z) 1) (zones_from 1 6) in and_r (q && lateral_rule f 1) (lateral_rule f 2) s.bound_c_is) tt tt

  -- ---- the reason, of the line
  seen_line : sequence_listed f ≡ map as_listed line
  unfolding sequence_listed
  seen_line = line_seen f ns p.named

  facts : Facts first_side [] line
  unfolding approach_order area_order lateral_order
  facts =
      record {
        approach = subst (λ (l : List Listed). T (never_falls (map (λ (a : Listed). from_landing a.zone) l))) seen_line c.approach_order_is;
        areas = λ d. subst (λ (l : List Listed). T (never_falls (map (λ (a : Listed). height_in (num d) a.zone) (those (is_in_area (num d)) l)))) seen_line (of_side d);
        laterals = subst (λ (l : List Listed). T (each_among lateral_free [] l)) seen_line c.lateral_entry_is;
        alternates = turns.0;
        ins = ins;
        singles = singles;
        crowd = crowd;
        lateral_alone = alone;
      }
    where
      of_side : (d : Side) → T (area_order f (num d))
      of_side right_side = and_l (area_order f 1) (area_order f 2) c.area_order_is
      of_side left_side = and_r (area_order f 1) (area_order f 2) c.area_order_is

  okay_is : T (okay first_side (zones_in line))
  unfolding okay room_to_miss
  okay_is =
      let zs = zones_in line in
      let len : length zs ≤ 4 = let e = length-map line (λ (e : Placed). e.zone) in let e₂ = length-map ns (looked_up f) in let k = four_in_order in omega arith in
      and_i (leb (length zs) 4 && chain first_side zs) (model.room_in_order 0 first_side zs)
      (and_i (leb (length zs) 4) (chain first_side zs) (le→leb (length zs) 4 len) (chain_from first_side [] line facts))
      (subst T (ap (each_among has_room []) seen_line ∙ room_same 0 first_side [] line refl refl turns.0 ins) c.room_to_miss_is)

  is_orderly : Orderly first_side line (in_zone f 13) f.legs
  unfolding bound_a how_many
  is_orderly =
      let rw = numbers (in_zone f 13) in
      let same_numbers : ns ++ rw ≡ numbers_of line ++ rw = ap (λ (l : List ℕ). l ++ rw) (sym order_numbers) in
      record {
        okay_line = okay_is;
        alternates = turns.0;
        nonzeros = subst (λ (l : List ℕ). T (every nonzero l)) same_numbers (nonzero_count (ns ++ rw) (let a = fewer 0 in let b = count_nonzero (numbers_in f everywhere) p.nonzeros in omega arith));
        different =
            subst (λ (l : List ℕ). T (all_different l)) same_numbers
            (different_count (ns ++ rw) (λ n. let a = fewer n in let b = count_different (numbers_in f everywhere) p.different n in omega arith));
        fit_line = line_all f (λ (e : Placed). fits_zone f.legs e.zone e.aircraft) fits_one ns p.named;
        fit_runway = every_listed (λ z. every (fits_zone f.legs z) (in_zone f z)) everywhere 13 p.fit refl;
        one_landed = leb→le (length (in_zone f 13)) 1 (and_r (leb (in_operation f) 4) (leb (how_many f 13) 1) s.bound_a_is);
        legal = p.legal;
      }

-- any field with all its places, within the bounds and with the reason, whose places past the lengths are as those of an empty field, is one that an orderly line stands for
pub reason_orderly : (f : Field) → Sound f → ((z : ℕ) → T (within 1 13 z) → zone_of f z ≡ zone_for (in_zone f z)) → OrderlyField f
reason_orderly f k e =
    let h = places_parts f k.places in
    let c = k.reason in
    let s = within_each f k.bounds in
    let p = parts f s in
    record { first = (first_known f h s p c e).0; line = landing_line f; runway = in_zone f 13; legs = f.legs; is = is_line f h s p c e; orderly = is_orderly f h s p c e }
