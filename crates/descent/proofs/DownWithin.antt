-- The one at 3000 of a side moved to 2000, on any field within the bounds where nobody is at 2000: the field is within the bounds still. Assumes
-- nothing.
use mathlib.Core.Path.{◌≡◌, refl, sym, ap, ◌∙◌, subst, fun_ext}
use mathlib.Core.Logic.{◌≢◌, inl, inr}
use mathlib.Core.Bool.{Bool, true, false, not, ◌&&◌, ◌||◌, true≢false}
use mathlib.Core.List.{List, [], ◌∷◌, ◌++◌, map}
use Prim.Native.Nat.{ℕ, ◌≤◌}
use native.Mathlib.Omega.{arith}
use borrow.Author.Tests.{eqb-true, eqb-false}
use lib.Dec.{T, eqb, leb, leb→le, le→leb}
use lib.Ieee.Fits.{and_i, and_l, and_r}
use lib.ListN.{length, get_or}
use Rattle.leg.specs.Ticks.{Between}
use Rattle.field.specs.declared.Aircraft.{Aircraft}
use Rattle.field.specs.declared.Field.{Field}
use Rattle.questions.specs.declared.Place.{Place}
use Rattle.field.specs.Airspace.{right, left, is_side, at3000, at2000, lateral, missed, final_approach_zone, runway, zones_from, operation, everywhere, nobody, zone_of, in_zone, order_of}
use Rattle.field.specs.Lists.{is_in, every, all_different}
use Rattle.edits.specs.Edits.{with_zone}
use Rattle.questions.specs.Counts.{how_many, is_empty, in_operation, in_area, per_fix}
use Rattle.questions.specs.Find.{place_of, aircraft_at, fix_of, is_first, numbers_in}
use Rattle.numbers.specs.Numbers.{numbers_differ, sequence_exact}
use Rattle.bounds.specs.Bounds.{bound_a, bound_b, lateral_rule, bound_c, bound_d, final_first, zone_kept, sequence_kept, bound_e, alternate, bound_f, within_bounds}
use Rattle.fits.specs.Fits.{fits_zone, legal_legs, bound_g}
use Rattle.order.specs.Model.{count}
use Rattle.field.proofs.ArrivalLaws.{into_arrived}
use Rattle.field.proofs.NumberLists.{every_listed, zone_listed}
use Rattle.field.proofs.TestLaws.{pass, decided, or_left, same}
use Rattle.questions.proofs.FindLaws.{numbers, found_there, absent_nowhere, nobody_nowhere, own_place}
use Rattle.laws.proofs.BoundLaws.{within_each, each_within, within_e}
use Rattle.laws.proofs.Fits.{arrived_fits}
use Rattle.laws.proofs.TickLaws.{every_then}
use Rattle.laws.proofs.SameQueues.{kept_head, kept_tail}
use Rattle.line.proofs.Members.{absent_count, count_absent, numbers_total}
use Rattle.moves.proofs.StaysOrderly.{different_of, nonzero_of}
use Rattle.descent.proofs.Down.{head_is, AloneAbove, down, lower, none_above, one_below, elsewhere, each_zone_down, sum_down}
use Rattle.descent.proofs.Down.{in_operation_lem, in_everywhere, operation_down, area_down, per_fix_down}

-- ---- lists with each number as often
module _ (xs ys : List ℕ) (e : (n : ℕ) → count xs n ≡ count ys n) where
  -- who is in one is in the other
  pub in_same : (n : ℕ) → is_in n xs ≡ is_in n ys
  in_same n =
      elim (decided (is_in n xs)) [
        | inl i ↦ i ∙ sym (elim (decided (is_in n ys)) [ inl j ↦ j | inr j ↦ absurd (true≢false (sym i ∙ absent_count xs n (e n ∙ count_absent ys n j))) ])
        | inr i ↦ i ∙ sym (absent_count ys n (sym (e n) ∙ count_absent xs n i))
      ]

-- a test of each listed number holds of each list of some of them
every_some : (p : ℕ → Bool) (xs ys : List ℕ) → ((n : ℕ) → is_in n xs ≡ true → is_in n ys ≡ true) → T (every p ys) → T (every p xs)
every_some p [] ys h t = tt
every_some p (x ∷ xs) ys h t =
    and_i (p x) (every p xs) (every_listed p ys x t (h x (ap (λ (b : Bool). b || is_in x xs) (same x))))
    (every_some p xs ys (λ n i. h n (ap (λ (b : Bool). eqb x n || b) i ∙ or_true (eqb x n))) t)
  where
    or_true : (c : Bool) → (c || true) ≡ true
    or_true true = refl
    or_true false = refl

-- the one with a number stands at a place of zone z, ..
pub record StandsAt (f : Field) (n z place : ℕ) : Type 0 where
  pub zone : Between 1 13 z
  pub first : 1 ≤ place
  pub last : place ≤ how_many f z
  pub has : (aircraft_at f z place).number ≡ n

-- .. and where numbers differ the fix of that one is the number's
pub fix_at : {f : Field} {n z place : ℕ} → T (all_different (numbers_in f everywhere)) → StandsAt f n z place → fix_of f n ≡ (aircraft_at f z place).fix
unfolding fix_of
fix_at {f} {n} {z} {place} d s = ap (λ (p : Place). (aircraft_at f p.zone p.place).fix) (ap (place_of f) (sym s.has) ∙ own_place f z place d s.zone s.first s.last)

module _ {f : Field} (t : T (within_bounds f)) {side : ℕ} (alone : AloneAbove f side) where
  abbrev w : ℕ
  w = at2000 side

  abbrev g : Field
  g = down alone

  -- a zone is one of the two, or neither
  record Other (z : ℕ) : Type 0 where
    not_above : z ≢ side
    not_below : z ≢ w

  zone_by : (P : ℕ → Type 0) → P side → P w → ((z : ℕ) → Other z → P z) → (z : ℕ) → P z
  zone_by P p q h z =
      elim (decided (eqb z side)) [
        | inl e ↦ subst P (sym (eqb-true z side e)) p
        | inr e ↦ elim (decided (eqb z w)) [ inl u ↦ subst P (sym (eqb-true z w u)) q | inr u ↦ h z (record { not_above = eqb-false z side e; not_below = eqb-false z w u }) ]
      ]

  queue_other : (z : ℕ) → Other z → in_zone g z ≡ in_zone f z
  queue_other z o = elsewhere alone z o.not_above o.not_below

  many_other : (z : ℕ) → Other z → how_many g z ≡ how_many f z
  unfolding how_many
  many_other z o = ap length (queue_other z o)

  at_other : (z place : ℕ) → Other z → aircraft_at g z place ≡ aircraft_at f z place
  unfolding aircraft_at
  at_other z place o = ap (λ (l : List Aircraft). get_or (nobody ∷ l) place nobody) (queue_other z o)

  -- past the holdings
  past : (z : ℕ) → 5 ≤ z → Other z
  past z h = record { not_above = λ e. let m = alone.between.most in omega arith; not_below = λ e. let m = alone.between.most in omega arith }

  -- ---- a, b and d
  a_down : T (bound_a g)
  unfolding bound_a
  a_down =
      subst T (sym (ap (λ (n : ℕ). leb n 4 && leb (how_many g runway) 1) (operation_down alone)
      ∙ ap (λ (n : ℕ). leb (in_operation f) 4 && leb n 1) (many_other runway (past runway (omega arith))))) (within_each f t).bound_a_is

  b_down : T (bound_b g)
  unfolding bound_b
  b_down =
      subst T (sym (ap (λ (n : ℕ). leb n 2 && leb (in_area g left) 2) (area_down alone right (record { least = omega arith; most = omega arith }))
      ∙ ap (λ (n : ℕ). leb (in_area f right) 2 && leb n 2) (area_down alone left (record { least = omega arith; most = omega arith }))))
      (within_each f t).bound_b_is

  d_down : T (bound_d g)
  unfolding bound_d
  d_down =
      subst T (sym (ap (λ (n : ℕ). leb n 2 && leb (per_fix g left) 2) (per_fix_down alone right)
      ∙ ap (λ (n : ℕ). leb (per_fix f right) 2 && leb n 2) (per_fix_down alone left)))
      (within_each f t).bound_d_is

  -- ---- c
  one_each : (z : ℕ) → T (leb (how_many f z) 1) → T (leb (how_many g z) 1)
  unfolding how_many
  one_each =
      zone_by (λ (z : ℕ). T (leb (how_many f z) 1) → T (leb (how_many g z) 1))
      (λ u. le→leb (how_many g side) 1 (let e = ap length (none_above alone) in omega arith))
      (λ u. le→leb (how_many g w) 1 (let e = ap length (one_below alone) in omega arith))
      (λ z o u. subst (λ (n : ℕ). T (leb n 1)) (sym (many_other z o)) u)

  -- 3000 is occupied, so that the lateral zone of the side is empty
  own_lateral : T (lateral_rule f side) → is_empty f (lateral side) ≡ true
  unfolding lateral_rule how_many
  own_lateral u =
      elim (decided (is_empty f (lateral side))) [
        | inl e ↦ e
        | inr e ↦
            let v = subst (λ (c : Bool). T (c || (is_empty f side && is_empty f w && is_empty f (missed side)))) e u in
            let n = and_l (is_empty f side) (is_empty f w) (and_l (is_empty f side && is_empty f w) (is_empty f (missed side)) v) in
            absurd (subst (λ (l : List Aircraft). T (eqb (length l) 0)) alone.here n)
      ]

  lateral_down : (s : ℕ) → Between 1 2 s → T (lateral_rule f s) → T (lateral_rule g s)
  unfolding lateral_rule
  lateral_down s h u =
      let m = h.most in
      let n = alone.between.most in
      elim (decided (eqb s side)) [
        | inl e ↦
            let q = eqb-true s side e in
            or_left (is_empty g (lateral s)) (is_empty g (at3000 s) && is_empty g (at2000 s) && is_empty g (missed s))
            (pass (ap (λ (c : ℕ). eqb c 0) (many_other (lateral s) (past (lateral s) (let l = h.least in omega arith)))
            ∙ ap (λ (y : ℕ). is_empty f (lateral y)) q ∙ own_lateral (subst (λ (y : ℕ). T (lateral_rule f y)) q u)))
        | inr e ↦
            let ne = eqb-false s side e in
            let l = h.least in
            let r = alone.between.least in
            let p1 = many_other (lateral s) (past (lateral s) (omega arith)) in
            let p2 = many_other (at3000 s) (record { not_above = ne; not_below = λ q. omega arith }) in
            let p3 = many_other (at2000 s) (record { not_above = λ q. omega arith; not_below = λ q. ne (omega arith) }) in
            let p4 = many_other (missed s) (past (missed s) (omega arith)) in
            subst T (sym (
            ap (λ (c : ℕ). eqb c 0 || (is_empty g (at3000 s) && is_empty g (at2000 s) && is_empty g (missed s))) p1
            ∙ ap (λ (c : ℕ). is_empty f (lateral s) || (eqb c 0 && is_empty g (at2000 s) && is_empty g (missed s))) p2
            ∙ ap (λ (c : ℕ). is_empty f (lateral s) || (is_empty f (at3000 s) && eqb c 0 && is_empty g (missed s))) p3
            ∙ ap (λ (c : ℕ). is_empty f (lateral s) || (is_empty f (at3000 s) && is_empty f (at2000 s) && eqb c 0)) p4)) u
      ]

  c_down : T (bound_c g)
  unfolding bound_c
  c_down =
      let ones : Field → Bool = λ h. every (λ z. leb (how_many h z) 1) (zones_from 1 6) in
      let c = (within_each f t).bound_c_is in
      let first = and_l (ones f && lateral_rule f right) (lateral_rule f left) c in
      and_i (ones g && lateral_rule g right) (lateral_rule g left)
      (and_i (ones g) (lateral_rule g right)
      (every_then (λ z. leb (how_many f z) 1) (λ z. leb (how_many g z) 1) (λ z. z) one_each (zones_from 1 6) (and_l (ones f) (lateral_rule f right) first))
      (lateral_down right (record { least = omega arith; most = omega arith }) (and_r (ones f) (lateral_rule f right) first)))
      (lateral_down left (record { least = omega arith; most = omega arith }) (and_r (ones f && lateral_rule f right) (lateral_rule f left) c))

  -- ---- e
  often : (n : ℕ) (zs : List ℕ) → T (all_different zs) → is_in w zs ≡ is_in side zs → count (numbers_in g zs) n ≡ count (numbers_in f zs) n
  often n zs d both =
      numbers_total g n zs
      ∙ sum_down alone (λ y l. count (numbers l) n) zs d both refl refl (ap (λ (m : ℕ). count (m ∷ []) n) (into_arrived f.legs w alone.x).number)
      ∙ sym (numbers_total f n zs)

  often_everywhere : (n : ℕ) → count (numbers_in g everywhere) n ≡ count (numbers_in f everywhere) n
  often_everywhere n = often n everywhere tt (in_everywhere alone)

  -- The same numbers are present.
  pub present_down : (n : ℕ) → is_in n (numbers_in g everywhere) ≡ is_in n (numbers_in f everywhere)
  present_down = in_same (numbers_in g everywhere) (numbers_in f everywhere) often_everywhere

  differ_down : T (numbers_differ g)
  unfolding numbers_differ
  differ_down =
      let nonzero : ℕ → Bool = λ n. not (eqb n 0) in
      let d = (within_e f t).differ in
      let le : (n : ℕ) → count (numbers_in g everywhere) n ≤ count (numbers_in f everywhere) n = λ n. let e = often_everywhere n in omega arith in
      and_i (every nonzero (numbers_in g everywhere)) (all_different (numbers_in g everywhere))
      (nonzero_of (numbers_in g everywhere) (numbers_in f everywhere) le (and_l (every nonzero (numbers_in f everywhere)) (all_different (numbers_in f everywhere)) d))
      (different_of (numbers_in g everywhere) (numbers_in f everywhere) le (and_r (every nonzero (numbers_in f everywhere)) (all_different (numbers_in f everywhere)) d))

  different : T (all_different (numbers_in g everywhere))
  unfolding numbers_differ
  different = and_r (every (λ n. not (eqb n 0)) (numbers_in g everywhere)) (all_different (numbers_in g everywhere)) differ_down

  exact_down : T (sequence_exact g)
  unfolding sequence_exact with_zone
  exact_down =
      let ns = order_of f.sequence in
      let l = numbers_in f operation in
      let m = numbers_in g operation in
      let alike = in_same m l (λ n. often n operation tt (in_operation_lem alone)) in
      let e = (within_e f t).exact in
      let one = all_different ns in
      let two = every (λ n. is_in n l) ns in
      let three = every (λ n. is_in n ns) l in
      and_i (one && every (λ n. is_in n m) ns) (every (λ n. is_in n ns) m)
      (and_i one (every (λ n. is_in n m) ns) (and_l one two (and_l (one && two) three e)) (subst (λ (p : ℕ → Bool). T (every p ns)) (sym (fun_ext alike)) (and_r one two (and_l (one && two) three e))))
      (every_some (λ n. is_in n ns) m l (λ n i. sym (alike n) ∙ i) (and_r (one && two) three e))

  first_down : T (final_first g)
  unfolding final_first with_zone
  first_down =
      let o = past final_approach_zone (omega arith) in
      subst T (sym (ap (λ (n : ℕ). eqb n 0 || is_first f.sequence (aircraft_at g final_approach_zone 1).number) (many_other final_approach_zone o)
      ∙ ap (λ (a : Aircraft). is_empty f final_approach_zone || is_first f.sequence a.number) (at_other final_approach_zone 1 o)))
      (within_e f t).first

  kept_down : (z : ℕ) → T (zone_kept (zone_of f z)) → T (zone_kept (zone_of g z))
  kept_down =
      each_zone_down alone (λ z q. T (zone_kept (zone_of f z)) → T (zone_kept q))
      (λ u. (kept_head (zone_of f side) (record { shaped = alone.shaped.zone side; kept = u })).kept)
      (λ u. (kept_tail (zone_of f w) (lower alone) (record { shaped = alone.shaped.zone w; kept = u })).kept)
      (λ z u. u)

  e_down : T (bound_e g)
  unfolding bound_e with_zone
  e_down =
      let p = within_e f t in
      let two = numbers_differ g && sequence_exact g in
      let three = two && final_first g in
      let kept = every (λ z. zone_kept (zone_of g z)) everywhere in
      and_i (three && kept) (sequence_kept g.sequence)
      (and_i three kept
      (and_i two (final_first g) (and_i (numbers_differ g) (sequence_exact g) differ_down exact_down) first_down)
      (every_then (λ z. zone_kept (zone_of f z)) (λ z. zone_kept (zone_of g z)) (λ z. z) kept_down everywhere p.zones_kept))
      p.sequence_kept_lem

  -- ---- f
  fix_found : (n : ℕ) → is_in n (numbers_in f everywhere) ≡ true → fix_of g n ≡ fix_of f n
  unfolding fix_of how_many
  fix_found n i =
      let p = found_there f n i in
      zone_by (λ (z : ℕ). (place : ℕ) → StandsAt f n z place → fix_of g n ≡ (aircraft_at f z place).fix)
      (λ place s.
      let one : place ≡ 1 = let m = ap length alone.here in let l = s.first in let h = s.last in omega arith in
      let was : alone.x ≡ aircraft_at f side place = sym (ap (aircraft_at f side) one ∙ head_is f side alone.x alone.here) in
      let found = head_is g w (lower alone) (one_below alone) in
      let into = into_arrived f.legs w alone.x in
      let there : StandsAt g n w 1 = record {
        zone = (let m = alone.between.most in record { least = omega arith; most = omega arith });
        first = omega arith;
        last = (let m = ap length (one_below alone) in omega arith);
        has = ap (λ (a : Aircraft). a.number) found ∙ into.number ∙ ap (λ (a : Aircraft). a.number) was ∙ s.has;
      } in
      fix_at different there ∙ ap (λ (a : Aircraft). a.fix) found ∙ into.fix ∙ ap (λ (a : Aircraft). a.fix) was)
      (λ place s. absurd (let m = ap length alone.below in let l = s.first in let h = s.last in omega arith))
      (λ z o place s.
      let there = at_other z place o in
      let last : place ≤ how_many g z = let m = many_other z o in let h = s.last in omega arith in
      fix_at different (record { zone = s.zone; first = s.first; last = last; has = ap (λ (a : Aircraft). a.number) there ∙ s.has }) ∙ ap (λ (a : Aircraft). a.fix) there)
      (place_of f n).zone (place_of f n).place (record { zone = zone_between (place_of f n).zone p.listed; first = p.first; last = p.last; has = p.has })
    where
      zone_between : (z : ℕ) → is_in z everywhere ≡ true → Between 1 13 z
      zone_between z e =
          let u = every_listed (λ (y : ℕ). leb 1 y && leb y 13) everywhere z tt e in
          record { least = leb→le 1 z (and_l (leb 1 z) (leb z 13) u); most = leb→le z 13 (and_r (leb 1 z) (leb z 13) u) }

  fix_down : (n : ℕ) → fix_of g n ≡ fix_of f n
  unfolding fix_of
  fix_down n =
      elim (decided (is_in n (numbers_in f everywhere))) [
        | inl i ↦ fix_found n i
        | inr i ↦
            ap (λ (p : Place). (aircraft_at g p.zone p.place).fix) (absent_nowhere g n (present_down n ∙ i))
            ∙ ap (λ (a : Aircraft). a.fix) (nobody_nowhere g 0 ∙ sym (nobody_nowhere f 0))
            ∙ sym (ap (λ (p : Place). (aircraft_at f p.zone p.place).fix) (absent_nowhere f n i))
      ]

  f_down : T (bound_f g)
  unfolding bound_f with_zone fix_of
  f_down = subst (λ (h : ℕ → ℕ). T (alternate (map h (order_of f.sequence) ++ (f.next ∷ [])))) (sym (fun_ext fix_down)) (within_each f t).bound_f_is

  -- ---- g
  fits_down : T (legal_legs f.legs) → T (every (fits_zone f.legs side) (in_zone f side)) → (z : ℕ) → T (every (fits_zone f.legs z) (in_zone f z)) → T (every (fits_zone f.legs z) (in_zone g z))
  fits_down legal v =
      let low = lower alone in
      zone_by (λ (z : ℕ). T (every (fits_zone f.legs z) (in_zone f z)) → T (every (fits_zone f.legs z) (in_zone g z)))
      (λ u. subst (λ (l : List Aircraft). T (every (fits_zone f.legs side) l)) (sym (none_above alone)) tt)
      (λ u.
      let fit = and_l (fits_zone f.legs side alone.x) true (subst (λ (l : List Aircraft). T (every (fits_zone f.legs side) l)) alone.here v) in
      subst (λ (l : List Aircraft). T (every (fits_zone f.legs w) l)) (sym (one_below alone))
      (and_i (fits_zone f.legs w low) true (arrived_fits f.legs legal side w alone.x fit) tt))
      (λ z o u. subst (λ (l : List Aircraft). T (every (fits_zone f.legs z) l)) (sym (queue_other z o)) u)

  g_down : T (bound_g g)
  unfolding bound_g with_zone
  g_down =
      let fit : Field → Bool = λ h. every (λ z. every (fits_zone f.legs z) (in_zone h z)) everywhere in
      let e = (within_each f t).bound_g_is in
      let legal = and_r (fit f && is_side f.next) (legal_legs f.legs) e in
      let rest = and_l (fit f && is_side f.next) (legal_legs f.legs) e in
      let fits = and_l (fit f) (is_side f.next) rest in
      let inside : Between 1 13 side = let m = alone.between.most in record { least = alone.between.least; most = omega arith } in
      let own = every_listed (λ z. every (fits_zone f.legs z) (in_zone f z)) everywhere side fits (zone_listed side inside) in
      and_i (fit g && is_side f.next) (legal_legs f.legs)
      (and_i (fit g) (is_side f.next)
      (every_then (λ z. every (fits_zone f.legs z) (in_zone f z)) (λ z. every (fits_zone f.legs z) (in_zone g z)) (λ z. z) (fits_down legal own) everywhere fits)
      (and_r (fit f) (is_side f.next) rest))
      legal

  -- All seven.
  pub within_down : T (within_bounds g)
  within_down = each_within g (record { bound_a_is = a_down; bound_b_is = b_down; bound_c_is = c_down; bound_d_is = d_down; bound_e_is = e_down; bound_f_is = f_down; bound_g_is = g_down })
