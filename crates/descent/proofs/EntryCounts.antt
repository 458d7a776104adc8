-- An entry to an empty 3000 of a side on any field within the bounds, with three in the operation area at the most, one of them in the side's area and none in its
-- lateral zone: what it does to every queue and every count, and bounds a to d. Assumes nothing.
use mathlib.Core.Path.{◌≡◌, refl, sym, ap, ◌∙◌, subst, fun_ext}
use mathlib.Core.Logic.{◌≢◌, inl, inr}
use mathlib.Core.Bool.{Bool, true, false, cond, ◌&&◌, ◌||◌}
use mathlib.Core.List.{List, [], ◌∷◌, ◌++◌}
use Prim.Native.Nat.{ℕ, ◌+◌, ◌≤◌, ◌<◌}
use native.Mathlib.Omega.{arith}
use borrow.Author.Tests.{eqb-true, eqb-false, ne_eqb}
use lib.Dec.{T, eqb, leb, leb→le, le→leb}
use lib.Ieee.Fits.{and_i, and_l, and_r}
use lib.ListN.{length}
use Rattle.leg.specs.Ticks.{Between}
use Rattle.request.specs.declared.Request.{Request}
use Rattle.request.proofs.ByKind.{EntryKnown}
use Rattle.field.specs.declared.Aircraft.{Aircraft}
use Rattle.field.specs.declared.Zone.{Zone}
use Rattle.field.specs.declared.Sequence.{Sequence}
use Rattle.field.specs.declared.Field.{Field}
use Rattle.field.specs.Airspace.{right, left, is_side, opposite, at3000, at2000, lateral, missed, runway, zones_from, area, operation, everywhere}
use Rattle.field.specs.Airspace.{zone_of, in_zone, order_of, entering}
use Rattle.field.specs.Lists.{is_in, every, all_different}
use Rattle.edits.specs.Edits.{with_tail, appended, with_zone, with_sequence}
use Rattle.questions.specs.Counts.{total, have_fix, how_many, how_many_with_fix, is_empty, in_operation, in_area, per_fix}
use Rattle.questions.specs.Find.{fix_of, numbers_in}
use Rattle.bounds.specs.Bounds.{bound_a, bound_b, lateral_rule, bound_c, bound_d, bound_f, within_bounds}
use Rattle.fits.specs.Fits.{fits_zone, legal_legs, bound_g}
use Rattle.rules.specs.Kinds.{tail_put, fix_taken, entered}
use Rattle.order.specs.Model.{count}
use Rattle.field.proofs.NumberLists.{area_different}
use Rattle.field.proofs.Shapes.{one_of_two}
use Rattle.field.proofs.TestLaws.{pass, decided, or_left, if_false, same}
use Rattle.laws.proofs.EditLaws.{Shaped, queue_replaced, queue_kept, queue_put}
use Rattle.laws.proofs.CountLaws.{sum_with}
use Rattle.laws.proofs.BoundLaws.{within_each}
use Rattle.laws.proofs.TickLaws.{every_then}
use Rattle.descent.proofs.BySequence.{order_few, fixes_few, next_once}

-- ---- who may enter at 3000
pub record MayEnter (f : Field) (r : Request) : Type 0 where
  pub shaped : Shaped f
  pub bounds : T (within_bounds f)
  pub known : EntryKnown r
  pub absent : is_in r.number (numbers_in f everywhere) ≡ false
  pub above : in_zone f (at3000 r.side) ≡ []
  pub beside : is_empty f (lateral r.side) ≡ true
  pub somebody : length (order_of f.sequence) ≢ 0
  pub three : in_operation f ≤ 3
  pub one : in_area f r.side ≤ 1

-- the one that enters, with the next fix
abbrev pub newcomer : Field → Request → Aircraft
newcomer f r = entering r.number f.next r.amount r.desk

-- its zone with it
abbrev pub zone_with : Field → Request → Zone
zone_with f r = with_tail (zone_of f r.side) (newcomer f r)

-- the sequence with it
abbrev pub sequence_with : Field → Request → Sequence
sequence_with f r = appended f.sequence r.number

-- the field with it
abbrev pub field_with : Field → Request → Field
field_with f r = with_sequence (with_zone f r.side (zone_with f r)) (sequence_with f r) (opposite f.next)

module _ {f : Field} {r : Request} (m : MayEnter f r) where
  abbrev z : ℕ
  z = r.side

  abbrev n : ℕ
  n = r.number

  abbrev next : ℕ
  next = f.next

  abbrev order : List ℕ
  order = order_of f.sequence

  abbrev a : Aircraft
  a = newcomer f r

  abbrev q : Zone
  q = zone_with f r

  abbrev g : Field
  g = field_with f r

  pub is_entered : entered f r (at3000 z) ≡ g
  unfolding entered fix_taken tail_put
  is_entered =
      ap (λ (fix : ℕ). with_sequence (with_zone f z (with_tail (zone_of f z) (entering n fix r.amount r.desk))) (sequence_with f r) (opposite fix))
      (if_false z next (ne_eqb (length order) 0 m.somebody))

  pub by_side : (P : ℕ → Type 0) → P 1 → P 2 → P z
  by_side P p q = one_of_two P 1 z m.known.side_low (let h = m.known.side_high in omega (arith, h)) p q

  pub zone : Between 1 13 z
  zone = let h = m.known.side_high in record { least = m.known.side_low; most = omega (arith, h) }

  -- ---- every queue
  same_queue : (y : ℕ) → in_zone g y ≡ in_zone (with_zone f z q) y
  unfolding in_zone zone_of with_sequence
  same_queue y = refl

  room : how_many f z < 4
  unfolding how_many
  room = let e = ap length m.above in omega (arith, e)

  pub here : in_zone g z ≡ a ∷ []
  here = same_queue z ∙ queue_put f m.shaped z a zone room ∙ ap (λ (l : List Aircraft). l ++ (a ∷ [])) m.above

  pub elsewhere : (y : ℕ) → y ≢ z → in_zone g y ≡ in_zone f y
  elsewhere y h = same_queue y ∙ queue_kept f z q y h

  many : (y : ℕ) → y ≢ z → how_many g y ≡ how_many f y
  unfolding how_many
  many y h = ap length (elsewhere y h)

  pub past : (y : ℕ) → 3 ≤ y → y ≢ z
  past y l e = let h = m.known.side_high in omega (arith, l, h, e)

  -- a count over zones has the one more where it counts its zone
  pub sum_more : (count : ℕ → List Aircraft → ℕ) (zs : List ℕ) → T (all_different zs) → count z [] ≡ 0
      → total (λ y. count y (in_zone g y)) zs ≡ total (λ y. count y (in_zone f y)) zs + cond (is_in z zs) (count z (a ∷ [])) 0
  sum_more count zs d none =
      let t = sum_with f z q zone m.shaped.zones count zs d in
      let e = ap (λ (h : ℕ → List Aircraft). total (λ y. count y (h y)) zs) (fun_ext same_queue) in
      let before = ap (λ (l : List Aircraft). cond (is_in z zs) (count z l) 0) m.above ∙ ap (λ (k : ℕ). cond (is_in z zs) k 0) none ∙ nothing (is_in z zs) in
      let now = ap (λ (l : List Aircraft). cond (is_in z zs) (count z l) 0) (sym (queue_replaced f z q zone m.shaped.zones) ∙ sym (same_queue z) ∙ here) in
      omega (arith, t, e, before, now)
    where
      nothing : (b : Bool) → cond {A = ℕ} b 0 0 ≡ 0
      nothing true = refl
      nothing false = refl

  pub in_operation_lem : is_in z operation ≡ true
  in_operation_lem = by_side (λ (s : ℕ). is_in s operation ≡ true) refl refl

  pub in_everywhere : is_in z everywhere ≡ true
  in_everywhere = by_side (λ (s : ℕ). is_in s everywhere ≡ true) refl refl

  -- ---- a and b
  pub a_more : T (bound_a g)
  unfolding bound_a in_operation how_many
  a_more =
      let w = (within_each f m.bounds).bound_a_is in
      let e = sum_more (λ y. length) operation tt refl in
      let one = ap (λ (b : Bool). cond {A = ℕ} b 1 0) in_operation_lem in
      let three = m.three in
      and_i (leb (in_operation g) 4) (leb (how_many g runway) 1) (le→leb (in_operation g) 4 (omega (arith, e, one, three)))
      (subst (λ (k : ℕ). T (leb k 1)) (sym (many runway (past runway (omega arith)))) (and_r (leb (in_operation f) 4) (leb (how_many f runway) 1) w))

  area_few : (side : ℕ) → Between 1 2 side → in_area f side ≤ 2 → in_area g side ≤ 2
  unfolding in_area how_many
  area_few side b two =
      let e = sum_more (λ y. length) (area side) (area_different side) refl in
      elim (decided (eqb z side)) [
        | inl u ↦
            let same = eqb-true z side u in
            let one : in_area f side ≤ 1 = subst (λ (x : ℕ). in_area f x ≤ 1) same m.one in
            let most = at_most (is_in z (area side)) in
            omega (arith, e, one, most)
        | inr u ↦
            let other = ap (λ (b : Bool). cond {A = ℕ} b 1 0) (away side b (eqb-false z side u)) in
            omega (arith, e, other, two)
      ]
    where
      at_most : (b : Bool) → cond {A = ℕ} b 1 0 ≤ 1
      at_most true = omega arith
      at_most false = omega arith

      away : (side : ℕ) → Between 1 2 side → z ≢ side → is_in z (area side) ≡ false
      away side b =
          by_side (λ (x : ℕ). x ≢ side → is_in x (area side) ≡ false)
          (one_of_two (λ (s : ℕ). 1 ≢ s → is_in 1 (area s) ≡ false) 1 side b.least (let h = b.most in omega (arith, h)) (λ d. absurd (d refl)) (λ d. refl))
          (one_of_two (λ (s : ℕ). 2 ≢ s → is_in 2 (area s) ≡ false) 1 side b.least (let h = b.most in omega (arith, h)) (λ d. refl) (λ d. absurd (d refl)))

  pub b_more : T (bound_b g)
  unfolding bound_b
  b_more =
      let w = (within_each f m.bounds).bound_b_is in
      let first = leb→le (in_area f right) 2 (and_l (leb (in_area f right) 2) (leb (in_area f left) 2) w) in
      let second = leb→le (in_area f left) 2 (and_r (leb (in_area f right) 2) (leb (in_area f left) 2) w) in
      and_i (leb (in_area g right) 2) (leb (in_area g left) 2)
      (le→leb (in_area g right) 2 (area_few right (record { least = omega arith; most = omega arith }) first))
      (le→leb (in_area g left) 2 (area_few left (record { least = omega arith; most = omega arith }) second))

  -- ---- c
  one_each : (y : ℕ) → T (leb (how_many f y) 1) → T (leb (how_many g y) 1)
  unfolding how_many
  one_each y u = elim (decided (eqb y z)) [
    | inl e ↦ (let k = ap (λ (x : ℕ). length (in_zone g x)) (eqb-true y z e) ∙ ap length here in le→leb (how_many g y) 1 (omega (arith, k)))
    | inr e ↦ subst (λ (k : ℕ). T (leb k 1)) (sym (many y (eqb-false y z e))) u
  ]

  lateral_more : (side : ℕ) → Between 1 2 side → T (lateral_rule f side) → T (lateral_rule g side)
  unfolding lateral_rule
  lateral_more side b u =
      let l = b.least in
      let p1 = many (lateral side) (past (lateral side) (omega (arith, l))) in
      elim (decided (eqb side z)) [
        | inl e ↦
            or_left (is_empty g (lateral side)) (is_empty g (at3000 side) && is_empty g (at2000 side) && is_empty g (missed side))
            (pass (ap (λ (c : ℕ). eqb c 0) p1 ∙ ap (λ (y : ℕ). is_empty f (lateral y)) (eqb-true side z e) ∙ m.beside))
        | inr e ↦
            let p2 = many (at3000 side) (eqb-false side z e) in
            let p3 = many (at2000 side) (past (at2000 side) (omega (arith, l))) in
            let p4 = many (missed side) (past (missed side) (omega (arith, l))) in
            subst T (sym (
            ap (λ (c : ℕ). eqb c 0 || (is_empty g (at3000 side) && is_empty g (at2000 side) && is_empty g (missed side))) p1
            ∙ ap (λ (c : ℕ). is_empty f (lateral side) || (eqb c 0 && is_empty g (at2000 side) && is_empty g (missed side))) p2
            ∙ ap (λ (c : ℕ). is_empty f (lateral side) || (is_empty f (at3000 side) && eqb c 0 && is_empty g (missed side))) p3
            ∙ ap (λ (c : ℕ). is_empty f (lateral side) || (is_empty f (at3000 side) && is_empty f (at2000 side) && eqb c 0)) p4)) u
      ]

  pub c_more : T (bound_c g)
  unfolding bound_c
  c_more =
      let ones : Field → Bool = λ h. every (λ y. leb (how_many h y) 1) (zones_from 1 6) in
      let c = (within_each f m.bounds).bound_c_is in
      let first = and_l (ones f && lateral_rule f right) (lateral_rule f left) c in
      and_i (ones g && lateral_rule g right) (lateral_rule g left)
      (and_i (ones g) (lateral_rule g right)
      (every_then (λ y. leb (how_many f y) 1) (λ y. leb (how_many g y) 1) (λ y. y) one_each (zones_from 1 6) (and_l (ones f) (lateral_rule f right) first))
      (lateral_more right (record { least = omega arith; most = omega arith }) (and_r (ones f) (lateral_rule f right) first)))
      (lateral_more left (record { least = omega arith; most = omega arith }) (and_r (ones f && lateral_rule f right) (lateral_rule f left) c))

  -- ---- d
  pub next_side : T (is_side next)
  unfolding bound_g
  next_side =
      let fit = every (λ y. every (fits_zone f.legs y) (in_zone f y)) everywhere in
      and_r fit (is_side next) (and_l (fit && is_side next) (legal_legs f.legs) (within_each f m.bounds).bound_g_is)

  pub short : length order ≤ 3
  short = let e = order_few f m.bounds in let three = m.three in omega (arith, e, three)

  -- of those with the next fix there is one at the most
  next_few : per_fix f next ≤ 1
  unfolding bound_f
  next_few =
      let a = fixes_few f m.bounds next in
      let b = next_once (fix_of f) next order short next_side (within_each f m.bounds).bound_f_is in
      omega (arith, a, b)

  fix_few : (side : ℕ) → per_fix f side ≤ 2 → per_fix g side ≤ 2
  unfolding per_fix how_many_with_fix entering
  fix_few side two =
      let e = sum_more (λ y. have_fix side) operation tt refl in
      let counted = ap (λ (b : Bool). cond b (have_fix side (a ∷ [])) 0) in_operation_lem in
      elim (decided (eqb next side)) [
        | inl u ↦
            let few : per_fix f side ≤ 1 = subst (λ (x : ℕ). per_fix f x ≤ 1) (eqb-true next side u) next_few in
            let one = ap (λ (b : Bool). cond {A = ℕ} b 1 0) u in
            omega (arith, e, counted, few, one)
        | inr u ↦ (let none = ap (λ (b : Bool). cond {A = ℕ} b 1 0) u in omega (arith, e, counted, two, none))
      ]

  pub d_more : T (bound_d g)
  unfolding bound_d
  d_more =
      let w = (within_each f m.bounds).bound_d_is in
      let first = leb→le (per_fix f right) 2 (and_l (leb (per_fix f right) 2) (leb (per_fix f left) 2) w) in
      let second = leb→le (per_fix f left) 2 (and_r (leb (per_fix f right) 2) (leb (per_fix f left) 2) w) in
      and_i (leb (per_fix g right) 2) (leb (per_fix g left) 2) (le→leb (per_fix g right) 2 (fix_few right first)) (le→leb (per_fix g left) 2 (fix_few left second))
