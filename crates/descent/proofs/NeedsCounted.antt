-- What the potential number of a side, and one at 3000 there, tell of those in the operation area, on any field within the bounds. Assumes nothing.
use mathlib.Core.Path.{◌≡◌, refl, sym, ap, ◌∙◌}
use mathlib.Core.Logic.{◌≢◌, inl, inr}
use mathlib.Core.Bool.{Bool, true, false, cond, not, ◌&&◌, ◌||◌, true≢false, or-true}
use mathlib.Core.List.{List, [], ◌∷◌}
use Prim.Native.Nat.{ℕ, ◌+◌, ◌≤◌, ◌<◌}
use native.Mathlib.Omega.{arith}
use borrow.Author.Tests.{eqb-false, eq-eqb, ltb-true}
use lib.Dec.{T, eqb, leb, leb→le, ltb}
use lib.Ieee.Fits.{and_l, and_r}
use lib.ListN.{length}
use Rattle.leg.specs.Ticks.{Between}
use Rattle.field.specs.declared.Aircraft.{Aircraft}
use Rattle.field.specs.declared.Legs.{Legs}
use Rattle.field.specs.declared.Field.{Field}
use Rattle.field.specs.Airspace.{right, left, is_side, opposite, at3000, at2000, area, operation, in_zone, order_of}
use Rattle.field.specs.Lists.{is_in, every}
use Rattle.questions.specs.Counts.{total, have_fix, how_many, how_many_with_fix, is_empty, in_operation, in_area, per_fix, counted_for, potential_of}
use Rattle.questions.specs.Find.{aircraft_at}
use Rattle.bounds.specs.Bounds.{bound_d, within_bounds}
use Rattle.fits.specs.Fits.{fits_zone}
use Rattle.field.proofs.NumberLists.{every_listed}
use Rattle.field.proofs.Shapes.{one_of_two}
use Rattle.field.proofs.TestLaws.{passed, decided, either_way, same}
use Rattle.questions.proofs.FindLaws.{numbers, in_zones}
use Rattle.laws.proofs.BoundLaws.{within_each}
use Rattle.laws.proofs.Fits.{all_fit, fits_parts}
use Rattle.descent.proofs.Descent.{alone_above}
use Rattle.descent.proofs.BySequence.{inside_order}

-- those in the holdings of a side are counted for it
holdings_counted : (f : Field) (side : ℕ) → 1 ≤ side → side ≤ 2 → how_many f (at3000 side) + how_many f (at2000 side) ≤ potential_of f side
unfolding potential_of counted_for
holdings_counted f side l h = one_of_two (λ (s : ℕ). how_many f (at3000 s) + how_many f (at2000 s) ≤ potential_of f s) 1 side l (omega arith) (omega arith) (omega arith)

-- so with a potential number under 2 one of the two is empty
pub one_empty : (f : Field) (side : ℕ) → 1 ≤ side → side ≤ 2 → ltb (potential_of f side) 2 ≡ true → (is_empty f (at3000 side) || is_empty f (at2000 side)) ≡ true
one_empty f side l h u =
    elim (decided (is_empty f (at3000 side))) [
      | inl e ↦ ap (λ (c : Bool). c || is_empty f (at2000 side)) e
      | inr e ↦
          let n = eqb-false (how_many f (at3000 side)) 0 e in
          let p = ltb-true (potential_of f side) 2 u in
          let q = holdings_counted f side l h in
          ap (λ (c : Bool). c || is_empty f (at2000 side)) e ∙ eq-eqb (how_many f (at2000 side)) 0 (omega arith)
    ]

-- all in a side's area are counted for it
pub area_counted : (f : Field) (side : ℕ) → 1 ≤ side → side ≤ 2 → in_area f side ≤ potential_of f side
unfolding potential_of counted_for in_area
area_counted f side l h = one_of_two (λ (s : ℕ). in_area f s ≤ potential_of f s) 1 side l (omega arith) (omega arith) (omega arith)

-- ---- everyone has one of the two fixes
each_fix : (legs : Legs) (z : ℕ) (l : List Aircraft) → T (every (fits_zone legs z) l) → length l ≤ have_fix right l + have_fix left l
unfolding is_side
each_fix legs z [] t = omega arith
each_fix legs z (a ∷ l) t =
    let rest = each_fix legs z l (and_r (fits_zone legs z a) (every (fits_zone legs z) l) t) in
    let here = one_of (eqb a.fix right) (eqb a.fix left) (fits_parts legs z a (and_l (fits_zone legs z a) (every (fits_zone legs z) l) t)).side in
    omega (arith, rest, here)
  where
    one_of : (b c : Bool) → T (b || c) → 1 ≤ cond {A = ℕ} b 1 0 + cond {A = ℕ} c 1 0
    one_of true c t = omega arith
    one_of false true t = omega arith
    one_of false false t = elim t [ ]

total_two : (g h k : ℕ → ℕ) (zs : List ℕ) → ((z : ℕ) → is_in z zs ≡ true → g z ≤ h z + k z) → total g zs ≤ total h zs + total k zs
total_two g h k [] e = omega arith
total_two g h k (z ∷ zs) e =
    let here = e z (ap (λ (b : Bool). b || is_in z zs) (same z)) in
    let rest = total_two g h k zs (λ y i. e y (ap (λ (b : Bool). eqb z y || b) i ∙ or-true (eqb z y))) in
    omega (arith, here, rest)

module _ (f : Field) (t : T (within_bounds f)) (side : ℕ) (b : Between 1 2 side) where
  -- whoever is not counted for the side has the opposite fix
  counted_or_opposite : (z : ℕ) → is_in z operation ≡ true → how_many f z ≤ counted_for f side z + how_many_with_fix f (opposite side) z
  unfolding counted_for how_many how_many_with_fix opposite
  counted_or_opposite z i =
      let u = every_listed (λ y. leb 1 y && leb y 13) operation z tt i in
      let both = each_fix f.legs z (in_zone f z) (all_fit f (within_each f t).bound_g_is z (leb→le 1 z (and_l (leb 1 z) (leb z 13) u)) (leb→le z 13 (and_r (leb 1 z) (leb z 13) u))) in
      let fixes : length (in_zone f z) ≤ have_fix side (in_zone f z) + have_fix (opposite side) (in_zone f z) =
      one_of_two (λ (s : ℕ). length (in_zone f z) ≤ have_fix s (in_zone f z) + have_fix (opposite s) (in_zone f z)) 1 side b.least (let h = b.most in omega (arith, h)) both (omega (arith, both)) in
      either_way (λ (n : ℕ). length (in_zone f z) ≤ n + have_fix (opposite side) (in_zone f z)) (is_in z (area side)) (length (in_zone f z)) (have_fix side (in_zone f z)) (λ e. omega arith) (λ e. fixes)

  -- with a potential number under 2, at most three are in the operation area: two at the most have the opposite fix
  pub three_at_most : potential_of f side < 2 → in_operation f ≤ 3
  unfolding potential_of in_operation per_fix bound_d opposite
  three_at_most few =
      let all = total_two (how_many f) (counted_for f side) (how_many_with_fix f (opposite side)) operation counted_or_opposite in
      let w = (within_each f t).bound_d_is in
      let first = leb→le (per_fix f right) 2 (and_l (leb (per_fix f right) 2) (leb (per_fix f left) 2) w) in
      let second = leb→le (per_fix f left) 2 (and_r (leb (per_fix f right) 2) (leb (per_fix f left) 2) w) in
      let two : per_fix f (opposite side) ≤ 2 = one_of_two (λ (s : ℕ). per_fix f (opposite s) ≤ 2) 1 side b.least (let h = b.most in omega (arith, h)) second first in
      omega (arith, all, two, few)

  -- where 3000 is occupied, the sequence is not empty
  pub somebody_there : is_empty f (at3000 side) ≡ false → length (order_of f.sequence) ≢ 0
  somebody_there occupied e =
      let n = (aircraft_at f side 1).number in
      let here : is_in n (numbers (in_zone f side)) ≡ true = ap (λ (l : List Aircraft). is_in n (numbers l)) (alone_above f t side b occupied) ∙ ap (λ (c : Bool). c || false) (same n) in
      let listed : is_in side operation ≡ true = one_of_two (λ (s : ℕ). is_in s operation ≡ true) 1 side b.least (let h = b.most in omega (arith, h)) refl refl in
      none n (order_of f.sequence) e (inside_order f t n (in_zones f n side operation listed here))
    where
      none : (n : ℕ) (ns : List ℕ) → length ns ≡ 0 → is_in n ns ≡ true → ⊥
      none n [] e i = true≢false (sym i)
      none n (m ∷ ns) e i = omega (arith, e)
