-- The counts of the state of a field within the bounds are those of the field: the virtual number is the potential number, and those on the approach that are
-- assigned to a side are those with that fix. Assumes nothing.
use mathlib.Core.Path.{◌≡◌, refl, sym, ap, ◌∙◌}
use mathlib.Core.Bool.{Bool, cond, not, ◌||◌}
use mathlib.Core.List.{List, [], ◌∷◌, map}
use Prim.Native.Nat.{ℕ, zero, suc, ◌+◌}
use native.Mathlib.Omega.{arith}
use borrow.Author.Tests.{ne_eqb}
use lib.Dec.{T, eqb}
use lib.Ieee.Fits.{and_l, and_r}
use Rattle.field.specs.declared.Aircraft as field
use Rattle.field.specs.declared.Field.{Field}
use Rattle.field.specs.Airspace.{is_side, everywhere, in_zone}
use Rattle.field.specs.Lists.{every}
use Rattle.questions.specs.Counts.{have_fix, how_many_with_fix, approach_holds, counted_for, potential_of}
use Rattle.bounds.specs.Bounds.{within_bounds}
use Rattle.fits.specs.Fits.{fits_zone}
use Rattle.order.specs.Model.{Side, right_side, left_side, num}
use Rattle.field.proofs.NumberLists.{every_listed, zone_listed}
use Rattle.laws.proofs.BoundLaws.{within_each}
use Rattle.laws.proofs.Fits.{fits_parts}
use Rattle.reason.proofs.Invariant.{parts}
use Rattle.nasa.specs.Definitions.{ScaZone, holding3, holding2, lez, maz, base, intermediate, final, same_side, assigned, approach_assigned, virtual}
use Rattle.nasa.specs.Rules.{zone_number}
use Rattle.nasa.specs.Stands.{side_named, seen, state_of}
use Rattle.nasa.proofs.States.{zone_number_lem}
use Rattle.nasa.proofs.AcceptedHead.{how_many_in}
use Rattle.nasa.proofs.MissTransition.{side_cases}

-- ---- a queue
same_fix : (s : Side) (n : ℕ) → T (is_side n) → same_side (side_named n) s ≡ eqb n (num s)
same_fix right_side = side_cases (λ n. same_side (side_named n) right_side ≡ eqb n 1) refl refl
same_fix left_side = side_cases (λ n. same_side (side_named n) left_side ≡ eqb n 2) refl refl

assigned_seen : (f : Field) (w z : ℕ) (s : Side) (xs : List field.Aircraft) → T (every (fits_zone f.legs z) xs) → assigned (map (seen f w) xs) s ≡ have_fix (num s) xs
assigned_seen f w z s [] t = refl
assigned_seen f w z s (x ∷ xs) t =
    let side = (fits_parts f.legs z x (and_l (fits_zone f.legs z x) (every (fits_zone f.legs z) xs) t)).side in
    ap (λ (b : Bool). cond b 1 0 + assigned (map (seen f w) xs) s) (same_fix s x.fix side)
    ∙ ap (λ (m : ℕ). cond (eqb x.fix (num s)) 1 0 + m) (assigned_seen f w z s xs (and_r (fits_zone f.legs z x) (every (fits_zone f.legs z) xs) t))

-- one of two numbers is not 0 where their sum is not
either_some : (a b : ℕ) → (not (eqb a 0) || not (eqb b 0)) ≡ not (eqb (a + b) 0)
either_some zero b = let e : b ≡ 0 + b = omega arith in ap (λ (m : ℕ). not (eqb m 0)) e
either_some (suc a) b = ap (λ (c : Bool). not c || not (eqb b 0)) (ne_eqb (suc a) 0 (λ e. omega arith)) ∙ sym (ap not (ne_eqb (suc a + b) 0 (λ e. omega arith)))

module _ (f : Field) (t : T (within_bounds f)) where
  assigned_in : (z : ScaZone) (s : Side) → assigned ((state_of f).queue z) s ≡ how_many_with_fix f (num s) (zone_number z)
  unfolding state_of how_many_with_fix
  assigned_in z s =
      let all = every_listed (λ z. every (fits_zone f.legs z) (in_zone f z)) everywhere (zone_number z) (parts f (within_each f t)).fit (zone_listed (zone_number z) (zone_number_lem z)) in
      assigned_seen f (zone_number z) (zone_number z) s (in_zone f (zone_number z)) all

  pub virtual_is : (s : Side) → virtual (state_of f) s ≡ potential_of f (num s)
  unfolding virtual potential_of counted_for
  virtual_is right_side =
      let a = how_many_in f (holding3 right_side) in
      let b = how_many_in f (holding2 right_side) in
      let c = how_many_in f (lez right_side) in
      let d = how_many_in f (maz right_side) in
      let g = assigned_in (holding3 left_side) right_side in
      let h = assigned_in (holding2 left_side) right_side in
      let i = assigned_in (lez left_side) right_side in
      let j = assigned_in (maz left_side) right_side in
      let k = assigned_in (base right_side) right_side in
      let l = assigned_in (base left_side) right_side in
      let m = assigned_in intermediate right_side in
      let n = assigned_in final right_side in
      omega arith
  virtual_is left_side =
      let a = how_many_in f (holding3 left_side) in
      let b = how_many_in f (holding2 left_side) in
      let c = how_many_in f (lez left_side) in
      let d = how_many_in f (maz left_side) in
      let g = assigned_in (holding3 right_side) left_side in
      let h = assigned_in (holding2 right_side) left_side in
      let i = assigned_in (lez right_side) left_side in
      let j = assigned_in (maz right_side) left_side in
      let k = assigned_in (base right_side) left_side in
      let l = assigned_in (base left_side) left_side in
      let m = assigned_in intermediate left_side in
      let n = assigned_in final left_side in
      omega arith

  pub approach_is : (s : Side) → approach_assigned (state_of f) s ≡ approach_holds f (num s)
  unfolding approach_holds
  approach_is s =
      let p : ℕ = assigned ((state_of f).queue (base right_side)) s in
      let q : ℕ = assigned ((state_of f).queue (base left_side)) s in
      let u : ℕ = assigned ((state_of f).queue intermediate) s in
      let v : ℕ = assigned ((state_of f).queue final) s in
      let a = assigned_in (base right_side) s in
      let b = assigned_in (base left_side) s in
      let c = assigned_in intermediate s in
      let d = assigned_in final s in
      let g = how_many_with_fix f (num s) in
      let sum : p + q + u + v ≡ g 9 + (g 10 + (g 11 + (g 12 + 0))) = omega arith in
      ap (λ (x : Bool). x || not (eqb u 0) || not (eqb v 0)) (either_some p q)
      ∙ ap (λ (x : Bool). x || not (eqb v 0)) (either_some (p + q) u)
      ∙ either_some (p + q + u) v
      ∙ ap (λ (m : ℕ). not (eqb m 0)) sum
