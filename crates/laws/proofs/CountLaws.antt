-- What a replaced zone does to every count of a field. Assumes nothing.
use mathlib.Core.Path.{◌≡◌, refl, sym, ap, ◌∙◌}
use mathlib.Core.Logic.{◌≢◌, ◌⊎◌, inl, inr}
use mathlib.Core.Bool.{Bool, true, false, cond, not, ◌||◌}
use mathlib.Core.List.{List, [], ◌∷◌}
use Prim.Native.Nat.{ℕ, ◌+◌}
use native.Mathlib.Omega.{arith}
use borrow.Author.Tests.{eqb-true, eqb-false}
use lib.Dec.{T, eqb}
use lib.Ieee.Fits.{and_l, and_r}
use lib.ListN.{length}
use Rattle.leg.specs.Ticks.{Between}
use Rattle.field.specs.declared.Aircraft.{Aircraft}
use Rattle.field.specs.declared.Zone.{Zone}
use Rattle.field.specs.declared.Field.{Field}
use Rattle.field.specs.Airspace.{queue_of, in_zone}
use Rattle.field.specs.Lists.{is_in, all_different}
use Rattle.questions.specs.Counts.{total}
use Rattle.edits.specs.Edits.{with_zone}
use Rattle.field.proofs.TestLaws.{failed, decided, if_true, if_false}
use Rattle.laws.proofs.EditLaws.{queue_replaced, queue_kept}

-- ---- a sum over zones that differs at one of them
pub total_changed : (g h : ℕ → ℕ) (z : ℕ) → ((w : ℕ) → w ≢ z → g w ≡ h w) → (zs : List ℕ) → T (all_different zs)
    → total g zs + cond (is_in z zs) (h z) 0 ≡ total h zs + cond (is_in z zs) (g z) 0
total_changed g h z same [] d = refl
total_changed g h z same (w ∷ zs) d = go (decided (eqb w z)) (total_changed g h z same zs (and_r (not (is_in w zs)) (all_different zs) d))
  where
    go : (eqb w z ≡ true) ⊎ (eqb w z ≡ false) → total g zs + cond (is_in z zs) (h z) 0 ≡ total h zs + cond (is_in z zs) (g z) 0
        → total g (w ∷ zs) + cond (is_in z (w ∷ zs)) (h z) 0 ≡ total h (w ∷ zs) + cond (is_in z (w ∷ zs)) (g z) 0
    go (inl e) rest =
        let q = eqb-true w z e in
        let once = ap (λ (y : ℕ). is_in y zs) (sym q) ∙ failed (and_l (not (is_in w zs)) (all_different zs) d) in
        let here = ap (λ (t : Bool). t || is_in z zs) e in
        let a = if_false (h z) 0 once in
        let b = if_false (g z) 0 once in
        let c = if_true (h z) 0 here in
        let k = if_true (g z) 0 here in
        let u = ap g q in
        let v = ap h q in
        omega arith
    go (inr e) rest =
        let a = ap (λ (t : Bool). cond (t || is_in z zs) (h z) 0) e in
        let b = ap (λ (t : Bool). cond (t || is_in z zs) (g z) 0) e in
        let c = same w (eqb-false w z e) in
        omega arith

-- ---- a zone replaced
module _ (f : Field) (z : ℕ) (q : Zone) (r : Between 1 13 z) (long : length f.zones ≡ 13) where
  -- Every count that adds up a number for each zone, by who is there: it changes by what it was for the zone's queue and is for the new
  -- one, where it counts the zone.
  pub sum_with : (count : ℕ → List Aircraft → ℕ) (zs : List ℕ) → T (all_different zs)
      → total (λ w. count w (in_zone (with_zone f z q) w)) zs + cond (is_in z zs) (count z (in_zone f z)) 0
      ≡ total (λ w. count w (in_zone f w)) zs + cond (is_in z zs) (count z (queue_of q)) 0
  sum_with count zs d =
      let t = total_changed (λ w. count w (in_zone (with_zone f z q) w)) (λ w. count w (in_zone f w)) z (λ w h. ap (count w) (queue_kept f z q w h)) zs d in
      let e = ap (λ (l : List Aircraft). cond (is_in z zs) (count z l) 0) (queue_replaced f z q r long) in
      omega arith
