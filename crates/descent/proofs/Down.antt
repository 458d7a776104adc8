-- The one at 3000 of a side moved to 2000, on any field whose arrays have their places: what it does to every queue and to every count. Assumes
-- nothing.
use mathlib.Core.Path.{◌≡◌, refl, sym, ap, ◌∙◌, subst}
use mathlib.Core.Logic.{◌≢◌}
use mathlib.Core.Bool.{Bool, true, false, cond, not}
use mathlib.Core.List.{List, [], ◌∷◌, ◌++◌}
use Prim.Native.Nat.{ℕ, ◌+◌, ◌<◌}
use native.Mathlib.Omega.{arith}
use lib.Dec.{T, eqb}
use lib.ListN.{length, drop, get_or}
use Rattle.leg.specs.Ticks.{Between}
use Rattle.field.specs.declared.Aircraft.{Aircraft}
use Rattle.field.specs.declared.Zone.{Zone}
use Rattle.field.specs.declared.Field.{Field}
use Rattle.field.specs.Airspace.{at3000, at2000, area, approach, operation, everywhere, nobody, zone_of, queue_of, in_zone, arrived}
use Rattle.field.specs.Lists.{is_in, all_different}
use Rattle.edits.specs.Edits.{without_head, with_tail, with_zone}
use Rattle.questions.specs.Counts.{total, have_fix, how_many, how_many_with_fix, in_operation, in_area, per_fix, counted_for, approach_holds, potential_of}
use Rattle.questions.specs.Find.{aircraft_at}
use Rattle.rules.specs.Kinds.{head_gone, tail_put, moved}
use Rattle.field.proofs.ArrivalLaws.{into_arrived}
use Rattle.field.proofs.TestLaws.{if_true}
use Rattle.field.proofs.Shapes.{one_of_two}
use Rattle.field.proofs.NumberLists.{area_different}
use Rattle.laws.proofs.EditLaws.{Shaped, shaped_without_head, shaped_with_tail, shaped_with_zone, zone_kept_lem, each_zone_with, queue_replaced, queue_kept, queue_taken, queue_put}
use Rattle.laws.proofs.CountLaws.{sum_with}

-- what is taken off a sum for one zone is added for another
balanced : (b : Bool) (h : ℕ) {g f p q r s : ℕ} → p ≡ 0 → s ≡ 0 → q ≡ r → g + cond b p 0 ≡ h + cond b q 0 → h + cond b r 0 ≡ f + cond b s 0 → g ≡ f
balanced true h a b c d e = omega arith
balanced false h a b c d e = omega arith

nobody_counts : (c : Bool) → cond {A = ℕ} c 0 0 ≡ 0
nobody_counts true = refl
nobody_counts false = refl

-- the head of a queue of one
pub head_is : (f : Field) (z : ℕ) (x : Aircraft) → in_zone f z ≡ x ∷ [] → aircraft_at f z 1 ≡ x
unfolding aircraft_at
head_is f z x e = ap (λ (l : List Aircraft). get_or (nobody ∷ l) 1 nobody) e

-- ---- x is alone at 3000 of a side, and nobody at 2000
pub record AloneAbove (f : Field) (side : ℕ) : Type 0 where
  pub shaped : Shaped f
  pub between : Between 1 2 side
  pub x : Aircraft
  pub here : in_zone f (at3000 side) ≡ x ∷ []
  pub below : in_zone f (at2000 side) ≡ []

module _ {f : Field} {side : ℕ} (a : AloneAbove f side) where
  abbrev w : ℕ
  w = at2000 side

  -- the field without it
  abbrev f₁ : Field
  f₁ = with_zone f side (without_head (zone_of f side))

  -- as it is at 2000
  abbrev pub lower : Aircraft
  lower = arrived f.legs w a.x

  abbrev q₂ : Zone
  q₂ = with_tail (zone_of f₁ w) lower

  -- the field with it at 2000
  abbrev pub down : Field
  down = with_zone f₁ w q₂

  pub moved_down : moved f (at3000 side) w ≡ down
  unfolding moved tail_put head_gone
  moved_down = ap (λ (c : Aircraft). with_zone f₁ w (with_tail (zone_of f₁ w) (arrived f.legs w c))) (head_is f side a.x a.here)

  from_zone : Between 1 13 side
  from_zone = let m = a.between.most in record { least = a.between.least; most = omega arith }

  to_zone : Between 1 13 w
  to_zone = let m = a.between.most in record { least = omega arith; most = omega arith }

  apart : w ≢ side
  apart e = omega arith

  shaped₁ : Shaped f₁
  shaped₁ = shaped_with_zone f side (without_head (zone_of f side)) from_zone a.shaped.zones a.shaped (shaped_without_head (zone_of f side) (a.shaped.zone side))

  -- the field has its shape then
  pub shaped_down : Shaped down
  shaped_down = shaped_with_zone f₁ w q₂ to_zone shaped₁.zones shaped₁ (shaped_with_tail (zone_of f₁ w) lower (shaped₁.zone w))

  -- ---- every queue
  taken : in_zone f₁ side ≡ []
  taken = queue_taken f a.shaped side from_zone ∙ ap (drop 1) a.here

  none_yet : in_zone f₁ w ≡ []
  none_yet = queue_kept f side (without_head (zone_of f side)) w apart ∙ a.below

  room : how_many f₁ w < 4
  unfolding how_many
  room = let e = ap length none_yet in omega arith

  -- Nobody is at 3000, ..
  pub none_above : in_zone down side ≡ []
  none_above = queue_kept f₁ w q₂ side (λ e. apart (sym e)) ∙ taken

  -- .. it is at 2000, ..
  pub one_below : in_zone down w ≡ lower ∷ []
  one_below = queue_put f₁ shaped₁ w lower to_zone room ∙ ap (λ (l : List Aircraft). l ++ (lower ∷ [])) none_yet

  -- .. and every other queue is as it was.
  pub elsewhere : (z : ℕ) → z ≢ side → z ≢ w → in_zone down z ≡ in_zone f z
  elsewhere z h j = queue_kept f₁ w q₂ z j ∙ queue_kept f side (without_head (zone_of f side)) z h

  -- What holds of the two zones as they are then, and of every other as it was, holds of every zone.
  pub each_zone_down : (P : ℕ → Zone → Type 0) → P side (without_head (zone_of f side)) → P w (with_tail (zone_of f w) lower) → ((z : ℕ) → P z (zone_of f z)) → (z : ℕ) → P z (zone_of down z)
  each_zone_down P p q others =
      each_zone_with f₁ w q₂ to_zone shaped₁.zones P
      (subst (λ (y : Zone). P w (with_tail y lower)) (sym (zone_kept_lem f side (without_head (zone_of f side)) w apart)) q)
      (λ z h. each_zone_with f side (without_head (zone_of f side)) from_zone a.shaped.zones P p (λ y u. others y) z)

  -- ---- every count

  -- A count over zones that has both of them or neither, and counts it alike in both, stays.
  pub sum_down : (count : ℕ → List Aircraft → ℕ) (zs : List ℕ) → T (all_different zs) → is_in w zs ≡ is_in side zs → count side [] ≡ 0 → count w [] ≡ 0 → count w (lower ∷ []) ≡ count side (a.x ∷ [])
      → total (λ y. count y (in_zone down y)) zs ≡ total (λ y. count y (in_zone f y)) zs
  sum_down count zs d both none none' same =
      balanced (is_in side zs) (total (λ y. count y (in_zone f₁ y)) zs)
      (ap (count w) none_yet ∙ none')
      (ap (count side) (sym (queue_replaced f side (without_head (zone_of f side)) from_zone a.shaped.zones) ∙ taken) ∙ none)
      (ap (count w) (sym (queue_replaced f₁ w q₂ to_zone shaped₁.zones) ∙ one_below) ∙ same ∙ ap (count side) (sym a.here))
      (subst (λ (c : Bool). total (λ y. count y (in_zone down y)) zs + cond c (count w (in_zone f₁ w)) 0 ≡ total (λ y. count y (in_zone f₁ y)) zs + cond c (count w (queue_of q₂)) 0) both
      (sum_with f₁ w q₂ to_zone shaped₁.zones count zs d))
      (sum_with f side (without_head (zone_of f side)) from_zone a.shaped.zones count zs d)

  -- of the lists of zones that the bounds and the needs count over
  by_side : (P : ℕ → Type 0) → P 1 → P 2 → P side
  by_side P p q = one_of_two P 1 side a.between.least (let h = a.between.most in omega arith) p q

  pub in_operation_lem : is_in w operation ≡ is_in side operation
  in_operation_lem = by_side (λ (s : ℕ). is_in (at2000 s) operation ≡ is_in s operation) refl refl

  pub in_everywhere : is_in w everywhere ≡ is_in side everywhere
  in_everywhere = by_side (λ (s : ℕ). is_in (at2000 s) everywhere ≡ is_in s everywhere) refl refl

  in_approach : is_in w approach ≡ is_in side approach
  in_approach = by_side (λ (s : ℕ). is_in (at2000 s) approach ≡ is_in s approach) refl refl

  in_area_lem : (s : ℕ) → Between 1 2 s → is_in w (area s) ≡ is_in side (area s)
  in_area_lem s h =
      by_side (λ (side : ℕ). is_in (at2000 side) (area s) ≡ is_in side (area s))
      (one_of_two (λ (s : ℕ). is_in 3 (area s) ≡ is_in 1 (area s)) 1 s h.least (let m = h.most in omega arith) refl refl)
      (one_of_two (λ (s : ℕ). is_in 4 (area s) ≡ is_in 2 (area s)) 1 s h.least (let m = h.most in omega arith) refl refl)

  fix_same : (s : ℕ) → have_fix s (lower ∷ []) ≡ have_fix s (a.x ∷ [])
  fix_same s = ap (λ (n : ℕ). cond (eqb n s) 1 0 + 0) (into_arrived f.legs w a.x).fix

  -- As many are in the operation area, ..
  pub operation_down : in_operation down ≡ in_operation f
  unfolding in_operation how_many
  operation_down = sum_down (λ y. length) operation tt in_operation_lem refl refl refl

  -- .. in each side's area, ..
  pub area_down : (s : ℕ) → Between 1 2 s → in_area down s ≡ in_area f s
  unfolding in_area how_many
  area_down s h = sum_down (λ y. length) (area s) (area_different s) (in_area_lem s h) refl refl refl

  -- .. with each fix, ..
  pub per_fix_down : (s : ℕ) → per_fix down s ≡ per_fix f s
  unfolding per_fix how_many_with_fix
  per_fix_down s = sum_down (λ y. have_fix s) operation tt in_operation_lem refl refl (fix_same s)

  -- .. and with each fix on the approach, ..
  pub approach_down : (s : ℕ) → approach_holds down s ≡ approach_holds f s
  unfolding approach_holds how_many_with_fix
  approach_down s = ap (λ (n : ℕ). not (eqb n 0)) (sum_down (λ y. have_fix s) approach tt in_approach refl refl (fix_same s))

  -- .. and the side's potential number is the same.
  pub potential_down : potential_of down side ≡ potential_of f side
  unfolding potential_of counted_for how_many how_many_with_fix
  potential_down =
      sum_down (λ y l. cond (is_in y (area side)) (length l) (have_fix side l)) operation tt in_operation_lem (nobody_counts (is_in side (area side))) (nobody_counts (is_in w (area side)))
      (if_true 1 (have_fix side (lower ∷ [])) (by_side (λ (s : ℕ). is_in (at2000 s) (area s) ≡ true) refl refl)
      ∙ sym (if_true 1 (have_fix side (a.x ∷ [])) (by_side (λ (s : ℕ). is_in s (area s) ≡ true) refl refl)))
