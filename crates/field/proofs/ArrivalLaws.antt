-- Laws of an aircraft that comes into a zone from another, by a move or by a miss. Assumes nothing.
use mathlib.Core.Path.{◌≡◌, refl, sym, ap, ◌∙◌}
use mathlib.Core.Bool.{Bool, false, cond, true≢false}
use Prim.Native.Nat.{ℕ, ◌≤◌}
use native.Mathlib.Omega.{arith}
use borrow.Author.Tests.{ne_eqb, le-leb}
use lib.Dec.{eqb}
use lib.Ieee.{Float}
use Rattle.leg.specs.Progress.{whole, leg_after_miss}
use Rattle.leg.specs.declared.Progress.TheVariants.{Waiting, Flying}
use Rattle.field.specs.declared.Aircraft.{Aircraft}
use Rattle.field.specs.declared.Legs.{Legs}
use Rattle.field.specs.Airspace.{is_flying_zone, leg_of, progress_into, on_leg, arrived, arrived_by_miss}

-- The progress with which a zone is entered, by whether the zone is flown in.
pub progress_by : (z : ℕ) {b : Bool} → is_flying_zone z ≡ b → progress_into z ≡ cond b (Flying (whole 0)) Waiting
unfolding progress_into
progress_by z e = ap (λ (b : Bool). cond b (Flying (whole 0)) Waiting) e

-- Outside zones 7 to 12 the leg is 0.
pub leg_elsewhere : (legs : Legs) (z : ℕ) → (7 ≤ z → z ≤ 12 → ⊥) → leg_of legs z ≡ whole 0
unfolding leg_of
leg_elsewhere legs z out =
    let other : (k : ℕ) → 7 ≤ k → k ≤ 12 → eqb z k ≡ false = λ k low high. ne_eqb z k (λ e. out (omega arith) (omega arith)) in
    simp (
      other 7 (omega arith) (omega arith),
      other 8 (omega arith) (omega arith),
      other 9 (omega arith) (omega arith),
      other 10 (omega arith) (omega arith),
      other 11 (omega arith) (omega arith),
      other 12 (omega arith) (omega arith),
    )

pub leg_not_flown : (legs : Legs) (z : ℕ) → is_flying_zone z ≡ false → leg_of legs z ≡ whole 0
unfolding is_flying_zone
leg_not_flown legs z e = leg_elsewhere legs z (λ low high. true≢false (sym (simp (le-leb 7 z low, le-leb z 12 high)) ∙ e))

-- It keeps its number, fix, speed, miles waited and desk, and its progress is the zone's.
pub record Into (z : ℕ) (leg : Float) (a after : Aircraft) : Type 0 where
  pub number : after.number ≡ a.number
  pub fix : after.fix ≡ a.fix
  pub speed : after.speed ≡ a.speed
  pub waited : after.waited ≡ a.waited
  pub progress : after.progress ≡ progress_into z
  pub leg_is : after.leg ≡ leg
  pub desk : after.desk ≡ a.desk

pub into_arrived : (legs : Legs) (z : ℕ) (a : Aircraft) → Into z (leg_of legs z) a (arrived legs z a)
unfolding arrived on_leg
into_arrived legs z a = record { number = refl; fix = refl; speed = refl; waited = refl; progress = refl; leg_is = refl; desk = refl }

pub into_arrived_by_miss : (legs : Legs) (z : ℕ) (a : Aircraft) → Into z (leg_after_miss legs.missed a.progress a.leg) a (arrived_by_miss legs z a)
unfolding arrived_by_miss on_leg
into_arrived_by_miss legs z a = record { number = refl; fix = refl; speed = refl; waited = refl; progress = refl; leg_is = refl; desk = refl }
