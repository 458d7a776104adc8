-- What a tick does to a field that an order stands for: each of the line in a flying zone has its progress after the tick. Assumes nothing.
use mathlib.Core.Path.{◌≡◌, refl, sym, ap, ◌∙◌}
use mathlib.Core.Logic.{◌⊎◌, inl, inr}
use mathlib.Core.Bool.{Bool, true, false, cond}
use mathlib.Core.List.{List, [], ◌∷◌, map, map-id}
use Prim.Native.Nat.{ℕ, ◌≤◌}
use native.Mathlib.Nat.{le_trans}
use native.Mathlib.Omega.{arith}
use lib.Dec.{eqb}
use lib.ListN.{length}
use borrow.Author.Tests.{eqb-true}
use Rattle.field.specs.declared.Aircraft.{Aircraft}
use Rattle.field.specs.declared.Legs.{Legs}
use Rattle.field.specs.Airspace.{is_flying_zone}
use Rattle.tick.specs.Tick.{ticked_aircraft, ticked_zone, ticked}
use Rattle.order.specs.Model.{Side, num, next_fix}
use Rattle.field.proofs.TestLaws.{if_true, if_false, decided}
use Rattle.tick.proofs.Tick.{ticked_in}
use Rattle.laws.proofs.TickLaws.{ticked_at, number_kept}
use Rattle.line.proofs.Line.{zone_for, sequence_for, field_by, by_zones, Placed, zones_in, numbers_of, inside, zones_of, field_of}
use Rattle.line.proofs.CountedOnLine.{not_13}
use Rattle.line.proofs.Located.{zone_split}
use Rattle.line.proofs.Orderly.{inside_le}

-- one of the line after a tick
abbrev pub tick_placed : ℕ → Placed → Placed
tick_placed amount e = record { aircraft = ticked_at amount e.zone e.aircraft; zone = e.zone }

zone_ticked : (amount : ℕ) (xs : List Aircraft) → length xs ≤ 4 → ticked_zone amount (zone_for xs) ≡ zone_for (map (ticked_aircraft amount) xs)
unfolding ticked_zone ticked_aircraft
zone_ticked amount [] h = refl
zone_ticked amount (x ∷ []) h = refl
zone_ticked amount (x ∷ y ∷ []) h = refl
zone_ticked amount (x ∷ y ∷ z ∷ []) h = refl
zone_ticked amount (x ∷ y ∷ z ∷ w ∷ []) h = refl
zone_ticked amount (x ∷ y ∷ z ∷ w ∷ v ∷ rest) h = absurd (omega arith)

module _ (amount : ℕ) where
  inside_ticked : (z : ℕ) (line : List Placed) → inside z (map (tick_placed amount) line) ≡ map (ticked_at amount z) (inside z line)
  inside_ticked z [] = refl
  inside_ticked z (e ∷ line) = go (decided (eqb e.zone z)) (inside_ticked z line)
    where
      go : (eqb e.zone z ≡ true) ⊎ (eqb e.zone z ≡ false) → inside z (map (tick_placed amount) line) ≡ map (ticked_at amount z) (inside z line)
          → inside z (map (tick_placed amount) (e ∷ line)) ≡ map (ticked_at amount z) (inside z (e ∷ line))
      go (inl b) h =
          if_true (ticked_at amount e.zone e.aircraft ∷ inside z (map (tick_placed amount) line)) (inside z (map (tick_placed amount) line)) b
          ∙ ap (λ (w : ℕ). ticked_at amount w e.aircraft ∷ inside z (map (tick_placed amount) line)) (eqb-true e.zone z b)
          ∙ ap (λ (l : List Aircraft). ticked_at amount z e.aircraft ∷ l) h
          ∙ sym (ap (map (ticked_at amount z)) (if_true (e.aircraft ∷ inside z line) (inside z line) b))
      go (inr b) h =
          if_false (ticked_at amount e.zone e.aircraft ∷ inside z (map (tick_placed amount) line)) (inside z (map (tick_placed amount) line)) b
          ∙ h
          ∙ sym (ap (map (ticked_at amount z)) (if_false (e.aircraft ∷ inside z line) (inside z line) b))

  zone_at : (z : ℕ) (xs : List Aircraft) → length xs ≤ 4 → ticked_in amount z (zone_for xs) ≡ zone_for (map (ticked_at amount z) xs)
  zone_at z xs h = go (is_flying_zone z)
    where
      go : (b : Bool) → cond b (ticked_zone amount (zone_for xs)) (zone_for xs) ≡ zone_for (map (λ x. cond b (ticked_aircraft amount x) x) xs)
      go true = zone_ticked amount xs h
      go false = ap zone_for (sym (map-id xs))

  pub zones_same : (line : List Placed) → zones_in (map (tick_placed amount) line) ≡ zones_in line
  zones_same [] = refl
  zones_same (e ∷ line) = ap (λ (l : List ℕ). e.zone ∷ l) (zones_same line)

  pub numbers_same : (line : List Placed) → numbers_of (map (tick_placed amount) line) ≡ numbers_of line
  numbers_same [] = refl
  numbers_same (e ∷ line) = ap (λ (n : ℕ). n ∷ numbers_of (map (tick_placed amount) line)) (number_kept amount e.zone e.aircraft) ∙ ap (λ (l : List ℕ). e.aircraft.number ∷ l) (numbers_same line)

  pub ticks : (f : Side) (line : List Placed) (runway : List Aircraft) (legs : Legs) → length line ≤ 4
      → ticked (field_of f line runway legs) amount ≡ field_of f (map (tick_placed amount) line) runway legs
  unfolding ticked field_of is_flying_zone
  ticks f line runway legs h =
      by_zones (λ z. ticked_in amount z (zones_of line runway z)) (sequence_for (numbers_of line)) (num (next_fix f (zones_in line))) legs (zones_of (map (tick_placed amount) line) runway)
      (zone_split {P = λ z. ticked_in amount z (zones_of line runway z) ≡ zones_of (map (tick_placed amount) line) runway z} refl
      (λ z t. ap (ticked_in amount z) (if_false (zone_for runway) (zone_for (inside z line)) (not_13 z t))
      ∙ zone_at z (inside z line) (le_trans (inside_le z line) h)
      ∙ sym (if_false (zone_for runway) (zone_for (inside z (map (tick_placed amount) line))) (not_13 z t) ∙ ap zone_for (inside_ticked z line))))
      ∙ ap (λ (ns : List ℕ). field_by (zones_of (map (tick_placed amount) line) runway) (sequence_for ns) (num (next_fix f (zones_in line))) legs) (sym (numbers_same line))
      ∙ ap (λ (zs : List ℕ). field_by (zones_of (map (tick_placed amount) line) runway) (sequence_for (numbers_of (map (tick_placed amount) line))) (num (next_fix f zs)) legs) (sym (zones_same line))
