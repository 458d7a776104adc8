-- A field as the landing order shows it: everyone in the operation area in the order of the sequence, each with its zone; who is on the
-- runway; the fix of the first; the legs. `field_of` is the field that such an order stands for, and the laws here say what the edits of
-- the field do to it. Assumes nothing.
use mathlib.Core.Path.{◌≡◌, refl}
use mathlib.Core.Bool.{Bool, true, cond}
use mathlib.Core.List.{List, [], ◌∷◌, ◌++◌, map}
use Prim.Native.Nat.{ℕ, ◌-◌, ◌<◌}
use native.Mathlib.Omega.{arith}
use lib.Dec.{T, eqb}
use lib.ListN.{length, replicate}
use lib.Seq.{take-append_seam}
use Rattle.request.specs.Input.{within}
use Rattle.field.specs.declared.Aircraft.{Aircraft}
use Rattle.field.specs.declared.Zone.{Zone}
use Rattle.field.specs.declared.Sequence.{Sequence}
use Rattle.field.specs.declared.Legs.{Legs}
use Rattle.field.specs.declared.Field.{Field}
use Rattle.field.specs.Airspace.{everywhere, nobody, zone_of, queue_of, order_of, empty_field}
use Rattle.edits.specs.Edits.{without_head, with_tail, appended, removed, with_zone}
use Rattle.order.specs.Model.{Side, right_side, num, next_fix}
use Rattle.field.proofs.TestLaws.{same, each_zone}

-- ---- queues

-- the zone whose queue is this list
abbrev pub zone_for : List Aircraft → Zone
zone_for xs = record { aircraft = xs ++ replicate (4 - length xs) nobody; length = length xs }

pub queue_for : (xs : List Aircraft) → queue_of (zone_for xs) ≡ xs
unfolding queue_of
queue_for xs = take-append_seam xs (replicate (4 - length xs) nobody)

pub tail_for : (xs : List Aircraft) (a : Aircraft) → length xs < 4 → with_tail (zone_for xs) a ≡ zone_for (xs ++ (a ∷ []))
unfolding with_tail
tail_for [] a h = refl
tail_for (x ∷ []) a h = refl
tail_for (x ∷ y ∷ []) a h = refl
tail_for (x ∷ y ∷ z ∷ []) a h = refl
tail_for (x ∷ y ∷ z ∷ w ∷ rest) a h = absurd (omega arith)

pub head_for : (a : Aircraft) (xs : List Aircraft) → length xs < 4 → without_head (zone_for (a ∷ xs)) ≡ zone_for xs
unfolding without_head
head_for a [] h = refl
head_for a (x ∷ []) h = refl
head_for a (x ∷ y ∷ []) h = refl
head_for a (x ∷ y ∷ z ∷ []) h = refl
head_for a (x ∷ y ∷ z ∷ w ∷ rest) h = absurd (omega arith)

-- ---- the sequence

-- the sequence that lists these numbers
abbrev pub sequence_for : List ℕ → Sequence
sequence_for ns = record { numbers = ns ++ replicate (4 - length ns) 0; length = length ns }

pub order_for : (ns : List ℕ) → order_of (sequence_for ns) ≡ ns
unfolding order_of
order_for ns = take-append_seam ns (replicate (4 - length ns) 0)

pub appended_for : (ns : List ℕ) (n : ℕ) → length ns < 4 → appended (sequence_for ns) n ≡ sequence_for (ns ++ (n ∷ []))
unfolding appended
appended_for [] n h = refl
appended_for (x ∷ []) n h = refl
appended_for (x ∷ y ∷ []) n h = refl
appended_for (x ∷ y ∷ z ∷ []) n h = refl
appended_for (x ∷ y ∷ z ∷ w ∷ rest) n h = absurd (omega arith)

-- the first of the sequence removed
removed_at : (n : ℕ) (ns : List ℕ) {b : Bool} → eqb n n ≡ b → length ns < 4 → b ≡ true → removed (sequence_for (n ∷ ns)) n ≡ sequence_for ns
unfolding removed order_of
removed_at n [] e h t = rw (e, t)
removed_at n (x ∷ []) e h t = rw (e, t)
removed_at n (x ∷ y ∷ []) e h t = rw (e, t)
removed_at n (x ∷ y ∷ z ∷ []) e h t = rw (e, t)
removed_at n (x ∷ y ∷ z ∷ w ∷ rest) e h t = absurd (omega arith)

pub removed_for : (n : ℕ) (ns : List ℕ) → length ns < 4 → removed (sequence_for (n ∷ ns)) n ≡ sequence_for ns
removed_for n ns h = removed_at n ns (same n) h refl

-- ---- the field by its zones
abbrev pub field_by : (ℕ → Zone) → Sequence → ℕ → Legs → Field
field_by g s next legs = record { zones = map g everywhere; sequence = s; next = next; legs = legs }

module _ (g : ℕ → Zone) (s : Sequence) (next : ℕ) (legs : Legs) where
  pub zone_by : (z : ℕ) → T (within 1 13 z) → zone_of (field_by g s next legs) z ≡ g z
  unfolding zone_of
  zone_by =
      each_zone (λ z. zone_of (field_by g s next legs) z ≡ g z)
      (refl, (refl, (refl, (refl, (refl, (refl, (refl, (refl, (refl, (refl, (refl, (refl, (refl, tt)))))))))))))

  pub with_by : (z : ℕ) (q : Zone) → T (within 1 13 z) → with_zone (field_by g s next legs) z q ≡ field_by (λ y. cond (eqb y z) q (g y)) s next legs
  unfolding with_zone
  with_by z q t =
      each_zone (λ z. with_zone (field_by g s next legs) z q ≡ field_by (λ y. cond (eqb y z) q (g y)) s next legs)
      (refl, (refl, (refl, (refl, (refl, (refl, (refl, (refl, (refl, (refl, (refl, (refl, (refl, tt)))))))))))))
      z t

  -- two fields whose zones agree
  pub by_zones : (h : ℕ → Zone) → ((z : ℕ) → T (within 1 13 z) → g z ≡ h z) → field_by g s next legs ≡ field_by h s next legs
  by_zones h e =
      rw (e 1 tt, e 2 tt, e 3 tt, e 4 tt, e 5 tt, e 6 tt, e 7 tt, e 8 tt, e 9 tt, e 10 tt, e 11 tt, e 12 tt, e 13 tt)

-- ---- the order

-- an aircraft of the operation area, and its zone
pub record Placed : Type 0 where
  pub aircraft : Aircraft
  pub zone : ℕ

abbrev pub zones_in : List Placed → List ℕ
zones_in line = map (λ e. e.zone) line

abbrev pub numbers_of : List Placed → List ℕ
numbers_of line = map (λ e. e.aircraft.number) line

-- those of the line in zone z, in its order
abbrev pub inside : ℕ → List Placed → List Aircraft
inside z [] = []
inside z (e ∷ line) = cond (eqb e.zone z) (e.aircraft ∷ inside z line) (inside z line)

-- zone z of a line and a runway
abbrev pub zones_of : List Placed → List Aircraft → ℕ → Zone
zones_of line runway z = cond (eqb z 13) (zone_for runway) (zone_for (inside z line))

-- the field that an order stands for
unfoldable pub field_of : Side → List Placed → List Aircraft → Legs → Field
field_of first line runway legs = field_by (zones_of line runway) (sequence_for (numbers_of line)) (num (next_fix first (zones_in line))) legs

pub empty_is : (legs : Legs) → empty_field legs ≡ field_of right_side [] [] legs
unfolding empty_field field_of
empty_is legs = refl
