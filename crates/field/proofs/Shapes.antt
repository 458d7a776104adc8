-- What the proofs of the field's functions share: an element read from an array, the next of a queue, how many a queue holds, and a
-- number that is one of two. Assumes nothing.
use mathlib.Core.Path.{◌≡◌, refl, sym, ap, ◌∙◌, subst}
use mathlib.Core.Bool.{Bool, true, false}
use mathlib.Core.List.{List, [], ◌∷◌}
use Prim.Native.Nat.{ℕ, zero, suc, ◌+◌, ◌-◌, ◌≤◌, ◌<◌}
use native.Mathlib.Omega.{arith}
use native.Mathlib.Numerals.{add-one}
use borrow.Author.Tests.{eqb-true, eqb-false}
use lib.Dec.{eqb}
use lib.ListN.{length, get_or, take, drop, length-take}
use lib.Seq.{drop-cons, get_or-take}
use Rattle.field.specs.declared.Aircraft.{Aircraft}
use Rattle.field.specs.declared.Zone.{Zone}
use Rattle.field.specs.declared.Sequence.{Sequence}
use Rattle.field.specs.declared.Field.{Field}
use Rattle.field.specs.Airspace.{empty_zone, zone_of, queue_of, in_zone, order_of}
use Rattle.field.proofs.FieldKnown.{FieldKnown}

module _ {ℓ} {A : Type ℓ} where
  -- within the length no default matters
  pub read : (l : List A) (i : ℕ) (d e : A) → i < length l → get_or l i d ≡ get_or l i e
  read [] i d e h = absurd (omega arith)
  read (x ∷ xs) zero d e h = refl
  read (x ∷ xs) (suc i) d e h = read xs i d e (omega arith)

  -- a place counted from 1 is the one before it counted from 0
  pub from_one : (x : A) (l : List A) (z : ℕ) (d : A) → 1 ≤ z → get_or (x ∷ l) z d ≡ get_or l (z - 1) d
  from_one x l zero d h = absurd (omega arith)
  from_one x l (suc i) d h = ap (λ (j : ℕ). get_or l j d) (omega arith)

  -- of the first n of a list, the one at index i, and those behind
  pub next : (l : List A) (n i : ℕ) (d : A) → i < length (take n l) → drop i (take n l) ≡ get_or l i d ∷ drop (i + 1) (take n l)
  next l n i d h =
      rw (add-one)
      (drop-cons (take n l) i d h
      ∙ ap (λ (a : A). a ∷ drop (suc i) (take n l)) (get_or-take n l i d (omega (arith, length-take n l))))

-- what holds of k and of k + 1 holds of each number from k that is below k + 2
pub one_of_two : (P : ℕ → Type 0) (k z : ℕ) → k ≤ z → z < k + 2 → P k → P (k + 1) → P z
one_of_two P k z low high here next = go (eqb z k) refl
  where
    go : (b : Bool) → eqb z k ≡ b → P z
    go true e = subst P (sym (eqb-true z k e)) here
    go false e = subst P (omega (arith, eqb-false z k e)) next

-- the next of a queue: who stands at index i, and those behind
pub queue_next : (q : Zone) (i : ℕ) (d : Aircraft) → i < length (queue_of q) → drop i (queue_of q) ≡ get_or q.aircraft i d ∷ drop (i + 1) (queue_of q)
unfolding queue_of
queue_next q i d h = next q.aircraft q.length i d h

-- who stands at index i of a queue
pub queue_read : (q : Zone) (i : ℕ) (d : Aircraft) → i < length (queue_of q) → get_or (queue_of q) i d ≡ get_or q.aircraft i d
unfolding queue_of
queue_read q i d h = get_or-take q.length q.aircraft i d (omega (arith, length-take q.length q.aircraft))

-- the next of the sequence, likewise
pub order_next : (s : Sequence) (i : ℕ) → i < length (order_of s) → drop i (order_of s) ≡ get_or s.numbers i 0 ∷ drop (i + 1) (order_of s)
unfolding order_of
order_next s i h = next s.numbers s.length i 0 h

-- a queue of a zone with four places is no longer than four
pub queue_fits : (q : Zone) → length q.aircraft ≡ 4 → length (queue_of q) ≤ 4
unfolding queue_of
queue_fits q e = omega (arith, length-take q.length q.aircraft)

-- nor is the sequence
pub order_fits : (s : Sequence) → length s.numbers ≡ 4 → length (order_of s) ≤ 4
unfolding order_of
order_fits s e = omega (arith, length-take s.length s.numbers)

-- so no zone of a field holds more than four
pub at_most_four : {f : Field} → FieldKnown f → (z : ℕ) → length (in_zone f z) ≤ 4
unfolding in_zone
at_most_four {f} known z = queue_fits (zone_of f z) (known.places z)

-- zone z read at the index before it
pub zone_read : (f : Field) (z : ℕ) (d : Zone) → length f.zones ≡ 13 → 1 ≤ z → z ≤ 13 → get_or f.zones (z - 1) d ≡ zone_of f z
unfolding zone_of
zone_read f z d n low high = read f.zones (z - 1) d empty_zone (omega arith) ∙ sym (from_one empty_zone f.zones z empty_zone low)

-- the zone at index i of the array is the one that is counted from 1
pub zone_at : (f : Field) (i : ℕ) (d : Zone) → i < length f.zones → get_or f.zones i d ≡ zone_of f (i + 1)
unfolding zone_of
zone_at f i d h = rw add-one (read f.zones i d empty_zone h)
