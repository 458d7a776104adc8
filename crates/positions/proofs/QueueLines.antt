-- A queue, the landing sequence and the zones, one after the other: what a loop has put, and what is left to put. Assumes nothing.
use mathlib.Core.Path.{◌≡◌, sym, ap, subst, ◌∙◌}
use mathlib.Core.List.{List, [], ◌∷◌, ◌++◌}
use Prim.Native.Nat.{ℕ, suc, ◌+◌, ◌-◌, ◌≤◌, ◌<◌}
use native.Mathlib.Omega.{arith}
use native.Mathlib.Numerals.{add-one}
use lib.ListN.{length, get_or, drop, drop_of_length-le}
use lib.Seq.{drop-cons}
use Rattle.field.specs.declared.Aircraft.{Aircraft}
use Rattle.field.specs.declared.Zone.{Zone}
use Rattle.field.specs.declared.Field.{Field}
use Rattle.field.specs.Airspace.{everywhere, zones_from, queue_of, in_zone}
use Rattle.field.proofs.Shapes.{zone_read}
use Rattle.text.specs.Buffer.{Put}
use Rattle.text.proofs.Texts.{Left, left_all, left_more}
use Rattle.positions.specs.Positions.{another, position_text, queue_text, zones_text, numbers_text}

-- ---- one more of a queue, which is lent as xs
pub queue_more : {before m n all : List ℕ} {at e f : ℕ} (i zone : ℕ) (xs qs : List Aircraft) (d : Aircraft) → xs ≡ qs → i < length xs → Left before at all m e (queue_text zone (drop i qs))
    → Put m e (position_text zone (get_or xs i d)) n f → Left before at all n f (queue_text zone (drop (i + 1) qs))
queue_more {m = m} {n} {e = e} {f} i zone xs qs d same h w p =
    let within = subst (λ (l : List Aircraft). i < length l) same h in
    let here : drop i qs ≡ get_or qs i d ∷ drop (i + 1) qs = rw (add-one) (drop-cons qs i d within) in
    left_more (position_text zone (get_or qs i d)) (queue_text zone (drop (i + 1) qs)) w (ap (queue_text zone) here)
    (subst (λ (l : List Aircraft). Put m e (position_text zone (get_or l i d)) n f) same p)

pub queue_past : (i zone : ℕ) (xs qs : List Aircraft) → xs ≡ qs → length xs ≤ i → queue_text zone (drop i qs) ≡ []
queue_past i zone xs qs same h = ap (queue_text zone) (drop_of_length-le qs (subst (λ (l : List Aircraft). length l ≤ i) same h))

-- ---- one more number of the landing sequence
pub order_more : {before m n all : List ℕ} {at e f : ℕ} (i : ℕ) (ns : List ℕ) → i < length ns → Left before at all m e (numbers_text (drop i ns)) → Put m e (another (get_or ns i 0)) n f
    → Left before at all n f (numbers_text (drop (i + 1) ns))
order_more i ns h w p =
    let here : drop i ns ≡ get_or ns i 0 ∷ drop (i + 1) ns = rw (add-one) (drop-cons ns i 0 h) in
    left_more (another (get_or ns i 0)) (numbers_text (drop (i + 1) ns)) w (ap numbers_text here) p

pub order_past : (i : ℕ) (ns : List ℕ) → length ns ≤ i → numbers_text (drop i ns) ≡ []
order_past i ns h = ap numbers_text (drop_of_length-le ns h)

-- ---- the zones: what holds before zone z
pub record Zones (before : List ℕ) (at : ℕ) (f : Field) (out : List ℕ) (next z : ℕ) : Type 0 where
  pub zones : length f.zones ≡ 13
  pub low : 1 ≤ z
  pub high : z ≤ 14
  pub left : Left before at (zones_text f everywhere) out next (zones_text f (zones_from z (14 - z)))

pub zones_none : (before : List ℕ) (at : ℕ) (f : Field) → length f.zones ≡ 13 → Zones before at f before at 1
zones_none before at f h = record { zones = h; low = omega arith; high = omega arith; left = left_all before at (zones_text f everywhere) }

zones_more : {before m n : List ℕ} {at : ℕ} {f : Field} {e k z : ℕ} (d : Zone) → Zones before at f m e z → z ≤ 13 → Put m e (queue_text z (queue_of (get_or f.zones (z - 1) d))) n k
    → Zones before at f n k (z + 1)
unfolding in_zone
zones_more {f = f} {z = z} d w h p = record {
  zones = w.zones;
  low = omega arith;
  high = omega arith;
  left = left_more (queue_text z (queue_of (get_or f.zones (z - 1) d))) (zones_text f (zones_from (z + 1) (14 - (z + 1)))) w.left (here ∙ sym read) p;
}
  where
    rest : List ℕ
    rest = zones_text f (zones_from (z + 1) (14 - (z + 1)))

    here : zones_text f (zones_from z (14 - z)) ≡ queue_text z (in_zone f z) ++ rest
    here =
        let e : 14 - z ≡ suc (14 - suc z) = omega arith in
        rw (add-one z) (ap (λ (k : ℕ). zones_text f (zones_from z k)) e)

    read : queue_text z (queue_of (get_or f.zones (z - 1) d)) ++ rest ≡ queue_text z (in_zone f z) ++ rest
    read = ap (λ (q : Zone). queue_text z (queue_of q) ++ rest) (zone_read f z d w.zones w.low h)

-- the zone at place i of the array is the next one
pub zones_next : {before m n : List ℕ} {at : ℕ} {f : Field} {e k i : ℕ} (d : Zone) → Zones before at f m e (i + 1) → i < 13 → Put m e (queue_text (i + 1) (queue_of (get_or f.zones i d))) n k
    → Zones before at f n k (i + 1 + 1)
zones_next {m = m} {n} {f = f} {e} {k} {i} d w h p =
    let back : i ≡ i + 1 - 1 = omega arith in
    zones_more d w (omega arith) (subst (λ (j : ℕ). Put m e (queue_text (i + 1) (queue_of (get_or f.zones j d))) n k) back p)

pub zones_past : {before m : List ℕ} {at : ℕ} {f : Field} {e z : ℕ} → Zones before at f m e z → 13 < z → zones_text f (zones_from z (14 - z)) ≡ []
zones_past {f = f} {z = z} w h =
    let e : 14 - z ≡ 0 = omega arith in
    ap (λ (k : ℕ). zones_text f (zones_from z k)) e
