-- What an edit does to every queue and to the sequence of a field with its places; for change 2.5 of document 02. Assumes nothing.
use mathlib.Core.Path.{◌≡◌, refl, sym, ap, ◌∙◌}
use mathlib.Core.Logic.{◌≢◌, ◌⊎◌, inl, inr}
use mathlib.Core.Bool.{true, false}
use mathlib.Core.List.{List, [], ◌∷◌, ◌++◌}
use Prim.Native.Nat.{ℕ, zero, suc, ◌-◌, ◌≤◌, ◌<◌}
use native.Mathlib.Numerals.{add-one}
use native.Mathlib.Omega.{arith}
use borrow.Author.Tests.{eq-eqb, eqb-true, eqb-false, lt-ltb, ltb-true, leb-true, leb-false}
use lib.Dec.{eqb, leb, ltb}
use lib.ListN.{length, take, drop, set, length-append, length-drop, length-set, get_or-eq_default}
use lib.Seq.{length-take-le, take-append-le, take-suc-set, get_or-set_same, get_or-set_other}
use Rattle.leg.specs.Ticks.{Between}
use Rattle.field.specs.declared.Aircraft.{Aircraft}
use Rattle.field.specs.declared.Zone.{Zone}
use Rattle.field.specs.declared.Sequence.{Sequence}
use Rattle.field.specs.declared.Field.{Field}
use Rattle.field.specs.Airspace.{nobody, empty_zone, zone_of, queue_of, in_zone}
use Rattle.questions.specs.Counts.{how_many}
use Rattle.edits.specs.Edits.{without_head, with_tail, with_zone}
use Rattle.field.proofs.Arrays.{set_from_one_lem}
use Rattle.field.proofs.TestLaws.{decided, if_true, if_false, either_way}

-- ---- shapes

-- a zone's array has its four places, and the length fits it
pub record ShapedZone (q : Zone) : Type 0 where
  pub places : length q.aircraft ≡ 4
  pub fits : q.length ≤ 4

-- so has the sequence's
pub record ShapedSequence (s : Sequence) : Type 0 where
  pub places : length s.numbers ≡ 4
  pub fits : s.length ≤ 4

-- so have all of a field, and it has its thirteen zones
pub record Shaped (f : Field) : Type 0 where
  pub zones : length f.zones ≡ 13
  pub zone : (z : ℕ) → ShapedZone (zone_of f z)
  pub sequence : ShapedSequence f.sequence

-- What is no zone is empty, so a field has its shape where the thirteen zones have theirs.
pub no_zone_empty : (f : Field) → length f.zones ≡ 13 → (z : ℕ) → (z ≡ 0) ⊎ (13 < z) → zone_of f z ≡ empty_zone
unfolding zone_of
no_zone_empty f e zero h = refl
no_zone_empty f e (suc i) (inl h) = absurd (omega arith)
no_zone_empty f e (suc i) (inr h) = get_or-eq_default f.zones empty_zone (omega arith)

pub shaped_empty_zone : ShapedZone empty_zone
shaped_empty_zone = record { places = refl; fits = omega arith }

pub shaped_by_zones : (f : Field) → length f.zones ≡ 13 → ((z : ℕ) → Between 1 13 z → ShapedZone (zone_of f z)) → ShapedSequence f.sequence → Shaped f
shaped_by_zones f e h s = record { zones = e; zone = λ z. low z (decided (leb 1 z)) (decided (leb z 13)); sequence = s }
  where
    none : (z : ℕ) → (z ≡ 0) ⊎ (13 < z) → ShapedZone (zone_of f z)
    none z n = rw (no_zone_empty f e z n) shaped_empty_zone

    low : (z : ℕ) → (leb 1 z ≡ true) ⊎ (leb 1 z ≡ false) → (leb z 13 ≡ true) ⊎ (leb z 13 ≡ false) → ShapedZone (zone_of f z)
    low z (inl a) (inl b) = h z (record { least = leb-true 1 z a; most = leb-true z 13 b })
    low z (inl a) (inr b) = none z (inr (leb-false z 13 b))
    low z (inr a) (inl b) = none z (inl (omega (arith, leb-false 1 z a)))
    low z (inr a) (inr b) = none z (inr (leb-false z 13 b))

-- ---- a list that closes up: of its first m, the one at place k gone, whatever then stands behind them
module _ {ℓ} {A : Type ℓ} where
  closes_up : (k m : ℕ) (xs ys : List A) → k < m → m ≤ length xs → take (m - 1) (take k xs ++ drop (suc k) xs ++ ys) ≡ take k (take m xs) ++ drop (suc k) (take m xs)
  closes_up k zero xs ys l h = absurd (omega arith)
  closes_up k (suc n) xs ys l h =
      let one : suc n - 1 ≡ n = omega arith in
      ap (λ (i : ℕ). take i (take k xs ++ drop (suc k) xs ++ ys)) one ∙ go k n xs (omega arith) h
    where
      go : (k n : ℕ) (xs : List A) → k ≤ n → n < length xs → take n (take k xs ++ drop (suc k) xs ++ ys) ≡ take k (take (suc n) xs) ++ drop (suc k) (take (suc n) xs)
      go k n [] l h = absurd (omega arith)
      go zero n (x ∷ xs) l h = take-append-le n xs ys (omega arith)
      go (suc k) zero (x ∷ xs) l h = absurd (omega arith)
      go (suc k) (suc n) (x ∷ xs) l h = ap (λ (r : List A). x ∷ r) (go k n xs (omega arith) (omega arith))

-- ---- the queue of a zone

-- An empty queue stays as it is when its head is taken off.
pub empty_stays : (q : Zone) → q.length ≡ 0 → without_head q ≡ q
unfolding without_head
empty_stays q e = if_true q _ (eq-eqb q.length 0 e)

-- A queue whose head is taken off is what stood behind the head.
pub head_taken : (q : Zone) → q.length ≤ length q.aircraft → queue_of (without_head q) ≡ drop 1 (queue_of q)
unfolding queue_of without_head
head_taken q h = go (decided (eqb q.length 0))
  where
    xs : List Aircraft
    xs = q.aircraft

    go : (eqb q.length 0 ≡ true) ⊎ (eqb q.length 0 ≡ false) → queue_of (without_head q) ≡ drop 1 (queue_of q)
    go (inl e) =
        let none = eqb-true q.length 0 e in
        ap queue_of (empty_stays q none) ∙ ap (λ (n : ℕ). take n xs) none ∙ sym (ap (λ (n : ℕ). drop 1 (take n xs)) none)
    go (inr e) = ap queue_of (if_false q _ e) ∙ closes_up 0 q.length xs (nobody ∷ []) (omega (arith, eqb-false q.length 0 e)) h

-- A queue with room has the aircraft that is put at its tail behind all others.
pub tail_put_lem : (q : Zone) (a : Aircraft) → length q.aircraft ≡ 4 → q.length < 4 → queue_of (with_tail q a) ≡ queue_of q ++ (a ∷ [])
unfolding queue_of with_tail
tail_put_lem q a e h =
    ap queue_of (if_true _ q (lt-ltb q.length 4 h))
    ∙ ap (λ (n : ℕ). take n (set q.aircraft q.length a)) (add-one q.length)
    ∙ take-suc-set q.aircraft q.length a (omega arith)

-- Either way the array keeps its places, and the length fits it.
pub shaped_without_head : (q : Zone) → ShapedZone q → ShapedZone (without_head q)
unfolding without_head
shaped_without_head q s =
    either_way ShapedZone (eqb q.length 0) q _ (λ e. s)
    (λ e. record { places = simp (length-append, length-drop) (omega arith); fits = omega arith })

pub shaped_with_tail : (q : Zone) (a : Aircraft) → ShapedZone q → ShapedZone (with_tail q a)
unfolding with_tail
shaped_with_tail q a s =
    either_way ShapedZone (ltb q.length 4) _ q
    (λ e. record { places = simp length-set s.places; fits = omega (arith, ltb-true q.length 4 e) })
    (λ e. s)

-- ---- a zone of the field

module _ (f : Field) (z : ℕ) (q : Zone) where
  -- The zone that is replaced is the new one; ..
  pub zone_replaced : Between 1 13 z → length f.zones ≡ 13 → zone_of (with_zone f z q) z ≡ q
  unfolding zone_of with_zone
  zone_replaced r e = go z r
    where
      go : (z : ℕ) → Between 1 13 z → zone_of (with_zone f z q) z ≡ q
      go zero r = absurd (omega arith)
      go (suc i) r = get_or-set_same f.zones i q empty_zone (omega arith)

  -- .. and every other zone is as it was.
  pub zone_kept_lem : (w : ℕ) → w ≢ z → zone_of (with_zone f z q) w ≡ zone_of f w
  unfolding zone_of with_zone
  zone_kept_lem w h = go z w h
    where
      go : (z w : ℕ) → w ≢ z → zone_of (with_zone f z q) w ≡ zone_of f w
      go zero w h = refl
      go (suc i) zero h = refl
      go (suc i) (suc j) h = get_or-set_other f.zones i j q empty_zone (λ e. h (ap suc e))

  -- The sequence is as it was.
  pub sequence_kept_lem : (with_zone f z q).sequence ≡ f.sequence
  unfolding with_zone
  sequence_kept_lem = refl

  module _ (r : Between 1 13 z) (long : length f.zones ≡ 13) where
    -- What holds of the new zone, and of every other as it was, holds of every zone after.
    pub each_zone_with {ℓ} : (P : ℕ → Zone → Type ℓ) → P z q → ((w : ℕ) → w ≢ z → P w (zone_of f w)) → (w : ℕ) → P w (zone_of (with_zone f z q) w)
    each_zone_with P here there w = go (decided (eqb w z))
      where
        go : (eqb w z ≡ true) ⊎ (eqb w z ≡ false) → P w (zone_of (with_zone f z q) w)
        go (inl e) = rw (eqb-true w z e, zone_replaced r long) here
        go (inr e) = rw (zone_kept_lem w (eqb-false w z e)) (there w (eqb-false w z e))

    -- The queue of the zone is the new one.
    pub queue_replaced : in_zone (with_zone f z q) z ≡ queue_of q
    unfolding in_zone
    queue_replaced = ap queue_of (zone_replaced r long)

    -- A zone of the right shape leaves a field of the right shape.
    pub shaped_with_zone : Shaped f → ShapedZone q → Shaped (with_zone f z q)
    unfolding with_zone
    shaped_with_zone s h =
        record {
          zones = ap length (set_from_one_lem f.zones z q r.least) ∙ length-set f.zones (z - 1) q ∙ long;
          zone = each_zone_with (λ w. ShapedZone) h (λ w n. s.zone w);
          sequence = s.sequence;
        }

  -- The queues of the other zones are as they were.
  module _ (w : ℕ) (h : w ≢ z) where
    pub queue_kept : in_zone (with_zone f z q) w ≡ in_zone f w
    unfolding in_zone
    queue_kept = ap queue_of (zone_kept_lem w h)

-- ---- the head taken off, and one put at the tail, of a zone of the field
module _ (f : Field) (s : Shaped f) (z : ℕ) where
  -- As many are in a zone as its length says.
  pub how_many_is : how_many f z ≡ (zone_of f z).length
  unfolding how_many in_zone queue_of
  how_many_is = let k = s.zone z in length-take-le (zone_of f z).length (zone_of f z).aircraft (omega arith)

  -- The queue is what stood behind its head; ..
  pub queue_taken : Between 1 13 z → in_zone (with_zone f z (without_head (zone_of f z))) z ≡ drop 1 (in_zone f z)
  unfolding in_zone
  queue_taken r =
      let k = s.zone z in
      queue_replaced f z (without_head (zone_of f z)) r s.zones ∙ head_taken (zone_of f z) (omega arith)

  -- .. or has the aircraft behind all others, where there is room.
  pub queue_put : (a : Aircraft) → Between 1 13 z → how_many f z < 4 → in_zone (with_zone f z (with_tail (zone_of f z) a)) z ≡ in_zone f z ++ (a ∷ [])
  unfolding in_zone
  queue_put a r h = queue_replaced f z (with_tail (zone_of f z) a) r s.zones ∙ tail_put_lem (zone_of f z) a (s.zone z).places (omega (arith, how_many_is))
