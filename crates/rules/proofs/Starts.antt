-- A field that a list of requests may start from has the queues of the empty field with its legs, and that field is such a one. Assumes nothing.
use mathlib.Core.Path.{◌≡◌, refl, sym, ap, subst}
use mathlib.Core.Bool.{◌&&◌}
use mathlib.Core.List.{List, [], ◌∷◌}
use Prim.Native.Nat.{ℕ, zero, suc}
use native.Mathlib.Omega.{arith}
use lib.Dec.{T, eqb, leb, le→leb}
use lib.ListN.{length, get_or, take, drop, replicate}
use lib.Ieee.{of_int, neg, eq}
use lib.Ieee.Fits.{and_i, and_l, and_r}
use borrow.Author.Tests.{eqb-true}
use Rattle.field.specs.declared.Aircraft.{Aircraft}
use Rattle.field.specs.declared.Zone.{Zone}
use Rattle.field.specs.declared.Sequence.{Sequence}
use Rattle.field.specs.declared.Legs.{Legs}
use Rattle.field.specs.declared.Field.{Field}
use Rattle.field.specs.Airspace.{right, empty_zone, empty_field, zone_of, queue_of}
use Rattle.field.specs.Lists.{every}
use Rattle.field.proofs.TestLaws.{passed}
use Rattle.bounds.specs.Bounds.{is_nobody, zone_kept}
use Rattle.fits.specs.Fits.{legal_legs}
use Rattle.laws.proofs.SameQueues.{SameZone, Same, kept_empty}
use Rattle.rules.specs.Start.{zone_at_start, sequence_at_start, empty_start, EmptyStarts, MinusZerosStart}

-- ---- the parts of the test
pub record Start (f : Field) : Type 0 where
  pub thirteen : length f.zones ≡ 13
  pub zones : T (every zone_at_start f.zones)
  pub sequence : T (sequence_at_start f.sequence)
  pub next : f.next ≡ right
  pub legal : T (legal_legs f.legs)

pub start_parts : (f : Field) → T (empty_start f) → Start f
unfolding empty_start
start_parts f t =
    let a = eqb (length f.zones) 13 in
    let b = every zone_at_start f.zones in
    let c = sequence_at_start f.sequence in
    let d = eqb f.next right in
    let four = and_l (a && b && c && d) (legal_legs f.legs) t in
    let three = and_l (a && b && c) d four in
    let two = and_l (a && b) c three in
    record {
      thirteen = eqb-true (length f.zones) 13 (passed (and_l a b two));
      zones = and_r a b two;
      sequence = and_r (a && b) c three;
      next = eqb-true f.next right (passed (and_r (a && b && c) d four));
      legal = and_r (a && b && c && d) (legal_legs f.legs) t;
    }

-- ---- zone by zone
zone_same : (q : Zone) → T (zone_at_start q) → SameZone q empty_zone
unfolding zone_kept queue_of
zone_same q t =
    let a = eqb q.length 0 in
    let b = eqb (length q.aircraft) 4 in
    let c = every is_nobody q.aircraft in
    let two = and_l (a && b) c t in
    let none : q.length ≡ 0 = eqb-true q.length 0 (passed (and_l a b two)) in
    let four : length q.aircraft ≡ 4 = eqb-true (length q.aircraft) 4 (passed (and_r a b two)) in
    record {
      one = record {
        shaped = record { places = four; fits = omega arith };
        kept =
            and_i (leb q.length 4) (every is_nobody (drop q.length q.aircraft)) (le→leb q.length 4 (omega arith))
            (subst (λ (n : ℕ). T (every is_nobody (drop n q.aircraft))) (sym none) (and_r (a && b) c t));
      };
      other = kept_empty;
      count = none;
      queue = ap (λ (n : ℕ). take n q.aircraft) none;
    }

empty_passes : T (zone_at_start empty_zone)
unfolding is_nobody eq of_int
empty_passes = tt

at_start : (zs : List Zone) → T (every zone_at_start zs) → (z : ℕ) → T (zone_at_start (get_or zs z empty_zone))
at_start [] t z = empty_passes
at_start (q ∷ zs) t zero = and_l (zone_at_start q) (every zone_at_start zs) t
at_start (q ∷ zs) t (suc z) = at_start zs (and_r (zone_at_start q) (every zone_at_start zs) t) z

none_there : (n z : ℕ) → get_or (replicate n empty_zone) z empty_zone ≡ empty_zone
none_there zero z = refl
none_there (suc n) zero = refl
none_there (suc n) (suc z) = none_there n z

-- ---- the sequence
all_zero : (ns : List ℕ) → length ns ≡ 4 → T (every (λ n. eqb n 0) ns) → ns ≡ replicate 4 0
all_zero ns e t = go 4 ns e t
  where
    go : (k : ℕ) (ns : List ℕ) → length ns ≡ k → T (every (λ n. eqb n 0) ns) → ns ≡ replicate k 0
    go zero [] e t = refl
    go zero (n ∷ ns) e t = absurd (omega (arith, e))
    go (suc k) [] e t = absurd (omega (arith, e))
    go (suc k) (n ∷ ns) e t =
        let here = eqb-true n 0 (passed (and_l (eqb n 0) (every (λ n. eqb n 0) ns) t)) in
        let rest = go k ns (omega (arith, e)) (and_r (eqb n 0) (every (λ n. eqb n 0) ns) t) in
        λ i. here i ∷ rest i

sequence_is : (s : Sequence) → T (sequence_at_start s) → ◌≡◌ {A = Sequence} s (record { numbers = replicate 4 0; length = 0 })
sequence_is s t =
    let a = eqb s.length 0 in
    let b = eqb (length s.numbers) 4 in
    let c = every (λ n. eqb n 0) s.numbers in
    let two = and_l (a && b) c t in
    let none : s.length ≡ 0 = eqb-true s.length 0 (passed (and_l a b two)) in
    let zeros = all_zero s.numbers (eqb-true (length s.numbers) 4 (passed (and_r a b two))) (and_r (a && b) c t) in
    λ i. record { numbers = zeros i; length = none i }

-- ---- the field

-- Whatever stands in its places, an empty field to start from has the queues of the empty field with its legs.
pub start_same : (f : Field) → T (empty_start f) → Same f (empty_field f.legs)
unfolding zone_of empty_field
start_same f t =
    let p = start_parts f t in
    record {
      zones = p.thirteen;
      zones_too = refl;
      zone =
          λ z.
          subst (SameZone (get_or (empty_zone ∷ f.zones) z empty_zone)) (sym (none_there 14 z))
          (zone_same (get_or (empty_zone ∷ f.zones) z empty_zone) (at_start (empty_zone ∷ f.zones) (and_i (zone_at_start empty_zone) (every zone_at_start f.zones) empty_passes p.zones) z));
      sequence = sequence_is f.sequence p.sequence;
      next = p.next;
      legs = refl;
    }

pub start_legal : (f : Field) → T (empty_start f) → T (legal_legs f.legs)
start_legal f t = (start_parts f t).legal

-- The empty field with legal legs is one to start from, ..
pub empty_starts : EmptyStarts
unfolding empty_start empty_field is_nobody eq of_int
empty_starts legs l = l

-- .. and so is the one with -0 at its places.
pub minus_zeros_start : MinusZerosStart
unfolding empty_start is_nobody eq neg of_int
minus_zeros_start legs l = l
