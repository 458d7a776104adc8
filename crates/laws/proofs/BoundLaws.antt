-- Laws of the bounds: the empty field, how many are present, and the numbers and the shape of a field within them. Assumes nothing.
use mathlib.Core.Path.{◌≡◌, refl}
use mathlib.Core.Bool.{not, ◌&&◌}
use Prim.Native.Nat.{ℕ, ◌≤◌}
use native.Mathlib.Omega.{arith}
use lib.Dec.{T, eqb, leb, leb→le}
use lib.Ieee.{eq, of_int}
use lib.Ieee.Fits.{and_i, and_l, and_r}
use lib.ListN.{length, drop}
use Rattle.leg.specs.Ticks.{Between}
use Rattle.field.specs.declared.Legs.{Legs}
use Rattle.field.specs.declared.Field.{Field}
use Rattle.field.specs.Airspace.{is_side, zone_of, queue_of, in_zone, order_of, empty_field, runway, everywhere}
use Rattle.questions.specs.Counts.{how_many, how_many_with_fix, present_on, in_operation, in_area, per_fix}
use Rattle.field.specs.Lists.{every, all_different}
use Rattle.bounds.specs.Bounds.{bound_a, bound_b, lateral_rule, bound_c, bound_d, final_first, is_nobody, zone_kept, sequence_kept, bound_e, bound_f, within_bounds}
use Rattle.fits.specs.Fits.{legal_legs, bound_g}
use Rattle.questions.specs.Find.{numbers_in}
use Rattle.numbers.specs.Numbers.{numbers_differ, sequence_exact}
use Rattle.laws.proofs.EditLaws.{Shaped, shaped_by_zones}
use Rattle.field.proofs.NumberLists.{every_listed, zone_listed}

-- The empty field is within the bounds exactly where its legs are legal.
pub empty_within : (legs : Legs) → within_bounds (empty_field legs) ≡ legal_legs legs
unfolding within_bounds bound_a bound_b bound_c bound_d bound_e bound_f bound_g lateral_rule numbers_differ sequence_exact final_first is_nobody zone_kept sequence_kept empty_field zone_of queue_of in_zone
    order_of is_side how_many how_many_with_fix present_on in_operation in_area per_fix eq of_int
empty_within legs = refl

-- The seven bounds, one by one: a field is within the bounds exactly where it is within each.
pub record Within (f : Field) : Type 0 where
  pub bound_a_is : T (bound_a f)
  pub bound_b_is : T (bound_b f)
  pub bound_c_is : T (bound_c f)
  pub bound_d_is : T (bound_d f)
  pub bound_e_is : T (bound_e f)
  pub bound_f_is : T (bound_f f)
  pub bound_g_is : T (bound_g f)

pub within_each : (f : Field) → T (within_bounds f) → Within f
unfolding within_bounds
within_each f w =
    let ab = bound_a f && bound_b f in
    let ac = ab && bound_c f in
    let ad = ac && bound_d f in
    let ae = ad && bound_e f in
    let af = ae && bound_f f in
    let v = and_l af (bound_g f) w in
    let u = and_l ae (bound_f f) v in
    let t = and_l ad (bound_e f) u in
    let s = and_l ac (bound_d f) t in
    let r = and_l ab (bound_c f) s in
    record {
      bound_a_is = and_l (bound_a f) (bound_b f) r;
      bound_b_is = and_r (bound_a f) (bound_b f) r;
      bound_c_is = and_r ab (bound_c f) s;
      bound_d_is = and_r ac (bound_d f) t;
      bound_e_is = and_r ad (bound_e f) u;
      bound_f_is = and_r ae (bound_f f) v;
      bound_g_is = and_r af (bound_g f) w;
    }

pub each_within : (f : Field) → Within f → T (within_bounds f)
unfolding within_bounds
each_within f w =
    let ab = bound_a f && bound_b f in
    let ac = ab && bound_c f in
    let ad = ac && bound_d f in
    let ae = ad && bound_e f in
    let af = ae && bound_f f in
    and_i af (bound_g f)
    (and_i ae (bound_f f)
    (and_i ad (bound_e f)
    (and_i ac (bound_d f)
    (and_i ab (bound_c f)
    (and_i (bound_a f) (bound_b f) w.bound_a_is w.bound_b_is)
    w.bound_c_is) w.bound_d_is) w.bound_e_is) w.bound_f_is) w.bound_g_is

-- A field within the bounds has at most five aircraft present.
pub five_present : (f : Field) → T (within_bounds f) → present_on f ≤ 5
unfolding bound_a present_on in_operation
five_present f w =
    let a = (within_each f w).bound_a_is in
    let four = leb→le (in_operation f) 4 (and_l (leb (in_operation f) 4) (leb (how_many f runway) 1) a) in
    let one = leb→le (how_many f runway) 1 (and_r (leb (in_operation f) 4) (leb (how_many f runway) 1) a) in
    omega arith

-- ---- the parts of bound e
pub record WithinE (f : Field) : Type 0 where
  pub differ : T (numbers_differ f)
  pub exact : T (sequence_exact f)
  pub first : T (final_first f)
  pub zones_kept : T (every (λ z. zone_kept (zone_of f z)) everywhere)
  pub sequence_kept_lem : T (sequence_kept f.sequence)

pub within_e : (f : Field) → T (within_bounds f) → WithinE f
unfolding bound_e
within_e f w =
    let two = numbers_differ f && sequence_exact f in
    let three = two && final_first f in
    let kept = every (λ z. zone_kept (zone_of f z)) everywhere in
    let e = (within_each f w).bound_e_is in
    let u = and_l (three && kept) (sequence_kept f.sequence) e in
    let t = and_l three kept u in
    let s = and_l two (final_first f) t in
    record {
      differ = and_l (numbers_differ f) (sequence_exact f) s;
      exact = and_r (numbers_differ f) (sequence_exact f) s;
      first = and_r two (final_first f) t;
      zones_kept = and_r three kept u;
      sequence_kept_lem = and_r (three && kept) (sequence_kept f.sequence) e;
    }

-- The numbers of a field within the bounds are all different.
pub numbers_different : (f : Field) → T (within_bounds f) → T (all_different (numbers_in f everywhere))
unfolding numbers_differ
numbers_different f w = and_r (every (λ n. not (eqb n 0)) (numbers_in f everywhere)) (all_different (numbers_in f everywhere)) (within_e f w).differ

-- Its lengths fit its arrays, which have their places whatever the field.
pub shaped_within : (f : Field) → T (within_bounds f) → length f.zones ≡ 13 → ((z : ℕ) → Between 1 13 z → length (zone_of f z).aircraft ≡ 4) → length f.sequence.numbers ≡ 4 → Shaped f
unfolding zone_kept sequence_kept
shaped_within f w zones places numbers =
    let s = f.sequence in
    shaped_by_zones f zones
    (λ z r.
    let q = zone_of f z in
    record {
      places = places z r;
      fits =
          leb→le q.length 4 (and_l (leb q.length 4) (every is_nobody (drop q.length q.aircraft))
          (every_listed (λ y. zone_kept (zone_of f y)) everywhere z (within_e f w).zones_kept (zone_listed z r)));
    })
    (record { places = numbers; fits = leb→le s.length 4 (and_l (leb s.length 4) (every (λ n. eqb n 0) (drop s.length s.numbers)) (within_e f w).sequence_kept_lem) })
