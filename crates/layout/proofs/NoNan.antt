-- Within the bounds no float is a NaN, so bytes that are a state within the bounds are its one encoding, but for what stands in kept fields that do not
-- count. Assumes nothing.
use mathlib.Core.Path.{◌≡◌, refl}
use mathlib.Core.Bool.{Bool, true, false, ◌&&◌, ◌||◌}
use mathlib.Core.List.{List, [], ◌∷◌}
use Prim.Native.Nat.{ℕ, zero, suc, ◌+◌, ◌<◌}
use native.Mathlib.Omega.{arith}
use lib.Dec.{T, eqb, leb}
use lib.Ieee.{Float, nan, inf, fin, lt, eq, le, is_nan}
use lib.Ieee.Fits.{and_l, and_r}
use lib.ListN.{length, drop, take}
use Rattle.leg.specs.declared.Progress.{Progress}
use Rattle.leg.specs.declared.Progress.TheVariants.{Waiting, Flying}
use Rattle.leg.specs.Progress.{whole, sixty_fourths, within_leg, legal_leg, leg_up_to}
use Rattle.leg.specs.Ticks.{Between}
use Rattle.limits.specs.Limits.{most_waited, longest_leg_miles, longest_own_leg_miles, most_kept}
use Rattle.field.specs.declared.Aircraft.{Aircraft}
use Rattle.field.specs.declared.Zone.{Zone}
use Rattle.field.specs.declared.Legs.{Legs}
use Rattle.field.specs.declared.Field.{Field}
use Rattle.field.specs.Airspace.{right, left, missed, everywhere, is_flying_zone, is_side, empty_zone, zone_of, queue_of, in_zone, leg_of}
use Rattle.field.specs.Lists.{every, Each}
use Rattle.field.proofs.NumberLists.{every_listed, zone_listed}
use Rattle.field.proofs.TestLaws.{either_way}
use Rattle.fits.specs.Fits.{is_waiting, leg_fits, fits_zone, legal_legs, bound_g}
use Rattle.bounds.specs.Bounds.{is_nobody, zone_kept, within_bounds}
use Rattle.finder.specs.declared.Indexed.{Indexed}
use Rattle.finder.specs.Finder.{index_of, same_index, within_bounds_indexed}
use Rattle.owners.proofs.EachOfList.{each_parts, each_places}
use Rattle.history.specs.declared.History.{History}
use Rattle.history.specs.History.{counted, kept_within_bounds, within_bounds_history}
use Rattle.laws.proofs.Fits.{Fits, fits_parts, all_fit}
use Rattle.laws.proofs.BoundLaws.{within_each, within_e}
use Rattle.layout.specs.Held.{NoNan, ProgressWith, AircraftWith, ZoneWith, LegsWith, FieldWith, IndexedWith, HistoryWith, HistoryNoNan}
use Rattle.layout.specs.Read.{several, aircraft_size, zone_size, field_size, state_size, read_aircraft, read_zone, read_sequence, read_field, read_indexed, read_history}
use Rattle.layout.specs.Written.{history_bytes}
use Rattle.layout.proofs.PartSizes.{Any}
use Rattle.layout.proofs.WriteBack.{write_back}

-- ---- a float that compares
at_least : (a x : Float) → T (le a x) → NoNan x
unfolding le lt eq is_nan
at_least a (inf s) t = tt
at_least a (fin s m e) t = tt
at_least nan nan t = t
at_least (inf s) nan t = t
at_least (fin s m e) nan t = t

equals : (x y : Float) → T (eq x y) → NoNan x
unfolding eq is_nan
equals nan y t = t
equals (inf s) y t = tt
equals (fin s m e) y t = tt

up_to : (most : ℕ) (x : Float) → T (leg_up_to most x) → NoNan x
up_to most x t = at_least (sixty_fourths 1) x (and_l (le (sixty_fourths 1) x) (le x (whole most)) t)

-- ---- an aircraft that fits its zone, and nobody
progress_no_nan : (p : Progress) (leg : Float) → T (within_leg p leg) → ProgressWith NoNan p
progress_no_nan Waiting leg t = tt
progress_no_nan (Flying miles) leg t = at_least (whole 0) miles (and_l (le (whole 0) miles) (le miles leg) t)

waiting_no_nan : (p : Progress) → T (is_waiting p) → ProgressWith NoNan p
waiting_no_nan Waiting t = tt
waiting_no_nan (Flying miles) t = absurd t

leg_no_nan : (legs : Legs) (z : ℕ) (leg : Float) → T (leg_fits legs z leg) → NoNan leg
unfolding leg_fits
leg_no_nan legs z leg =
    either_way (λ (b : Bool). T b → NoNan leg) (eqb z (missed right) || eqb z (missed left)) _ _ (λ e. up_to longest_own_leg_miles leg) (λ e. equals leg (leg_of legs z))

fitting_no_nan : (legs : Legs) (z : ℕ) (a : Aircraft) → T (fits_zone legs z a) → AircraftWith NoNan a
fitting_no_nan legs z a t =
    let p = fits_parts legs z a t in
    record {
      progress = flown (is_flying_zone z) refl p;
      waited = at_least (whole 0) a.waited (and_l (le (whole 0) a.waited) (le a.waited (whole most_waited)) p.waited);
      leg = leg_no_nan legs z a.leg p.own;
    }
  where
    flown : (b : Bool) → is_flying_zone z ≡ b → Fits legs z a → ProgressWith NoNan a.progress
    flown true e p = progress_no_nan a.progress a.leg (p.along e)
    flown false e p = waiting_no_nan a.progress (p.waits e)

nobody_no_nan : (a : Aircraft) → T (is_nobody a) → AircraftWith NoNan a
unfolding is_nobody
nobody_no_nan a t =
    let four = eqb a.number 0 && eqb a.fix 0 && eqb a.speed 0 && eqb a.desk 0 in
    let w = eq a.waited (whole 0) in
    let l = eq a.leg (whole 0) in
    let six = and_l (four && w && l) (is_waiting a.progress) t in
    record {
      progress = waiting_no_nan a.progress (and_r (four && w && l) (is_waiting a.progress) t);
      waited = equals a.waited (whole 0) (and_r four w (and_l (four && w) l six));
      leg = equals a.leg (whole 0) (and_r (four && w) l six);
    }

each_no_nan : (test : Aircraft → Bool) → ((a : Aircraft) → T (test a) → AircraftWith NoNan a) → (xs : List Aircraft) → T (every test xs) → Each (AircraftWith NoNan) xs
each_no_nan test one [] t = tt
each_no_nan test one (a ∷ xs) t = (one a (and_l (test a) (every test xs) t), each_no_nan test one xs (and_r (test a) (every test xs) t))

-- ---- a field within the bounds
module _ (f : Field) (w : T (within_bounds f)) where
  zone_no_nan : (z : ℕ) → Between 1 13 z → Each (AircraftWith NoNan) (zone_of f z).aircraft
  unfolding zone_kept in_zone queue_of
  zone_no_nan z b =
      let q = zone_of f z in
      let kept = every_listed (λ y. zone_kept (zone_of f y)) everywhere z (within_e f w).zones_kept (zone_listed z b) in
      each_parts (AircraftWith NoNan) q.length q.aircraft
      (each_no_nan (fits_zone f.legs z) (fitting_no_nan f.legs z) (in_zone f z) (all_fit f (within_each f w).bound_g_is z b.least b.most))
      (each_no_nan is_nobody nobody_no_nan (drop q.length q.aircraft) (and_r (leb q.length 4) (every is_nobody (drop q.length q.aircraft)) kept))

  legs_no_nan : LegsWith NoNan f.legs
  unfolding bound_g legal_legs
  legs_no_nan =
      let legs = f.legs in
      let m = legal_leg legs.missed in
      let b = legal_leg legs.base in
      let i = legal_leg legs.intermediate in
      let l = legal_leg legs.final_approach in
      let fit = every (λ z. every (fits_zone legs z) (in_zone f z)) everywhere in
      let t = and_r (fit && is_side f.next) (legal_legs legs) (within_each f w).bound_g_is in
      let three = and_l (m && b && i) l t in
      let two = and_l (m && b) i three in
      record {
        missed = up_to longest_leg_miles legs.missed (and_l m b two);
        base = up_to longest_leg_miles legs.base (and_r m b two);
        intermediate = up_to longest_leg_miles legs.intermediate (and_r (m && b) i three);
        final_leg = up_to longest_leg_miles legs.final_approach (and_r (m && b && i) l t);
      }

-- the four places of each zone, with what stands there
with_places : (zs : List Zone) → Each (ZoneWith Any) zs → Each (λ (z : Zone). Each (AircraftWith NoNan) z.aircraft) zs → Each (ZoneWith NoNan) zs
with_places [] p q = tt
with_places (z ∷ zs) p q = (record { places = p.0.places; aircraft = q.0 }, with_places zs p.1 q.1)

field_no_nan : (f : Field) → T (within_bounds f) → FieldWith Any f → FieldWith NoNan f
unfolding zone_of
field_no_nan f w p =
    let long = p.places in
    record {
      places = long;
      zones =
          with_places f.zones p.zones
          (each_places (λ (z : Zone). Each (AircraftWith NoNan) z.aircraft) f.zones empty_zone
          (λ i k. zone_no_nan f w (suc i) (record { least = omega arith; most = omega (arith, long, k) })));
      numbers = p.numbers;
      legs = legs_no_nan f w;
    }

indexed_no_nan : (x : Indexed) → IndexedWith Any x → T (within_bounds_indexed x) → IndexedWith NoNan x
unfolding within_bounds_indexed
indexed_no_nan x p t = record { field = field_no_nan x.field (and_l (within_bounds x.field) (same_index x.index (index_of x.field)) t) p.field; entries = p.entries }

-- ---- a history within the bounds: the kept fields that count, and what the others have
kept_no_nan : (xs : List Indexed) (n : ℕ) → Each (IndexedWith Any) xs → T (every within_bounds_indexed (take n xs)) → Each (IndexedWith NoNan) (take n xs)
kept_no_nan xs zero p t = tt
kept_no_nan [] (suc n) p t = tt
kept_no_nan (x ∷ xs) (suc n) p t =
    let here = within_bounds_indexed x in
    (indexed_no_nan x p.0 (and_l here (every within_bounds_indexed (take n xs)) t), kept_no_nan xs n p.1 (and_r here (every within_bounds_indexed (take n xs)) t))

history_no_nan : (h : History) → HistoryWith Any h → T (within_bounds_history h) → Each (IndexedWith NoNan) (drop h.count h.kept) → HistoryNoNan h
unfolding within_bounds_history kept_within_bounds
history_no_nan h p t past =
    let few = leb h.count most_kept in
    let each = every within_bounds_indexed (counted h) in
    record {
      now = indexed_no_nan h.now p.now (and_r (few && each) (within_bounds_indexed h.now) t);
      places = p.places;
      kept = each_parts (IndexedWith NoNan) h.count h.kept (kept_no_nan h.kept h.count p.kept (and_r few each (and_l (few && each) (within_bounds_indexed h.now) t))) past;
    }

-- ---- what is read has its places
each_several : {A : Type 0} (P : A → Type 0) (read : ℕ → A) (size : ℕ) → ((at : ℕ) → P (read at)) → (n at : ℕ) → Each P (several read size n at)
each_several P read size one zero at = tt
each_several P read size one (suc n) at = (one at, each_several P read size one n (at + size))

module _ (b : List ℕ) where
  aircraft_read : (at : ℕ) → AircraftWith Any (read_aircraft b at)
  aircraft_read at = record { progress = any (read_aircraft b at).progress; waited = tt; leg = tt }
    where
      any : (p : Progress) → ProgressWith Any p
      any Waiting = tt
      any (Flying miles) = tt

  zone_read : (at : ℕ) → ZoneWith Any (read_zone b at)
  unfolding read_zone
  zone_read at = record { places = refl; aircraft = each_several (AircraftWith Any) (read_aircraft b) aircraft_size aircraft_read 4 at }

  indexed_read : (at : ℕ) → IndexedWith Any (read_indexed b at)
  unfolding read_indexed read_field read_sequence
  indexed_read at = record {
    field = record {
      places = refl;
      zones = each_several (ZoneWith Any) (read_zone b) zone_size zone_read 13 at;
      numbers = refl;
      legs = record { missed = tt; base = tt; intermediate = tt; final_leg = tt };
    };
    entries = refl;
  }

  state_read : HistoryWith Any (read_history b)
  unfolding read_history
  state_read = record { now = indexed_read 0; places = refl; kept = each_several (IndexedWith Any) (read_indexed b) field_size indexed_read most_kept field_size }

-- bytes that are a state within the bounds are what is written of it, where no kept field that does not count has a NaN
pub write_back_within : (b : List ℕ) → Each (λ (x : ℕ). x < 256) b → length b ≡ state_size → T (within_bounds_history (read_history b))
    → Each (IndexedWith NoNan) (drop (read_history b).count (read_history b).kept) → history_bytes (read_history b) ≡ b
write_back_within b bytes long t past = write_back b bytes long (history_no_nan (read_history b) (state_read b) t past)
