-- Laws of a tick: what it does to every queue, and that it keeps the bounds of any field within them (`within_ticked`, for change 2.6 of document 02).
-- Assumes nothing.
use mathlib.Core.Path.{◌≡◌, refl, sym, ap, ◌∙◌, subst, fun_ext}
use mathlib.Core.Logic.{◌⊎◌, inl, inr}
use mathlib.Core.Bool.{Bool, true, false, cond, not, ◌&&◌, true≢false}
use mathlib.Core.List.{List, [], ◌∷◌, map, map-map, map-id}
use Prim.Native.Nat.{ℕ, zero, suc}
use native.Mathlib.Numerals.{add-one}
use native.Mathlib.Omega.{arith}
use borrow.Author.Tests.{ltb-true, ltb-false}
use lib.Dec.{T, eqb, leb, ltb, lit<}
use lib.Ieee.{Float, eq}
use lib.Ieee.Fits.{and_i, and_l, and_r}
use lib.ListN.{length, get_or, take, drop, get_or-eq_default}
use Rattle.limits.specs.Limits.{longest_tick, longest_own_leg_miles}
use Rattle.leg.specs.Progress.{whole, progress_after, waited_with}
use Rattle.leg.specs.Ticks.{Between, flying}
use Rattle.leg.specs.declared.Progress.{Progress}
use Rattle.leg.specs.declared.Progress.TheVariants.{Waiting, Flying}
use Rattle.leg.proofs.ProgressLaws.{within_kept_up_to, waited_kept_up_to, flying_kept}
use Rattle.field.specs.declared.Aircraft.{Aircraft}
use Rattle.field.specs.declared.Zone.{Zone}
use Rattle.field.specs.declared.Legs.{Legs}
use Rattle.field.specs.declared.Field.{Field}
use Rattle.field.specs.Airspace.{is_side, everywhere, is_flying_zone, empty_zone, zone_of, queue_of, in_zone}
use Rattle.field.specs.Lists.{every}
use Rattle.bounds.specs.Bounds.{is_nobody, zone_kept, sequence_kept, bound_e, within_bounds}
use Rattle.fits.specs.Fits.{is_waiting, fits_zone, legal_legs, bound_g}
use Rattle.tick.specs.Tick.{ticked_aircraft, ticked_zone, ticked_from, ticked}
use Rattle.field.proofs.TestLaws.{pass, decided, either_way}
use Rattle.questions.proofs.NumbersListed.{number_of}
use Rattle.tick.proofs.Tick.{ticked_in, length_ticked, get_d_ticked}
use Rattle.laws.proofs.Alike.{fix_of_one, Alike, a_alike, b_alike, c_alike, d_alike, differ_alike, exact_alike, first_alike, f_alike}
use Rattle.laws.proofs.BoundLaws.{within_each, each_within}
use Rattle.laws.proofs.Fits.{fits_parts, fits_of, own_legal}

-- ---- lists

-- a part of a list of which each is made anew
module _ {A B : Type 0} (g : A → B) where
  take_map : (n : ℕ) (l : List A) → take n (map g l) ≡ map g (take n l)
  take_map zero l = refl
  take_map (suc n) [] = refl
  take_map (suc n) (x ∷ l) = ap (λ (r : List B). g x ∷ r) (take_map n l)

  drop_map : (n : ℕ) (l : List A) → drop n (map g l) ≡ map g (drop n l)
  drop_map zero l = refl
  drop_map (suc n) [] = refl
  drop_map (suc n) (x ∷ l) = drop_map n l

-- what g keeps of each element it keeps of each list
map_kept : {A B : Type 0} (part : A → B) (g : A → A) → ((a : A) → part (g a) ≡ part a) → (l : List A) → map part (map g l) ≡ map part l
map_kept {A} {B} part g h l = map-map part g l ∙ ap (λ (k : A → B). map k l) (fun_ext h)

every_kept : {A : Type 0} (p : A → Bool) (g : A → A) → ((a : A) → p (g a) ≡ p a) → (l : List A) → every p (map g l) ≡ every p l
every_kept p g h [] = refl
every_kept p g h (x ∷ l) = ap (λ (b : Bool). b && every p (map g l)) (h x) ∙ ap (λ (b : Bool). p x && b) (every_kept p g h l)

-- a test that follows from another, of each element
pub every_then : {A B : Type 0} (p : A → Bool) (q : B → Bool) (g : A → B) → ((a : A) → T (p a) → T (q (g a))) → (l : List A) → T (every p l) → T (every q (map g l))
every_then p q g h [] t = tt
every_then p q g h (x ∷ l) t = and_i (q (g x)) (every q (map g l)) (h x (and_l (p x) (every p l) t)) (every_then p q g h l (and_r (p x) (every p l) t))

-- ---- an aircraft of zone z after a tick

-- A tick makes nobody wait and nobody fly.
pub waiting_kept : (p : Progress) (speed amount : ℕ) (leg : Float) → is_waiting (progress_after p speed amount leg) ≡ is_waiting p
waiting_kept p speed amount leg = waits (progress_after p speed amount leg) ∙ ap not (flying_kept p speed amount leg) ∙ sym (waits p)
  where
    waits : (p : Progress) → is_waiting p ≡ not (flying p)
    waits Waiting = refl
    waits (Flying miles) = refl

-- the numbers of an aircraft are 0
abbrev zeros : Aircraft → Bool
zeros a = eqb a.number 0 && eqb a.fix 0 && eqb a.speed 0 && eqb a.desk 0

never : (b : Bool) → (b && false) ≡ false
never true = refl
never false = refl

abbrev pub ticked_at : ℕ → ℕ → Aircraft → Aircraft
ticked_at amount z a = cond (is_flying_zone z) (ticked_aircraft amount a) a

module _ (amount z : ℕ) where
  -- What a tick keeps of every aircraft that flies it keeps of each in the zone: ..
  tick_keeps {ℓ} : {B : Type ℓ} (part : Aircraft → B) → ((a : Aircraft) → part (ticked_aircraft amount a) ≡ part a) → (a : Aircraft) → part (ticked_at amount z a) ≡ part a
  tick_keeps part h a = either_way (λ x. part x ≡ part a) (is_flying_zone z) (ticked_aircraft amount a) a (λ e. h a) (λ e. refl)

  -- .. its number, ..
  pub number_kept : (a : Aircraft) → (ticked_at amount z a).number ≡ a.number
  unfolding ticked_aircraft
  number_kept = tick_keeps number_of (λ a. refl)

  -- .. its fix, ..
  pub fix_kept : (a : Aircraft) → (ticked_at amount z a).fix ≡ a.fix
  unfolding ticked_aircraft
  fix_kept = tick_keeps fix_of_one (λ a. refl)

  -- .. its desk, ..
  pub desk_kept : (a : Aircraft) → (ticked_at amount z a).desk ≡ a.desk
  unfolding ticked_aircraft
  desk_kept = tick_keeps (λ a. a.desk) (λ a. refl)

  -- .. and whether it is nobody.
  pub nobody_kept : (a : Aircraft) → is_nobody (ticked_at amount z a) ≡ is_nobody a
  unfolding is_nobody ticked_aircraft
  nobody_kept = tick_keeps is_nobody (λ a. go a a.progress a.leg)
    where
      -- where it waits nothing changes, and where it flies it is somebody before and after
      go : (a : Aircraft) (p : Progress) (leg : Float)
          → (zeros a && eq (waited_with p a.waited a.speed amount leg) (whole 0) && eq a.leg (whole 0)
          && is_waiting (progress_after p a.speed amount leg)) ≡ (zeros a && eq a.waited (whole 0) && eq a.leg (whole 0) && is_waiting p)
      go a Waiting leg = refl
      go a (Flying miles) leg =
          never (zeros a && eq (waited_with (Flying miles) a.waited a.speed amount leg) (whole 0) && eq a.leg (whole 0))
          ∙ sym (never (zeros a && eq a.waited (whole 0) && eq a.leg (whole 0)))

  -- ---- a zone after a tick
  empty_ticked : ticked_in amount z empty_zone ≡ empty_zone
  unfolding ticked_zone ticked_aircraft
  empty_ticked = either_way (λ q. q ≡ empty_zone) (is_flying_zone z) (ticked_zone amount empty_zone) empty_zone (λ e. refl) (λ e. refl)

  -- its places, one by one
  pub places_ticked : (q : Zone) → (ticked_in amount z q).aircraft ≡ map (ticked_at amount z) q.aircraft
  unfolding ticked_zone
  places_ticked q = go (is_flying_zone z)
    where
      go : (b : Bool) → (cond b (ticked_zone amount q) q).aircraft ≡ map (λ a. cond b (ticked_aircraft amount a) a) q.aircraft
      go true = refl
      go false = sym (map-id q.aircraft)

  pub length_kept : (q : Zone) → (ticked_in amount z q).length ≡ q.length
  unfolding ticked_zone
  length_kept q = either_way (λ r. r.length ≡ q.length) (is_flying_zone z) (ticked_zone amount q) q (λ e. refl) (λ e. refl)

  -- Its queue is that of before, each after a tick.
  pub queue_of_ticked : (q : Zone) → queue_of (ticked_in amount z q) ≡ map (ticked_at amount z) (queue_of q)
  unfolding queue_of
  queue_of_ticked q = rw (length_kept q, places_ticked q) (take_map (ticked_at amount z) q.length q.aircraft)

  -- Its length fits and its places past it are as said, exactly where they were.
  pub zone_kept_ticked : (q : Zone) → zone_kept (ticked_in amount z q) ≡ zone_kept q
  unfolding zone_kept
  zone_kept_ticked q =
      rw (length_kept q, places_ticked q)
      (ap (λ (b : Bool). leb q.length 4 && b)
      (ap (every is_nobody) (drop_map (ticked_at amount z) q.length q.aircraft) ∙ every_kept is_nobody (ticked_at amount z) nobody_kept (drop q.length q.aircraft)))

-- ---- the field after a tick
module _ (f : Field) (amount : ℕ) where
  -- Zone z after a tick; ..
  pub zone_ticked : (z : ℕ) → zone_of (ticked f amount) z ≡ ticked_in amount z (zone_of f z)
  unfolding zone_of ticked
  zone_ticked zero = sym (empty_ticked amount 0)
  zone_ticked (suc i) = go (decided (ltb i (length f.zones)))
    where
      go : (ltb i (length f.zones) ≡ true) ⊎ (ltb i (length f.zones) ≡ false) → zone_of (ticked f amount) (suc i) ≡ ticked_in amount (suc i) (zone_of f (suc i))
      go (inl e) =
          get_d_ticked amount 1 f.zones i empty_zone (ltb-true i (length f.zones) e)
          ∙ ap (λ (z : ℕ). ticked_in amount z (get_or f.zones i empty_zone)) (add-one i)
      go (inr e) =
          let past = ltb-false i (length f.zones) e in
          let long = length_ticked amount 1 f.zones in
          get_or-eq_default (ticked_from amount 1 f.zones) empty_zone (omega arith)
          ∙ sym (ap (ticked_in amount (suc i)) (get_or-eq_default f.zones empty_zone past) ∙ empty_ticked amount (suc i))

  -- .. and its queue, each after a tick.
  pub queue_ticked : (z : ℕ) → in_zone (ticked f amount) z ≡ map (ticked_at amount z) (in_zone f z)
  unfolding in_zone
  queue_ticked z = ap queue_of (zone_ticked z) ∙ queue_of_ticked amount z (zone_of f z)

  -- A tick changes no number, no fix, neither the sequence nor the next fix, ..
  pub alike_ticked : Alike (ticked f amount) f
  unfolding ticked
  alike_ticked =
      record {
        numbers = λ z. ap (map number_of) (queue_ticked z) ∙ map_kept number_of (ticked_at amount z) (number_kept amount z) (in_zone f z);
        fixes = λ z. ap (map fix_of_one) (queue_ticked z) ∙ map_kept fix_of_one (ticked_at amount z) (fix_kept amount z) (in_zone f z);
        sequence = refl;
        next = refl;
      }

  zones_kept_ticked : every (λ z. zone_kept (zone_of (ticked f amount) z)) everywhere ≡ every (λ z. zone_kept (zone_of f z)) everywhere
  zones_kept_ticked =
      ap (λ (p : ℕ → Bool). every p everywhere)
      (fun_ext (λ z. ap zone_kept (zone_ticked z) ∙ zone_kept_ticked amount z (zone_of f z)))

  -- .. nor bound e, ..
  pub e_ticked : bound_e (ticked f amount) ≡ bound_e f
  unfolding bound_e
  e_ticked =
      let a = differ_alike (ticked f amount) f alike_ticked in
      let b = exact_alike (ticked f amount) f alike_ticked in
      let c = first_alike (ticked f amount) f alike_ticked in
      let d = zones_kept_ticked in
      let e = ap sequence_kept alike_ticked.sequence in
      cc (a, b, c, d, e)

-- Who fits its zone fits it after a tick.
pub fits_ticked : (legs : Legs) (amount z : ℕ) → T (legal_legs legs) → Between 1 longest_tick amount → (a : Aircraft) → T (fits_zone legs z a) → T (fits_zone legs z (ticked_at amount z a))
unfolding ticked_aircraft
fits_ticked legs amount z l r a h = either_way (λ x. T (fits_zone legs z x)) (is_flying_zone z) (ticked_aircraft amount a) a flies (λ e. h)
  where
    flies : is_flying_zone z ≡ true → T (fits_zone legs z (ticked_aircraft amount a))
    flies e =
        let p = fits_parts legs z a h in
        let legal = own_legal legs l z (pass e) a.leg p.own in
        fits_of legs z (ticked_aircraft amount a)
        (record {
          side = p.side;
          speeds = p.speeds;
          desk = p.desk;
          waited = waited_kept_up_to longest_own_leg_miles (lit< tt) a.progress a.leg a.waited legal p.speeds r (p.along e) p.waited;
          own = p.own;
          flies = λ u. subst (λ (b : Bool). T (not b)) (sym (waiting_kept a.progress a.speed amount a.leg)) (p.flies u);
          along = λ u. within_kept_up_to longest_own_leg_miles (lit< tt) a.progress a.leg legal p.speeds r (p.along u);
          waits = λ u. absurd (true≢false (sym e ∙ u));
        })

-- Bound g is kept.
pub g_ticked : (f : Field) (amount : ℕ) → Between 1 longest_tick amount → T (bound_g f) → T (bound_g (ticked f amount))
unfolding bound_g ticked
g_ticked f amount r t =
    let legal = and_r (fit f && is_side f.next) (legal_legs f.legs) t in
    let rest = and_l (fit f && is_side f.next) (legal_legs f.legs) t in
    and_i (fit (ticked f amount) && is_side f.next) (legal_legs f.legs)
    (and_i (fit (ticked f amount)) (is_side f.next)
    (every_then (fit_in f) (fit_in (ticked f amount)) (λ z. z) (fit_ticked legal) everywhere (and_l (fit f) (is_side f.next) rest))
    (and_r (fit f) (is_side f.next) rest))
    legal
  where
    -- everyone in a zone fits it
    fit_in : Field → ℕ → Bool
    fit_in f z = every (fits_zone f.legs z) (in_zone f z)

    fit : Field → Bool
    fit f = every (fit_in f) everywhere

    fit_ticked : T (legal_legs f.legs) → (z : ℕ) → T (fit_in f z) → T (fit_in (ticked f amount) z)
    fit_ticked legal z u =
        subst (λ (l : List Aircraft). T (every (fits_zone f.legs z) l)) (sym (queue_ticked f amount z))
        (every_then (fits_zone f.legs z) (fits_zone f.legs z) (ticked_at amount z) (fits_ticked f.legs amount z legal r) (in_zone f z) u)

-- Advancing every flying aircraft by a tick of 1 to `longest_tick` keeps the bounds.
pub within_ticked : (f : Field) (amount : ℕ) → Between 1 longest_tick amount → T (within_bounds f) → T (within_bounds (ticked f amount))
within_ticked f amount r t =
    let w = within_each f t in
    let g = ticked f amount in
    let e = alike_ticked f amount in
    each_within g
    (record {
      bound_a_is = subst T (sym (a_alike g f e)) w.bound_a_is;
      bound_b_is = subst T (sym (b_alike g f e)) w.bound_b_is;
      bound_c_is = subst T (sym (c_alike g f e)) w.bound_c_is;
      bound_d_is = subst T (sym (d_alike g f e)) w.bound_d_is;
      bound_e_is = subst T (sym (e_ticked f amount)) w.bound_e_is;
      bound_f_is = subst T (sym (f_alike g f e)) w.bound_f_is;
      bound_g_is = g_ticked f amount r w.bound_g_is;
    })
