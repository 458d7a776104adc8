-- What is kept of one aircraft and its flight by a tick and by each way to come to a zone: the account of its leg, of its miles and of its miles waited. Assumes nothing.
use mathlib.Core.Path.{◌≡◌, refl, sym, ap, ◌∙◌, subst}
use mathlib.Core.Bool.{Bool, true, false, cond, ◌&&◌, ◌||◌, false≢true}
use Prim.Native.Nat.{ℕ, ◌+◌, ◌-◌, ◌*◌, min}
use native.Mathlib.Nat.{add_assoc, mul-add, mul-zero}
use native.Mathlib.Omega.{arith}
use lib.Dec.{T, eqb, leb, leb→le, le→leb}
use lib.Ieee.{Float, of_int}
use lib.Ieee.Fits.{and_i, and_l, and_r}
use Rattle.limits.specs.Limits.{longest_tick, longest_leg, longest_own_leg_miles}
use Rattle.leg.specs.Progress.{whole, sixty_fourths, progress_after, waited_with, leg_after_miss, legal_leg}
use Rattle.leg.specs.Ticks.{Between, Exactly, LegIn4096ths, FlownExactly}
use Rattle.leg.specs.declared.Progress.{Progress}
use Rattle.leg.specs.declared.Progress.TheVariants.{Flying}
use Rattle.leg.proofs.ProgressLaws.{zero_exact, sixty_fourths_in_4096ths, sixty_fourths_legal, one_tick_exact_in_4096ths, one_tick_waited_in_4096ths, leg_after_miss_exact}
use Rattle.request.specs.Input.{within}
use Rattle.request.specs.declared.Request.{Request}
use Rattle.field.specs.declared.Aircraft.{Aircraft}
use Rattle.field.specs.Airspace.{right, left, missed, final_approach_zone, is_flying_zone, leg_of, progress_into}
use Rattle.fits.specs.Fits.{fits_zone, legal_legs}
use Rattle.tick.specs.Tick.{ticked_aircraft}
use Rattle.demand.specs.Exact.{WholeLegs, in_miles, zone_leg_in64ths, zone_leg_in4096ths, past_in, most_in4096ths, Flight, ticking, entry, past_so_far, onward, after_miss, Account}
use Rattle.field.proofs.TestLaws.{pass, passed, if_true, if_false, either_way, each_zone}
use Rattle.field.proofs.ArrivalLaws.{progress_by, leg_not_flown}
use Rattle.laws.proofs.Fits.{fits_parts, missed_flown}
use Rattle.laws.proofs.TickLaws.{ticked_at}
use Rattle.line.proofs.Line.{Placed}
use Rattle.moves.proofs.Carried.{Onward, Turned, WentAlong}

-- what holds of each of the thirteen zones, one after the other
each_of_thirteen : (P : ℕ → Type 0) → P 1 × P 2 × P 3 × P 4 × P 5 × P 6 × P 7 × P 8 × P 9 × P 10 × P 11 × P 12 × P 13 → (z : ℕ) → T (within 1 13 z) → P z
each_of_thirteen P (p1, p2, p3, p4, p5, p6, p7, p8, p9, p10, p11, p12, p13) =
    each_zone P (p1, (p2, (p3, (p4, (p5, (p6, (p7, (p8, (p9, (p10, (p11, (p12, (p13, tt)))))))))))))

-- ---- legs
leg_fits_lem : (w : WholeLegs) (z : ℕ) → T (within 1 13 z) → Between 1 longest_leg (zone_leg_in64ths w z)
leg_fits_lem w =
    each_of_thirteen (λ (z : ℕ). Between 1 longest_leg (zone_leg_in64ths w z)) (
      w.final_fits,
      w.final_fits,
      w.final_fits,
      w.final_fits,
      w.final_fits,
      w.final_fits,
      w.missed_fits,
      w.missed_fits,
      w.base_fits,
      w.base_fits,
      w.intermediate_fits,
      w.final_fits,
      w.final_fits,
    )

pub legs_legal : (w : WholeLegs) → T (legal_legs (in_miles w))
unfolding legal_legs
legs_legal w =
    let m = legal_leg (sixty_fourths w.missed_leg) in
    let b = legal_leg (sixty_fourths w.base_leg) in
    let i = legal_leg (sixty_fourths w.intermediate_leg) in
    let f = legal_leg (sixty_fourths w.final_leg) in
    and_i (m && b && i) f (and_i (m && b) i (and_i m b (sixty_fourths_legal w.missed_leg w.missed_fits) (sixty_fourths_legal w.base_leg w.base_fits))
    (sixty_fourths_legal w.intermediate_leg w.intermediate_fits)) (sixty_fourths_legal w.final_leg w.final_fits)

-- final is flown in
flown_final : (z : ℕ) → z ≡ final_approach_zone → T (is_flying_zone z)
unfolding is_flying_zone
flown_final z e = subst (λ (y : ℕ). T (is_flying_zone y)) (sym e) tt

-- a flying zone is one of 7 to 12
zone_13 : (z : ℕ) → T (is_flying_zone z) → T (within 1 13 z)
unfolding is_flying_zone
zone_13 z t =
    let l = leb→le 7 z (and_l (leb 7 z) (leb z 12) t) in
    let h = leb→le z 12 (and_r (leb 7 z) (leb z 12) t) in
    and_i (leb 1 z) (leb z 13) (le→leb 1 z (omega arith)) (le→leb z 13 (omega arith))

-- the leg of a zone in 4096ths is exact
flown_exact : (w : WholeLegs) (z : ℕ) → T (within 1 13 z) → T (is_flying_zone z) → Exactly (leg_of (in_miles w) z) (64 * zone_leg_in64ths w z)
unfolding is_flying_zone leg_of
flown_exact w =
    let m = (sixty_fourths_in_4096ths w.missed_leg w.missed_fits).exact in
    let b = (sixty_fourths_in_4096ths w.base_leg w.base_fits).exact in
    let i = (sixty_fourths_in_4096ths w.intermediate_leg w.intermediate_fits).exact in
    let f = (sixty_fourths_in_4096ths w.final_leg w.final_fits).exact in
    each_of_thirteen (λ (z : ℕ). T (is_flying_zone z) → Exactly (leg_of (in_miles w) z) (64 * zone_leg_in64ths w z))
    ((λ u. absurd u), (λ u. absurd u), (λ u. absurd u), (λ u. absurd u), (λ u. absurd u), (λ u. absurd u), (λ u. m), (λ u. m), (λ u. b), (λ u. b), (λ u. i), (λ u. f), (λ u. absurd u))

zone_leg_exact : (w : WholeLegs) (z : ℕ) → Exactly (leg_of (in_miles w) z) (zone_leg_in4096ths w z)
unfolding of_int
zone_leg_exact w z =
    either_way (λ (n : ℕ). Exactly (leg_of (in_miles w) z) n) (is_flying_zone z) (64 * zone_leg_in64ths w z) 0 (λ e. flown_exact w z (zone_13 z (pass e)) (pass e))
    (λ e. subst (λ (x : Float). Exactly x 0) (sym (leg_not_flown (in_miles w) z e)) (refl, refl))

-- what is known of an own leg of n / 4096 miles in zone z
pub record LegKnown (w : WholeLegs) (z n : ℕ) : Type 0 where
  pub range : T (is_flying_zone z) → Between 1 (4096 * longest_own_leg_miles) n
  pub none : is_flying_zone z ≡ false → n ≡ 0
  pub all_of_final : z ≡ final_approach_zone → n ≡ 64 * w.final_leg

zone_leg_known : (w : WholeLegs) (z : ℕ) → LegKnown w z (zone_leg_in4096ths w z)
unfolding is_flying_zone
zone_leg_known w z =
    record {
      range =
          λ u.
          let r = leg_fits_lem w z (zone_13 z u) in
          let low = r.least in
          let high = r.most in
          let range : Between 1 (4096 * longest_own_leg_miles) (64 * zone_leg_in64ths w z) = record { least = omega arith; most = omega arith } in
          subst (Between 1 (4096 * longest_own_leg_miles)) (sym (if_true (64 * zone_leg_in64ths w z) 0 (passed {b = is_flying_zone z} u))) range;
      none = λ e. if_false (64 * zone_leg_in64ths w z) 0 e;
      all_of_final = λ e. ap (zone_leg_in4096ths w) e;
    }

-- ---- what is past the end of a leg
past_flying : (z k n : ℕ) → is_flying_zone z ≡ true → past_in z k n ≡ n - k
past_flying z k n e = if_true (n - k) 0 e

past_waiting : (z k n : ℕ) → is_flying_zone z ≡ false → past_in z k n ≡ 0
past_waiting z k n e = if_false (n - k) 0 e

past_none : (z k : ℕ) → past_in z k 0 ≡ 0
past_none z k = either_way (λ (n : ℕ). n ≡ 0) (is_flying_zone z) (0 - k) 0 (λ e. let h : 0 - k ≡ 0 = omega arith in h) (λ e. refl)

-- ---- what is kept of an aircraft in zone z: its account, its leg, and a zone of its flight that is flown in where z is
pub record Known (w : WholeLegs) (s : Flight) (z : ℕ) (a : Aircraft) : Type 0 where
  pub account : Account s z a
  pub own_leg : LegKnown w z s.leg
  pub same_flown : is_flying_zone s.zone ≡ is_flying_zone z

-- ---- a tick
joined : (k s t a : ℕ) → min k (min k (s * t) + s * a) ≡ min k (s * (t + a))
joined k s t a = let h = mul-add s t a in omega arith

-- what a sum exceeds k by, in two parts
in_two : (k x y : ℕ) → x - k + (min k x + y - k) ≡ x + y - k
in_two k x y = omega arith

stopped : (m x y : ℕ) → min m (min m x + y) ≡ min m (x + y)
stopped m x y = omega arith

joined_past : (m b k s t a : ℕ) → min m (min m (b + (s * t - k)) + (min k (s * t) + s * a - k)) ≡ min m (b + (s * (t + a) - k))
joined_past m b k s t a =
    stopped m (b + (s * t - k)) (min k (s * t) + s * a - k)
    ∙ ap (min m) (add_assoc b (s * t - k) (min k (s * t) + s * a - k) ∙ ap (λ (n : ℕ). b + n) (in_two k (s * t) (s * a) ∙ ap (λ (n : ℕ). n - k) (sym (mul-add s t a))))

-- a tick adds nothing in a zone that is not flown in
pub known_waiting : {w : WholeLegs} {s : Flight} {z : ℕ} {a : Aircraft} (amount : ℕ) → is_flying_zone z ≡ false → Known w s z a → Known w (ticking s amount) z a
known_waiting {s = s} {z} {a} amount e p =
    record {
      account = record {
        speed = p.account.speed;
        leg = p.account.leg;
        miles = λ u. absurd (false≢true (sym e ∙ passed {b = is_flying_zone z} u));
        waited =
            subst (λ (n : ℕ). Exactly a.waited (min most_in4096ths (s.before + n)))
            (past_waiting z s.leg (a.speed * s.ticks) e ∙ sym (past_waiting z s.leg (a.speed * (s.ticks + amount)) e)) p.account.waited;
      };
      own_leg = p.own_leg;
      same_flown = p.same_flown;
    }

module _ {w : WholeLegs} {amount : ℕ} {s : Flight} {z : ℕ} {a : Aircraft} (fits : Between 1 longest_tick amount) (fit : T (fits_zone (in_miles w) z a)) (p : Known w s z a) where
  module _ (e : is_flying_zone z ≡ true) where
    abbrev k : ℕ
    k = s.leg

    abbrev v : ℕ
    v = a.speed

    -- its own leg, as the laws of a tick ask for it
    long : LegIn4096ths a.leg k
    long = let range = p.own_leg.range (pass e) in record { exact = p.account.leg; some = omega arith; few = omega arith }

    -- its miles with the tick's
    miles_more : FlownExactly (progress_after a.progress v amount a.leg) (min k (v * (s.ticks + amount)))
    miles_more =
        subst (FlownExactly (progress_after a.progress v amount a.leg)) (joined k v s.ticks amount)
        (one_tick_exact_in_4096ths a.progress a.leg k (min k (v * s.ticks)) long (fits_parts (in_miles w) z a fit).speeds fits (p.account.miles (pass e)))

    -- its miles waited with the tick's
    waited_more : Exactly (waited_with a.progress a.waited v amount a.leg) (min most_in4096ths (s.before + past_in z k (v * (s.ticks + amount))))
    waited_more =
        let range = p.own_leg.range (pass e) in
        let so_far = min most_in4096ths (s.before + (v * s.ticks - k)) in
        let before : Exactly a.waited so_far = subst (λ (n : ℕ). Exactly a.waited (min most_in4096ths (s.before + n))) (past_flying z k (v * s.ticks) e) p.account.waited in
        subst (Exactly (waited_with a.progress a.waited v amount a.leg))
        (joined_past most_in4096ths s.before k v s.ticks amount ∙ ap (λ (n : ℕ). min most_in4096ths (s.before + n)) (sym (past_flying z k (v * (s.ticks + amount)) e)))
        (one_tick_waited_in_4096ths a.progress a.leg a.waited k (min k (v * s.ticks)) so_far long (fits_parts (in_miles w) z a fit).speeds fits (omega arith)
        (p.account.miles (pass e)) before)

    -- so its account is kept
    flies : Known w (ticking s amount) z (ticked_aircraft amount a)
    unfolding ticked_aircraft
    flies = record { account = record { speed = p.account.speed; leg = p.account.leg; miles = λ u. miles_more; waited = waited_more }; own_leg = p.own_leg; same_flown = p.same_flown }

  -- in its zone after a tick
  pub known_ticked : Known w (ticking s amount) z (ticked_at amount z a)
  known_ticked = either_way (λ (x : Aircraft). Known w (ticking s amount) z x) (is_flying_zone z) (ticked_aircraft amount a) a flies (λ e. known_waiting amount e p)

-- ---- any other accepted request: a leg begins at 0 miles
begun : (k z : ℕ) (a : Aircraft) → a.progress ≡ progress_into z → T (is_flying_zone z) → FlownExactly a.progress (min k (a.speed * 0))
begun k z a h u =
    let p : a.progress ≡ Flying (whole 0) = h ∙ progress_by z (passed {b = is_flying_zone z} u) in
    let n : 0 ≡ min k (a.speed * 0) = let m = mul-zero a.speed in omega arith in
    subst (λ (q : Progress). FlownExactly q (min k (a.speed * 0))) (sym p) (subst (FlownExactly (Flying (whole 0))) n zero_exact)

-- nothing more is past the end yet
none_yet : (z k v n : ℕ) → n ≡ n + past_in z k (v * 0)
none_yet z k v n = let h : past_in z k (v * 0) ≡ 0 = ap (past_in z k) (mul-zero v) ∙ past_none z k in omega arith

-- e has come into another zone, as g, with its speed and its miles waited
record Arrived (e g : Placed) : Type 0 where
  speed : g.aircraft.speed ≡ e.aircraft.speed
  waited : g.aircraft.waited ≡ e.aircraft.waited
  begins : g.aircraft.progress ≡ progress_into g.zone

module _ {w : WholeLegs} {s : Flight} {e g : Placed} (p : Known w s e.zone e.aircraft) (i : Arrived e g) where
  -- what it has flown past the ends, by the field and by its flight
  so_far : s.before + past_in e.zone s.leg (e.aircraft.speed * s.ticks) ≡ past_so_far s
  so_far =
      ap (λ (b : Bool). s.before + cond b (e.aircraft.speed * s.ticks - s.leg) 0) (sym p.same_flown)
      ∙ ap (λ (v : ℕ). s.before + past_in s.zone s.leg (v * s.ticks)) p.account.speed

  -- with a leg of k / 4096 miles that begins: what its leg before gave is added up
  known_into : {zone k : ℕ} → zone ≡ g.zone → Exactly g.aircraft.leg k → LegKnown w g.zone k
      → Known w (record { speed = s.speed; zone = zone; leg = k; ticks = 0; before = past_so_far s }) g.zone g.aircraft
  known_into {zone} {k} there exact own =
      record {
        account = record {
          speed = i.speed ∙ p.account.speed;
          leg = exact;
          miles = λ u. begun k g.zone g.aircraft i.begins u;
          waited =
              subst (λ (x : Float). Exactly x (min most_in4096ths (past_so_far s + past_in g.zone k (g.aircraft.speed * 0)))) (sym i.waited)
              (subst (λ (n : ℕ). Exactly e.aircraft.waited (min most_in4096ths n)) (so_far ∙ none_yet g.zone k g.aircraft.speed (past_so_far s)) p.account.waited);
        };
        own_leg = own;
        same_flown = ap is_flying_zone there;
      }

-- one that has gone on, with the leg of the zone that it has come to
pub known_onward : {w : WholeLegs} {s : Flight} {zone : ℕ} {e g : Placed} → Known w s e.zone e.aircraft → Onward (in_miles w) e g → zone ≡ g.zone
    → Known w (onward w s zone) g.zone g.aircraft
known_onward {w} {g = g} p on h =
    known_into p (record { speed = on.same_speed; waited = on.same_waited; begins = on.begins }) h
    (subst (λ (y : ℕ). Exactly g.aircraft.leg (zone_leg_in4096ths w y)) (sym h) (subst (λ (x : Float). Exactly x (zone_leg_in4096ths w g.zone)) (sym on.leg_is) (zone_leg_exact w g.zone)))
    (subst (λ (y : ℕ). LegKnown w g.zone (zone_leg_in4096ths w y)) (sym h) (zone_leg_known w g.zone))

-- one that has missed its approach: what was left of final, ..
left_of : (j k x : ℕ) → j + (k - min k x) ≡ j + (k - x)
left_of j k x = omega arith

module _ {w : WholeLegs} {s : Flight} {e g : Placed} (p : Known w s e.zone e.aircraft) (on : Turned (in_miles w) e g) where
  -- on final its own leg was all of final
  all_of : s.leg ≡ 64 * w.final_leg
  all_of = p.own_leg.all_of_final on.from_final

  -- .. and the missed leg are its leg, exactly, ..
  leg_turned : Exactly g.aircraft.leg (64 * w.missed_leg + (s.leg - s.speed * s.ticks))
  leg_turned =
      let j = 64 * w.missed_leg in
      let k = s.leg in
      let v = e.aircraft.speed in
      let whole-final = all_of in
      let ahead : Exactly (leg_after_miss (sixty_fourths w.missed_leg) e.aircraft.progress e.aircraft.leg) (j + (k - min k (v * s.ticks))) =
      leg_after_miss_exact (sixty_fourths w.missed_leg) e.aircraft.leg e.aircraft.progress j k (min k (v * s.ticks)) (sixty_fourths_in_4096ths w.missed_leg w.missed_fits).exact
      p.account.leg (p.account.miles (flown_final e.zone on.from_final)) (omega arith) (omega arith) in
      subst (Exactly g.aircraft.leg) (left_of j k (v * s.ticks) ∙ ap (λ (x : ℕ). j + (k - x * s.ticks)) p.account.speed)
      (subst (λ (x : Float). Exactly x (j + (k - min k (v * s.ticks)))) (sym on.leg_ahead) ahead)

  -- .. within the range of an own leg.
  own_turned : LegKnown w g.zone (64 * w.missed_leg + (s.leg - s.speed * s.ticks))
  own_turned =
      let whole-final = all_of in
      record {
        range = λ u. record { least = omega arith; most = omega arith };
        none = λ z. absurd (false≢true (sym z ∙ passed {b = is_flying_zone g.zone} (missed_flown g.zone on.to_missed)));
        all_of_final = λ z. absurd (false≢true (ap (λ (y : ℕ). eqb y (missed right) || eqb y (missed left)) (sym z) ∙ on.to_missed));
      }

  pub known_turned : {zone : ℕ} → zone ≡ g.zone → Known w (after_miss w s zone) g.zone g.aircraft
  known_turned h = known_into p (record { speed = on.turned_speed; waited = on.turned_waited; begins = on.begins_anew }) h leg_turned own_turned

-- one that has gone along from a zone that is not flown in to another
pub known_along : {w : WholeLegs} {s : Flight} {r : Request} {e g : Placed} → Known w s e.zone e.aircraft → WentAlong (in_miles w) r e g → Known w s g.zone g.aircraft
unfolding of_int
known_along {w} {s} {r} {e} {g} p along =
    let on = along.onward in
    let i = along.waited_before in
    let j = along.waits_after in
    let same : past_in e.zone s.leg (e.aircraft.speed * s.ticks) ≡ past_in g.zone s.leg (g.aircraft.speed * s.ticks) =
    past_waiting e.zone s.leg (e.aircraft.speed * s.ticks) i ∙ sym (past_waiting g.zone s.leg (g.aircraft.speed * s.ticks) j) in
    let none : s.leg ≡ 0 = p.own_leg.none i in
    record {
      account = record {
        speed = on.same_speed ∙ p.account.speed;
        leg = subst (λ (x : Float). Exactly x s.leg) (sym (on.leg_is ∙ leg_not_flown (in_miles w) g.zone j)) (subst (Exactly (whole 0)) (sym none) (refl, refl));
        miles = λ u. absurd (false≢true (sym j ∙ passed {b = is_flying_zone g.zone} u));
        waited =
            subst (λ (x : Float). Exactly x (min most_in4096ths (s.before + past_in g.zone s.leg (g.aircraft.speed * s.ticks))))
            (sym on.same_waited) (subst (λ (n : ℕ). Exactly e.aircraft.waited (min most_in4096ths (s.before + n))) same p.account.waited);
      };
      own_leg = record { range = λ u. absurd (false≢true (sym j ∙ passed {b = is_flying_zone g.zone} u)); none = λ z. none; all_of_final = λ z. absurd (final_flown z) };
      same_flown = p.same_flown ∙ i ∙ sym j;
    }
  where
    final_flown : g.zone ≡ final_approach_zone → ⊥
    final_flown z = false≢true (sym along.waits_after ∙ passed {b = is_flying_zone g.zone} (flown_final g.zone z))

-- one that has entered
pub known_entry : {w : WholeLegs} {speed zone z : ℕ} {a : Aircraft} → a.speed ≡ speed → a.waited ≡ whole 0 → a.leg ≡ whole 0 → is_flying_zone z ≡ false → zone ≡ z → Known w (entry speed zone) z a
unfolding of_int
known_entry {z = z} {a} v x l j h =
    record {
      account = record {
        speed = v;
        leg = subst (λ (y : Float). Exactly y 0) (sym l) (refl, refl);
        miles = λ u. absurd (false≢true (sym j ∙ passed {b = is_flying_zone z} u));
        waited =
            subst (λ (y : Float). Exactly y (min most_in4096ths (0 + past_in z 0 (a.speed * 0)))) (sym x)
            (subst (λ (n : ℕ). Exactly (whole 0) (min most_in4096ths n)) (none_yet z 0 a.speed 0) (refl, refl));
      };
      own_leg =
          record {
            range = λ u. absurd (false≢true (sym j ∙ passed {b = is_flying_zone z} u));
            none = λ e. refl;
            all_of_final = λ e. absurd (false≢true (sym j ∙ passed {b = is_flying_zone z} (flown_final z e)));
          };
      same_flown = ap is_flying_zone h;
    }
