-- An aircraft that fits its zone, part by part; and the aircraft that requests make: one that enters, one that arrives in a zone, one that misses,
-- and one with another fix. Assumes nothing.
use mathlib.Core.Path.{◌≡◌, refl, sym, ◌∙◌, subst}
use mathlib.Core.Logic.{◌⊎◌, inl, inr}
use mathlib.Core.Bool.{Bool, true, false, cond, not, ◌&&◌, ◌||◌, true≢false}
use Prim.Native.Nat.{ℕ, ◌≤◌}
use native.Mathlib.Omega.{arith}
use borrow.Author.Tests.{eqb-true}
use lib.Dec.{T, eqb, leb, leb→le, le→leb, lit<}
use lib.Ieee.{Float, eq, of_int}
use lib.Ieee.Fits.{and_i, and_l, and_r}
use Rattle.limits.specs.Limits.{fastest, longest_own_leg_miles, desks}
use Rattle.leg.specs.Progress.{whole, waited_within, legal_leg, legal_leg_after_miss, leg_after_miss, within_leg}
use Rattle.leg.specs.Ticks.{Between}
use Rattle.leg.specs.declared.Progress.{Progress}
use Rattle.leg.specs.declared.Progress.TheVariants.{Flying}
use Rattle.leg.proofs.ProgressLaws.{zero_within_up_to, zero_waited, leg_after_miss_legal}
use Rattle.leg.proofs.Missed.{equal_legal, equal_self, longer_legal}
use Rattle.field.specs.declared.Aircraft.{Aircraft}
use Rattle.field.specs.declared.Legs.{Legs}
use Rattle.field.specs.declared.Field.{Field}
use Rattle.field.specs.Lists.{every}
use Rattle.field.specs.Airspace.{right, left, missed, final_approach_zone, everywhere, in_zone, is_side, is_flying_zone, leg_of, entering, arrived, arrived_by_miss, given_fix}
use Rattle.fits.specs.Fits.{is_waiting, leg_fits, fits_zone, legal_legs, bound_g}
use Rattle.field.proofs.ArrivalLaws.{progress_by, leg_not_flown, Into, into_arrived, into_arrived_by_miss}
use Rattle.field.proofs.TestParts.{or_else}
use Rattle.field.proofs.TestLaws.{pass, passed, decided, if_true, if_false, either_way, each_from, every_from}

-- ---- an aircraft that fits its zone

-- What bound g asks of an aircraft in zone z.
pub record Fits (legs : Legs) (z : ℕ) (a : Aircraft) : Type 0 where
  pub side : T (is_side a.fix)
  pub speeds : Between 1 fastest a.speed
  pub desk : Between 1 desks a.desk
  pub waited : T (waited_within a.waited)
  pub own : T (leg_fits legs z a.leg)
  pub flies : is_flying_zone z ≡ true → T (not (is_waiting a.progress))
  pub along : is_flying_zone z ≡ true → T (within_leg a.progress a.leg)
  pub waits : is_flying_zone z ≡ false → T (is_waiting a.progress)

module _ (legs : Legs) (z : ℕ) (a : Aircraft) where
  abbrev fast : Bool
  fast = leb 1 a.speed && leb a.speed fastest

  abbrev owned : Bool
  owned = leb 1 a.desk && leb a.desk desks

  abbrev numbers : Bool
  numbers = is_side a.fix && fast && owned

  abbrev flown : Bool
  flown = not (is_waiting a.progress) && within_leg a.progress a.leg

  abbrev progressed : Bool
  progressed = cond (is_flying_zone z) flown (is_waiting a.progress)

  -- A test of it tells each part, ..
  pub fits_parts : T (fits_zone legs z a) → Fits legs z a
  unfolding fits_zone
  fits_parts t =
      let own = leg_fits legs z a.leg in
      let three = and_l (numbers && waited_within a.waited && own) progressed t in
      let two = and_l (numbers && waited_within a.waited) own three in
      let one = and_l numbers (waited_within a.waited) two in
      let p = and_r (numbers && waited_within a.waited && own) progressed t in
      let two-numbers = and_l (is_side a.fix && fast) owned one in
      let s = and_r (is_side a.fix) fast two-numbers in
      let d = and_r (is_side a.fix && fast) owned one in
      let here : is_flying_zone z ≡ true → T flown = λ e. subst T (if_true flown (is_waiting a.progress) e) p in
      record {
        side = and_l (is_side a.fix) fast two-numbers;
        speeds = record { least = leb→le 1 a.speed (and_l (leb 1 a.speed) (leb a.speed fastest) s); most = leb→le a.speed fastest (and_r (leb 1 a.speed) (leb a.speed fastest) s) };
        desk = record { least = leb→le 1 a.desk (and_l (leb 1 a.desk) (leb a.desk desks) d); most = leb→le a.desk desks (and_r (leb 1 a.desk) (leb a.desk desks) d) };
        waited = and_r numbers (waited_within a.waited) two;
        own = and_r (numbers && waited_within a.waited) own three;
        flies = λ e. and_l (not (is_waiting a.progress)) (within_leg a.progress a.leg) (here e);
        along = λ e. and_r (not (is_waiting a.progress)) (within_leg a.progress a.leg) (here e);
        waits = λ e. subst T (if_false flown (is_waiting a.progress) e) p;
      }

  -- .. and the parts make it.
  pub fits_of : Fits legs z a → T (fits_zone legs z a)
  unfolding fits_zone
  fits_of p =
      and_i (numbers && waited_within a.waited && leg_fits legs z a.leg) progressed
      (and_i (numbers && waited_within a.waited) (leg_fits legs z a.leg)
      (and_i numbers (waited_within a.waited)
      (and_i (is_side a.fix && fast) owned
      (and_i (is_side a.fix) fast p.side (and_i (leb 1 a.speed) (leb a.speed fastest) (le→leb 1 a.speed p.speeds.least) (le→leb a.speed fastest p.speeds.most)))
      (and_i (leb 1 a.desk) (leb a.desk desks) (le→leb 1 a.desk p.desk.least) (le→leb a.desk desks p.desk.most)))
      p.waited)
      p.own)
      (either_way (λ (b : Bool). T b) (is_flying_zone z) flown (is_waiting a.progress)
      (λ e. and_i (not (is_waiting a.progress)) (within_leg a.progress a.leg) (p.flies e) (p.along e)) p.waits)

-- Everyone in a zone fits it, where bound g holds.
pub all_fit : (f : Field) → T (bound_g f) → (z : ℕ) → 1 ≤ z → z ≤ 13 → T (every (fits_zone f.legs z) (in_zone f z))
unfolding bound_g
all_fit f t z l h =
    let fit = every (λ z. every (fits_zone f.legs z) (in_zone f z)) everywhere in
    every_from (λ z. every (fits_zone f.legs z) (in_zone f z)) 1 13 (and_l fit (is_side f.next) (and_l (fit && is_side f.next) (legal_legs f.legs) t)) z l (omega arith)

-- The leg of a flying zone is legal where all legs are.
pub leg_legal : (legs : Legs) → T (legal_legs legs) → (z : ℕ) → T (is_flying_zone z) → T (legal_leg (leg_of legs z))
unfolding legal_legs is_flying_zone leg_of
leg_legal legs t z u =
    let m = legal_leg legs.missed in
    let b = legal_leg legs.base in
    let i = legal_leg legs.intermediate in
    let l = legal_leg legs.final_approach in
    let three = and_l (m && b && i) l t in
    let tm = and_l m b (and_l (m && b) i three) in
    let tb = and_r m b (and_l (m && b) i three) in
    let low = leb→le 7 z (and_l (leb 7 z) (leb z 12) u) in
    let high = leb→le z 12 (and_r (leb 7 z) (leb z 12) u) in
    each_from 7 6 (λ (z : ℕ). T (legal_leg (leg_of legs z))) (tm, (tm, (tb, (tb, (and_r (m && b) i three, (and_r (m && b && i) l t, tt)))))) z low (omega arith)

-- A missed zone is flown in, ..
pub missed_flown : (z : ℕ) → (eqb z (missed right) || eqb z (missed left)) ≡ true → T (is_flying_zone z)
unfolding is_flying_zone
missed_flown z e = elim (decided (eqb z (missed right))) [
  | inl h ↦ subst (λ (y : ℕ). T (is_flying_zone y)) (sym (eqb-true z (missed right) h)) tt
  | inr h ↦ subst (λ (y : ℕ). T (is_flying_zone y)) (sym (eqb-true z (missed left) (sym (or_else h refl) ∙ e))) tt
]

-- .. so that a zone that is not flown in is none.
not_missed : (z : ℕ) → is_flying_zone z ≡ false → (eqb z (missed right) || eqb z (missed left)) ≡ false
not_missed z e = elim (decided (eqb z (missed right) || eqb z (missed left))) [ inl h ↦ absurd (true≢false (sym (passed {b = is_flying_zone z} (missed_flown z h)) ∙ e)) | inr h ↦ h ]

-- The own leg of an aircraft in a flying zone is from 1/64 of a mile to 128 miles.
pub own_legal : (legs : Legs) → T (legal_legs legs) → (z : ℕ) → T (is_flying_zone z) → (leg : Float) → T (leg_fits legs z leg) → T (legal_leg_after_miss leg)
unfolding leg_fits
own_legal legs l z u leg t = go (decided (eqb z (missed right) || eqb z (missed left)))
  where
    go : ((eqb z (missed right) || eqb z (missed left)) ≡ true) ⊎ ((eqb z (missed right) || eqb z (missed left)) ≡ false) → T (legal_leg_after_miss leg)
    go (inl e) = subst T (if_true (legal_leg_after_miss leg) (eq leg (leg_of legs z)) e) t
    go (inr e) = longer_legal leg (equal_legal leg (leg_of legs z) (leg_legal legs l z u) (subst T (if_false (legal_leg_after_miss leg) (eq leg (leg_of legs z)) e) t))

-- ---- an aircraft that comes into a zone

-- It fits the zone where it fitted the one that it came from, and its leg fits.
into_fits : (legs : Legs) → T (legal_legs legs) → (from to : ℕ) (leg : Float) (a after : Aircraft) → Into to leg a after → T (leg_fits legs to leg)
    → T (fits_zone legs from a) → T (fits_zone legs to after)
into_fits legs l from to leg a after i w t =
    let p = fits_parts legs from a t in
    fits_of legs to after
    (record {
      side = subst (λ (s : ℕ). T (is_side s)) (sym i.fix) p.side;
      speeds = subst (Between 1 fastest) (sym i.speed) p.speeds;
      desk = subst (Between 1 desks) (sym i.desk) p.desk;
      waited = subst (λ (x : Float). T (waited_within x)) (sym i.waited) p.waited;
      own = subst (λ (x : Float). T (leg_fits legs to x)) (sym i.leg_is) w;
      flies = λ e. subst (λ (q : Progress). T (not (is_waiting q))) (sym (i.progress ∙ progress_by to e)) tt;
      along =
          λ e.
          subst (λ (q : Progress). T (within_leg q after.leg)) (sym (i.progress ∙ progress_by to e))
          (subst (λ (x : Float). T (within_leg (Flying (whole 0)) x)) (sym i.leg_is) (zero_within_up_to longest_own_leg_miles (lit< tt) leg (own_legal legs l to (pass e) leg w)));
      waits = λ e. subst (λ (q : Progress). T (is_waiting q)) (sym (i.progress ∙ progress_by to e)) tt;
    })

-- The leg of a zone fits it.
zone_leg_fits : (legs : Legs) → T (legal_legs legs) → (z : ℕ) → T (leg_fits legs z (leg_of legs z))
unfolding leg_fits eq of_int
zone_leg_fits legs l z =
    either_way (λ (b : Bool). T b) (eqb z (missed right) || eqb z (missed left)) (legal_leg_after_miss (leg_of legs z)) (eq (leg_of legs z) (leg_of legs z)) ahead (λ e. same (decided (is_flying_zone z)))
  where
    ahead : (eqb z (missed right) || eqb z (missed left)) ≡ true → T (legal_leg_after_miss (leg_of legs z))
    ahead e = longer_legal (leg_of legs z) (leg_legal legs l z (missed_flown z e))

    same : (is_flying_zone z ≡ true) ⊎ (is_flying_zone z ≡ false) → T (eq (leg_of legs z) (leg_of legs z))
    same (inl e) = equal_self (leg_of legs z) (leg_legal legs l z (pass e))
    same (inr e) = subst (λ (x : Float). T (eq x x)) (sym (leg_not_flown legs z e)) tt

-- An aircraft that arrives fits the zone where it fitted the one that it came from.
pub arrived_fits : (legs : Legs) → T (legal_legs legs) → (from to : ℕ) (a : Aircraft) → T (fits_zone legs from a) → T (fits_zone legs to (arrived legs to a))
arrived_fits legs l from to a t = into_fits legs l from to (leg_of legs to) a (arrived legs to a) (into_arrived legs to a) (zone_leg_fits legs l to) t

-- And so does one that misses, in a missed zone: the leg ahead is from 1/64 of a mile to 128 miles (02, 2.7).
pub arrived_by_miss_fits : (legs : Legs) → T (legal_legs legs) → (z : ℕ) (a : Aircraft) → (eqb z (missed right) || eqb z (missed left)) ≡ true
    → T (fits_zone legs final_approach_zone a) → T (fits_zone legs z (arrived_by_miss legs z a))
unfolding leg_fits is_flying_zone legal_legs leg_of
arrived_by_miss_fits legs l z a e t =
    let p = fits_parts legs final_approach_zone a t in
    let m = legal_leg legs.missed in
    let b = legal_leg legs.base in
    let i = legal_leg legs.intermediate in
    let f = legal_leg legs.final_approach in
    let final = equal_legal a.leg legs.final_approach (and_r (m && b && i) f l) p.own in
    let ahead = leg_after_miss legs.missed a.progress a.leg in
    let legal : T (legal_leg_after_miss ahead) = leg_after_miss_legal legs.missed a.leg a.progress (and_l m b (and_l (m && b) i (and_l (m && b && i) f l))) final (p.along refl) in
    into_fits legs l final_approach_zone z ahead a (arrived_by_miss legs z a) (into_arrived_by_miss legs z a) (subst T (sym (if_true (legal_leg_after_miss ahead) (eq ahead (leg_of legs z)) e)) legal) t

-- ---- an aircraft with another fix

-- It fits its zone still, where the fix is a side.
pub refixed_fits : (legs : Legs) (z fix : ℕ) (a : Aircraft) → T (is_side fix) → T (fits_zone legs z a) → T (fits_zone legs z (given_fix a fix))
unfolding given_fix
refixed_fits legs z fix a s t =
    let p = fits_parts legs z a t in
    fits_of legs z (given_fix a fix) (record { side = s; speeds = p.speeds; desk = p.desk; waited = p.waited; own = p.own; flies = p.flies; along = p.along; waits = p.waits })

-- ---- an aircraft that enters

-- It fits a zone that is not flown in, where its fix is a side, its speed is allowed and its desk is one.
pub entering_fits : (legs : Legs) (z number fix speed desk : ℕ) → T (is_side fix) → Between 1 fastest speed → Between 1 desks desk → is_flying_zone z ≡ false
    → T (fits_zone legs z (entering number fix speed desk))
unfolding entering leg_fits eq of_int
entering_fits legs z number fix speed desk s r d e =
    let own : T (leg_fits legs z (whole 0)) =
    subst T (sym (if_false (legal_leg_after_miss (whole 0)) (eq (whole 0) (leg_of legs z)) (not_missed z e))) (subst (λ (x : Float). T (eq (whole 0) x)) (sym (leg_not_flown legs z e)) tt) in
    fits_of legs z (entering number fix speed desk)
    (record { side = s; speeds = r; desk = d; waited = zero_waited; own = own; flies = λ u. absurd (true≢false (sym u ∙ e)); along = λ u. absurd (true≢false (sym u ∙ e)); waits = λ u. tt })
