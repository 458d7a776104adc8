-- After every list of requests from every empty field that a list may start from, with legs in whole 64ths, each gap is exact, and close says what the whole numbers say. Assumes nothing.
use mathlib.Core.Path.{◌≡◌, refl, sym, ap, ◌∙◌, subst}
use mathlib.Core.Bool.{Bool, true, false, cond, not, ◌&&◌, ◌||◌, true≢false}
use mathlib.Core.Logic.{inl, inr}
use mathlib.Core.List.{List, [], ◌∷◌, ◌++◌}
use Prim.Native.Nat.{ℕ, ◌+◌, ◌*◌, ◌^◌, ◌≤◌, ◌<◌, min}
use native.Mathlib.Omega.{arith}
use lib.Dec.{T, eqb, leb, leb→le, le→leb}
use lib.IntN.{sub_ℕ}
use lib.Ieee.{Float, lt}
use lib.Ieee.Fits.{and_i, and_l, and_r}
use borrow.Author.Tests.{ne_eqb}
use Rattle.leg.specs.Progress.{sixty_fourths, remaining}
use Rattle.leg.specs.Ticks.{Exactly}
use Rattle.request.specs.declared.Request.{Request}
use Rattle.field.specs.declared.Aircraft.{Aircraft}
use Rattle.field.specs.declared.Legs.{Legs}
use Rattle.field.specs.declared.Field.{Field}
use Rattle.field.specs.Airspace.{everywhere, in_zone, is_side, empty_field, order_of}
use Rattle.field.specs.Lists.{every, is_in, Each}
use Rattle.field.proofs.TestLaws.{passed, pass, decided, if_true, either_way}
use Rattle.field.proofs.NumberLists.{every_listed}
use Rattle.questions.specs.Counts.{how_many}
use Rattle.questions.specs.Find.{place_of, aircraft_at, numbers_in}
use Rattle.questions.proofs.FindLaws.{Found, found_exactly, found_there}
use Rattle.bounds.specs.Bounds.{within_bounds}
use Rattle.fits.specs.Fits.{fits_zone, leg_fits, bound_g, legal_legs}
use Rattle.laws.proofs.BoundLaws.{within_each}
use Rattle.laws.proofs.Fits.{fits_parts}
use Rattle.laws.proofs.SameQueues.{Same, within_same}
use Rattle.rules.proofs.SameStep.{same_sym, after_same}
use Rattle.rules.proofs.Starts.{start_same}
use Rattle.rules.specs.Start.{empty_start}
use Rattle.rules.specs.Play.{field_after, played}
use Rattle.line.proofs.Line.{field_of}
use Rattle.line.proofs.LineWithin.{within_bounds_lem}
use Rattle.demand.specs.Exact.{WholeLegs, in_miles, zone_leg_in64ths, no_flight, flight_after, Account}
use Rattle.demand.proofs.Demand.{from_empty}
use Rattle.demand.proofs.Flights.{legs_legal}
use Rattle.demand.proofs.Exact.{exactness}
use Rattle.gaps.specs.declared.Spacing.TheVariants.{Close, Clear}
use Rattle.gaps.specs.declared.Pair.{Pair}
use Rattle.gaps.specs.Gaps.{to_go, way_of, gap_of, spacing_of, pair_of, on_approach, pair_if_both, pairs_in, legal_spacing, pairs_listed, spacing_refused, gaps_of}
use Rattle.exact_gaps.specs.ExactGaps.{ExactlySigned, following, way_from, way_in4096ths, gap_in, is_close, ExactPair, ExactGapsOf, ExactGaps}
use Rattle.exact_gaps.proofs.Signed.{signed_grid, under_spacing}
use Rattle.exact_gaps.proofs.Ways.{each_at, every_at, way_exact}

-- ---- a way is short enough for an `f64`
way_small : (w : WholeLegs) (z flown : ℕ) → way_from w z flown < 2 ^ 53
way_small w z flown =
    let mf = w.missed_fits in
    let bf = w.base_fits in
    let nf = w.intermediate_fits in
    let ff = w.final_fits in
    let inner = cond (eqb z 11) w.intermediate_leg w.final_leg in
    let outer = cond (eqb z 9 || eqb z 10) w.base_leg inner in
    let leg : zone_leg_in64ths w z ≤ 4096 =
    either_way (λ (k : ℕ). k ≤ 4096) (eqb z 7 || eqb z 8) w.missed_leg outer (λ e. omega arith)
    (λ e. either_way (λ (k : ℕ). k ≤ 4096) (eqb z 9 || eqb z 10) w.base_leg inner (λ e. omega arith)
    (λ e. either_way (λ (k : ℕ). k ≤ 4096) (eqb z 11) w.intermediate_leg w.final_leg (λ e. omega arith) (λ e. omega arith))) in
    let both = 64 * w.intermediate_leg + 64 * w.final_leg in
    let rest : following w z ≤ 128 * 4096 =
    either_way (λ (k : ℕ). k ≤ 128 * 4096) (eqb z 12) 0 (cond (eqb z 11) (64 * w.final_leg) both) (λ e. omega arith)
    (λ e. either_way (λ (k : ℕ). k ≤ 128 * 4096) (eqb z 11) (64 * w.final_leg) both (λ e. omega arith) (λ e. omega arith)) in
    omega arith

-- ---- what an answer carries
gap_in_lem : (b : Bool) (gap : Float) → gap_in (cond b (Close gap) (Clear gap)) ≡ gap
gap_in_lem true gap = refl
gap_in_lem false gap = refl

close_in : (b : Bool) (gap : Float) → is_close (cond b (Close gap) (Clear gap)) ≡ b
close_in true gap = refl
close_in false gap = refl

each_append : (P : Pair → Type 0) (ps qs : List Pair) → Each P ps → Each P qs → Each P (ps ++ qs)
each_append P [] qs h k = k
each_append P (p ∷ ps) qs h k = (h.0, each_append P ps qs h.1 k)

-- ---- the field that is reached
module _ (w : WholeLegs) (start : Field) (begins : T (empty_start start)) (whole : start.legs ≡ in_miles w) (rs : List Request) where
  abbrev f : Field
  f = field_after start rs

  -- the field after the list from the empty field with these legs has the same queues, bounds and legs
  abbrev g : Field
  g = field_after (empty_field (in_miles w)) rs

  same : Same f g
  same = after_same (subst (λ (legs : Legs). Same start (empty_field legs)) whole (start_same start begins)) rs

  pub reached_within : T (within_bounds f)
  reached_within =
      let run = from_empty (in_miles w) (legs_legal w) rs in
      within_same g f (same_sym same)
      (subst (λ (h : Field). T (within_bounds h)) (sym run.stands) (within_bounds_lem run.first_then run.line_then run.runway_then (in_miles w) run.orderly))

  pub legs_are : f.legs ≡ in_miles w
  unfolding field_of
  legs_are = same.legs ∙ ap (λ (h : Field). h.legs) (from_empty (in_miles w) (legs_legal w) rs).stands

  -- one on the approach
  module _ (n : ℕ) (on : T (on_approach f n)) where
    abbrev z : ℕ
    z = (place_of f n).zone

    abbrev a : Aircraft
    a = aircraft_at f z (place_of f n).place

    low : 9 ≤ z
    unfolding on_approach
    low = leb→le 9 z (and_l (leb 9 z) (leb z 12) on)

    high : z ≤ 12
    unfolding on_approach
    high = leb→le z 12 (and_r (leb 9 z) (leb z 12) on)

    there : Found f n everywhere (place_of f n)
    there =
        elim (decided (is_in n (numbers_in f everywhere))) [
          | inl e ↦ found_there f n e
          | inr e ↦ absurd (true≢false (sym (found_exactly f n ∙ ap not e) ∙ ne_eqb z 0 (λ h. let l = low in omega arith)))
        ]

    account : Account (flight_after w n no_flight (played start rs)) z a
    unfolding aircraft_at how_many
    account =
        subst (λ (m : ℕ). Account (flight_after w m no_flight (played start rs)) z a) there.has
        (each_at (λ x. Account (flight_after w x.number no_flight (played start rs)) z x) (in_zone f z) (place_of f n).place
        (exactness w start begins whole rs z (and_i (leb 1 z) (leb z 13) (le→leb 1 z (let l = low in omega arith)) (le→leb z 13 (let h = high in omega arith)))) there.first there.last)

    own : T (leg_fits (in_miles w) z a.leg)
    unfolding aircraft_at how_many bound_g
    own =
        let all = every (λ z. every (fits_zone f.legs z) (in_zone f z)) everywhere in
        let g = (within_each f reached_within).bound_g_is in
        let fit = every_listed (λ z. every (fits_zone f.legs z) (in_zone f z)) everywhere z (and_l all (is_side f.next) (and_l (all && is_side f.next) (legal_legs f.legs) g)) there.listed in
        subst (λ (l : Legs). T (leg_fits l z a.leg)) legs_are (fits_parts f.legs z a (every_at (fits_zone f.legs z) (in_zone f z) (place_of f n).place fit there.first there.last)).own

    -- its way is exact
    pub way_is : Exactly (way_of f n) (way_in4096ths w start rs n)
    unfolding way_of way_in4096ths
    way_is =
        let s = flight_after w n no_flight (played start rs) in
        subst (λ (l : Legs). Exactly (to_go l z (remaining a.progress a.leg)) (way_from w z (min (64 * zone_leg_in64ths w z) (a.speed * s.ticks))))
        (sym legs_are) (way_exact w a s z low high own account)

  pub way_few : (n : ℕ) → way_in4096ths w start rs n < 2 ^ 53
  unfolding way_in4096ths
  way_few n = way_small w (place_of f n).zone _

  module _ (spacing : ℕ) (legal : T (legal_spacing spacing)) where
    at_least : 1 ≤ spacing
    at_least = leb→le 1 spacing (and_l (leb 1 spacing) (leb spacing 512) legal)

    at_most : spacing ≤ 512
    at_most = leb→le spacing 512 (and_r (leb 1 spacing) (leb spacing 512) legal)

    pair_exact : (l m : ℕ) → T (on_approach f l) → T (on_approach f m) → ExactPair w start rs spacing (pair_of f spacing l m)
    unfolding pair_of gap_of spacing_of
    pair_exact l m onl onm =
        let gap = gap_of f l m in
        let signed = signed_grid (way_of f m) (way_of f l) (way_in4096ths w start rs m) (way_in4096ths w start rs l) (way_is m onm) (way_is l onl) (way_few m) (way_few l) in
        let b = lt gap (sixty_fourths spacing) in
        record {
          gap = subst (λ (x : Float). ExactlySigned x (sub_ℕ (way_in4096ths w start rs m) (way_in4096ths w start rs l))) (sym (gap_in_lem b gap)) signed;
          close = close_in b gap ∙ under_spacing gap (way_in4096ths w start rs m) (way_in4096ths w start rs l) spacing at_least at_most signed;
        }

    between_exact : (l m : ℕ) → Each (ExactPair w start rs spacing) (pair_if_both f spacing l m)
    unfolding pair_if_both
    between_exact l m =
        either_way (Each (ExactPair w start rs spacing)) (on_approach f l && on_approach f m) (pair_of f spacing l m ∷ []) []
        (λ e. (pair_exact l m (and_l (on_approach f l) (on_approach f m) (pass e)) (and_r (on_approach f l) (on_approach f m) (pass e)), tt)) (λ e. tt)

    pairs_exact : (order : List ℕ) → Each (ExactPair w start rs spacing) (pairs_in f spacing order)
    pairs_exact [] = tt
    pairs_exact (n ∷ []) = tt
    pairs_exact (n ∷ m ∷ ns) = each_append (ExactPair w start rs spacing) (pair_if_both f spacing n m) (pairs_in f spacing (m ∷ ns)) (between_exact n m) (pairs_exact (m ∷ ns))

    gaps_exact : ExactGapsOf w start rs spacing
    unfolding gaps_of
    gaps_exact = record {
      accepted =
          let all = pairs_listed (pairs_in f spacing (order_of f.sequence)) in
          if_true (cond (within_bounds f) all (spacing_refused 10)) (spacing_refused 4) (passed {b = legal_spacing spacing} legal)
          ∙ if_true all (spacing_refused 10) (passed {b = within_bounds f} reached_within);
      exact = pairs_exact (order_of f.sequence);
    }

pub exact_gaps : ExactGaps
exact_gaps w f t l rs spacing legal = gaps_exact w f t l rs spacing legal
