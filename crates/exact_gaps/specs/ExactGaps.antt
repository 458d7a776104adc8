-- Exact gaps (02, 2.8): where the legs are whole 64ths, and requests have led to the field from an empty one, a gap in 4096ths of a mile is an integer, the
-- difference of two whole numbers. Definitions only.
use Rattle.std.specs.Prelude.{◌≡◌, Bool, true, false, cond, List, ℕ, suc, ◌+◌, ◌-◌, ◌*◌, min, T, eqb, ltb, ℤ, pos, negsuc, Float}
use Rattle.std.proofs.Math.IntN.{sub_ℕ}
use Rattle.std.specs.Float.Ieee.Exact.{HasValue}
use Rattle.request.specs.declared.Request.{Request}
use Rattle.field.specs.declared.Field.{Field}
use Rattle.field.specs.Airspace.{intermediate, final_approach_zone, order_of}
use Rattle.field.specs.Lists.{Each}
use Rattle.questions.specs.Find.{place_of, aircraft_at}
use Rattle.rules.specs.Start.{empty_start}
use Rattle.rules.specs.Play.{field_after, played}
use Rattle.demand.specs.Exact.{WholeLegs, in_miles, zone_leg_in64ths, no_flight, flight_after}
use Rattle.gaps.specs.declared.Spacing.{Spacing}
use Rattle.gaps.specs.declared.Spacing.TheVariants.{Close, Clear}
use Rattle.gaps.specs.declared.Pair.{Pair}
use Rattle.gaps.specs.Gaps.{pairs_in, legal_spacing, pairs_listed, gaps_of}

-- the miles are exactly so many 4096ths, an integer of either sign
abbrev pub ExactlySigned : Float → ℤ → Type 0
ExactlySigned miles (pos n) = HasValue miles false n 4096
ExactlySigned miles (negsuc n) = HasValue miles true (suc n) 4096

-- the full legs that follow zone z of the approach, in 4096ths
abbrev pub following : WholeLegs → ℕ → ℕ
following w z = cond (eqb z final_approach_zone) 0 (cond (eqb z intermediate) (64 * w.final_leg) (64 * w.intermediate_leg + 64 * w.final_leg))

-- the way to the threshold from zone z of the approach with so much of its leg flown, all in 4096ths
abbrev pub way_from : WholeLegs → ℕ → ℕ → ℕ
way_from w z flown = 64 * zone_leg_in64ths w z - flown + following w z

-- on the field after a list of requests from f, with these legs: the way of the one with this number. Of its leg it has flown its speed times its ticks, or all
-- of it where that is less
unfoldable pub way_in4096ths : WholeLegs → Field → List Request → ℕ → ℕ
way_in4096ths w f rs number =
    let g = field_after f rs in
    let at = place_of g number in
    let a = aircraft_at g at.zone at.place in
    let s = flight_after w number no_flight (played f rs) in
    way_from w at.zone (min (64 * zone_leg_in64ths w at.zone) (a.speed * s.ticks))

-- the gap that an answer carries
abbrev pub gap_in : Spacing → Float
gap_in (Close gap) = gap
gap_in (Clear gap) = gap

-- whether an answer is close
abbrev pub is_close : Spacing → Bool
is_close (Close gap) = true
is_close (Clear gap) = false

-- what is exact of a pair on that field
pub record ExactPair (w : WholeLegs) (f : Field) (rs : List Request) (spacing : ℕ) (p : Pair) : Type 0 where
  -- the gap times 4096 is the follower's way less the leader's, below 0 where the follower's is the shorter
  pub gap : ExactlySigned (gap_in p.spacing) (sub_ℕ (way_in4096ths w f rs p.follower) (way_in4096ths w f rs p.leader))
  -- and it is close exactly where that is under 64 times the spacing in 64ths
  pub close : is_close p.spacing ≡ ltb (way_in4096ths w f rs p.follower) (way_in4096ths w f rs p.leader + 64 * spacing)

-- what holds of a spacing on that field: it is not refused, and each pair is exact
pub record ExactGapsOf (w : WholeLegs) (f : Field) (rs : List Request) (spacing : ℕ) : Type 0 where
  pub accepted : gaps_of (field_after f rs) spacing ≡ pairs_listed (pairs_in (field_after f rs) spacing (order_of (field_after f rs).sequence))
  pub exact : Each (ExactPair w f rs spacing) (pairs_in (field_after f rs) spacing (order_of (field_after f rs).sequence))

-- that holds of every legal spacing after every list of requests, from every empty field that a list may start from whose legs are whole 64ths
abbrev pub ExactGaps : Type 0
ExactGaps =
    (w : WholeLegs) (f : Field) → T (empty_start f) → f.legs ≡ in_miles w
    → (rs : List Request) (spacing : ℕ) → T (legal_spacing spacing) → ExactGapsOf w f rs spacing
