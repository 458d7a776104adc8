-- Nothing is ever rounded: on every field that requests and steps back reach from an empty one with legs in whole 64ths of a mile, each product, sum,
-- difference and quotient that the rules round (01, "The requests"; 02, 2.2, 2.7 and 2.8) is exact.
-- What follows from that: to round a number that a float stands for, up, down, to the nearest or toward zero, yields that float. So a processor computes the
-- same in whichever direction it rounds, a fused multiply and add, which rounds once where the rules round twice, yields what the two yield, and since each
-- number is 0 or 1/4096 at the least, nothing is so small that it could be flushed to 0. One sign is left to the direction: the difference of two equal
-- numbers is -0 where a processor rounds down, and 0 else. No rule tells these two apart.
use Rattle.std.specs.Prelude.{◌≡◌, not, List, ℕ, T, Float}
use Rattle.std.specs.Float.{binary64}
use Rattle.std.specs.Float.Ieee.{add, sub}
use Rattle.limits.specs.Limits.{longest_tick, most_waited}
use Rattle.leg.specs.Progress.{sixty_fourths, miles_flown, flown_sum, advanced, past_end, waited_after, flown_out}
use Rattle.leg.specs.Ticks.{Between}
use Rattle.leg.specs.declared.Progress.{Progress}
use Rattle.leg.specs.declared.Progress.TheVariants.{Waiting, Flying}
use Rattle.request.specs.declared.Request.{Request}
use Rattle.field.specs.declared.Aircraft.{Aircraft}
use Rattle.field.specs.declared.Legs.{Legs}
use Rattle.field.specs.declared.Field.{Field}
use Rattle.field.specs.Airspace.{is_flying_zone, in_zone}
use Rattle.field.specs.Lists.{Each}
use Rattle.rules.specs.Start.{empty_start}
use Rattle.rules.specs.Play.{field_after}
use Rattle.demand.specs.Exact.{WholeLegs, in_miles}
use Rattle.gaps.specs.Gaps.{on_approach, way_of, legal_spacing}
use Rattle.history.specs.declared.History.{History}
use Rattle.history.specs.History.{history_at_start}
use Rattle.taken_back.specs.Calls.{Call, after_calls}
use Rattle.proof_rounding.specs.Fractions.{Fraction, over, less, smaller_of, sum_of, product_of, number_of, stands_for, exact_sum, exact_difference, exact_product, exact64ths}

-- ---- one who flies

-- the miles with those of a tick, speed / 64 times amount / 64, added: the number itself
abbrev pub flown_in_all : Float → ℕ → ℕ → Fraction
flown_in_all miles speed amount = sum_of (number_of miles) (product_of (over speed 64) (over amount 64))

-- a tick of the amount, of one with this speed who has flown these miles of its own leg and has waited so many
pub record ExactTick (speed amount : ℕ) (miles leg waited : Float) : Type 0 where
  -- the speed and the amount in 64ths
  pub speed_64ths : T (exact64ths speed)
  pub amount_64ths : T (exact64ths amount)
  -- the miles that the tick flies, their product
  pub product : T (exact_product (sixty_fourths speed) (sixty_fourths amount))
  -- the miles with these added, as if the leg had no end; and the same as a fused multiply and add has it, with no product rounded on the way
  pub sum : T (exact_sum miles (miles_flown speed amount))
  pub fused : T (stands_for (flown_sum miles speed amount) (flown_in_all miles speed amount))
  -- the miles after the tick, the smaller of that and the leg; and the leg is flown out exactly where that is no smaller than it
  pub flown : T (stands_for (advanced miles speed amount leg) (smaller_of (flown_in_all miles speed amount) (number_of leg)))
  pub arrived : flown_out (Flying (advanced miles speed amount leg)) leg ≡ not (less (flown_in_all miles speed amount) (number_of leg))
  -- the miles past the end (02, 2.2): what is computed where the sum exceeds the leg, and exact where it does not, too
  pub past : T (exact_difference (flown_sum miles speed amount) leg)
  -- the miles waited with those past the end added, and where they stop, at 4,096 (02, 2.2)
  pub waited_sum : T (exact_sum waited (past_end miles speed amount leg))
  pub stopped : T (stands_for (waited_after waited (past_end miles speed amount leg)) (smaller_of (sum_of (number_of waited) (number_of (past_end miles speed amount leg))) (over most_waited 1)))

-- what is left of the own leg, and what is made of it, with the legs of the field
pub record ExactRest (legs : Legs) (miles leg : Float) : Type 0 where
  -- what is left, after a miss of final (02, 2.7)
  pub left : T (exact_difference leg miles)
  -- the leg after a miss: the missed leg and what is left
  pub after_miss_is : T (exact_sum legs.missed (sub binary64 leg miles))
  -- the way to the threshold (02, 2.8): from a base intermediate is added, and then final; from intermediate final
  pub with_intermediate : T (exact_sum (sub binary64 leg miles) legs.intermediate)
  pub with_both : T (exact_sum (add binary64 (sub binary64 leg miles) legs.intermediate) legs.final_approach)
  pub with_final : T (exact_sum (sub binary64 leg miles) legs.final_approach)

-- that, of one in a zone that is flown in: it flies, and every tick that may come is exact
abbrev pub ExactFlight : Legs → Aircraft → Progress → Type 0
ExactFlight legs a Waiting = ⊥
ExactFlight legs a (Flying miles) = ((amount : ℕ) → Between 1 longest_tick amount → ExactTick a.speed amount miles a.leg a.waited) × ExactRest legs miles a.leg

-- ---- a field

-- nothing that the rules compute on a field is rounded
pub record NothingRoundedOn (f : Field) : Type 0 where
  -- of everyone who flies
  pub flights : (zone : ℕ) → T (is_flying_zone zone) → Each (λ a. ExactFlight f.legs a a.progress) (in_zone f zone)
  -- the gap of each two on the approach, one's way less the other's (02, 2.8), ..
  pub gaps : (leader follower : ℕ) → T (on_approach f leader) → T (on_approach f follower) → T (exact_difference (way_of f follower) (way_of f leader))
  -- .. and the spacing that is asked for, in 64ths
  pub spacing_64ths : (spacing : ℕ) → T (legal_spacing spacing) → T (exact64ths spacing)

-- ---- the claim

-- the legs as the field has them, in miles: each is its 64ths by 64
pub record ExactLegs (w : WholeLegs) : Type 0 where
  pub missed : T (exact64ths w.missed_leg)
  pub base : T (exact64ths w.base_leg)
  pub intermediate : T (exact64ths w.intermediate_leg)
  pub final : T (exact64ths w.final_leg)

-- Nothing is rounded from any start with legs in whole 64ths: of the legs, on the field after any list of requests from an empty one, and on the field after
-- any list of requests and steps back (02, 2.13).
pub record NothingRounded : Type 0 where
  pub legs : (w : WholeLegs) → ExactLegs w
  pub requests : (w : WholeLegs) (f : Field) → T (empty_start f) → f.legs ≡ in_miles w → (rs : List Request) → NothingRoundedOn (field_after f rs)
  pub calls :
      (w : WholeLegs) (start : History) → T (history_at_start start) → start.now.field.legs ≡ in_miles w
      → (cs : List Call) → NothingRoundedOn (after_calls start cs).now.field
