-- What `NothingRounded` does not say: anything of fields with other legs, which a host may lend. An example off the grid, on which a processor that rounds up
-- answers otherwise than one that rounds as the rules do, to the nearest; and what the two limits are for, the legs in 64ths and the 4,096 miles waited.
-- `tests/rounding` plays the example by the compiled library, in each direction of rounding.
use Rattle.std.specs.Prelude.{◌≡◌, false, cond, List, [], ◌∷◌, map, ℕ, ◌^◌, T, eqb, Float}
use Rattle.std.specs.Float.{binary64}
use Rattle.std.specs.Float.Ieee.{of_bits, add, div}
use Rattle.leg.specs.Progress.{whole}
use Rattle.request.specs.declared.Request.{Request}
use Rattle.field.specs.declared.Aircraft.{Aircraft}
use Rattle.field.specs.declared.Legs.{Legs}
use Rattle.field.specs.declared.Field.{Field}
use Rattle.field.specs.Airspace.{on_leg, empty_field}
use Rattle.fits.specs.Fits.{legal_legs}
use Rattle.bounds.specs.Bounds.{within_bounds}
use Rattle.rules.specs.Step.{step_of}
use Rattle.rules.specs.Play.{field_after}
use Rattle.rules.specs.Cases.{ask}
use Rattle.proof_rounding.specs.Fractions.{Fraction, over, less, sum_of, number_of, stands_for, exact_sum}

-- ---- the example

-- the next float above 1, which is 1 + 2 ^ -52
abbrev pub just_over1 : Float
just_over1 = of_bits binary64 0x3ff0000000000001

-- the next float above 2, which is 2 + 2 ^ -51
abbrev pub just_over2 : Float
just_over2 = of_bits binary64 0x4000000000000001

-- legs of a mile each, but final is of that much more
abbrev pub other_legs : Legs
other_legs = record { missed = whole 1; base = whole 1; intermediate = whole 1; final_approach = just_over1 }

-- 7 comes in at a mile a minute, flies base and intermediate out, and misses at the beginning of final
abbrev pub until_miss : List Request
until_miss = ask 1 1 7 64 ∷ ask 3 0 7 0 ∷ ask 4 0 7 0 ∷ ask 12 0 0 64 ∷ ask 5 0 7 0 ∷ ask 12 0 0 64 ∷ ask 6 0 7 0 ∷ ask 10 0 7 0 ∷ []

-- two minutes later it asks to hold
abbrev pub two_minutes : List Request
two_minutes = ask 12 0 0 64 ∷ ask 12 0 0 64 ∷ []

abbrev pub hold : Request
hold = ask 11 0 7 0

-- the field after the miss, as the rules have it
abbrev pub after_the_miss : Field
after_the_miss = field_after (empty_field other_legs) until_miss

-- what the leg after the miss is before it is rounded: the missed leg and all of final
abbrev pub both_legs : Fraction
both_legs = sum_of (number_of (whole 1)) (number_of just_over1)

-- the same field with the leg of 7 as a processor has it that rounds up
abbrev pub with_leg_of7 : Float → Aircraft → Aircraft
with_leg_of7 leg a = cond (eqb a.number 7) (on_leg a a.progress leg) a

abbrev pub rounded_up : Field
rounded_up =
    record {
      zones = map (λ q. record { aircraft = map (with_leg_of7 just_over2) q.aircraft; length = q.length }) after_the_miss.zones;
      sequence = after_the_miss.sequence;
      next = after_the_miss.next;
      legs = other_legs;
    }

-- the number that the hold is answered after two minutes from a field
abbrev pub hold_answered : Field → ℕ
hold_answered f = (step_of (field_after f two_minutes) hold).answer.number

-- two directions of rounding give two answers
pub record OffTheGrid : Type 0 where
  -- the legs are allowed
  pub legal : T (legal_legs other_legs)
  -- the leg after the miss lies between 2 and the next float, so that it is rounded
  pub above_2 : T (less (number_of (whole 2)) both_legs)
  pub below_next : T (less both_legs (number_of just_over2))
  -- to the nearest, which the rules have, it is 2 miles, and the hold is accepted after two minutes
  pub nearest : T (stands_for (add binary64 (whole 1) just_over1) (over 2 1))
  pub accepted : hold_answered after_the_miss ≡ 0
  -- rounded up it is the next float; that field is within the bounds too, and on it the hold is refused: the leg is not flown out
  pub within : T (within_bounds rounded_up)
  pub refused : hold_answered rounded_up ≡ 15

-- ---- what the limits are for

-- a 65th of a mile is no float, and a wait that did not stop would be rounded at 2 ^ 41 miles, where a 4096th more is none
pub record LimitsNeeded : Type 0 where
  pub in_65ths : stands_for (div binary64 (whole 1) (whole 65)) (over 1 65) ≡ false
  pub unstopped : exact_sum (whole (2 ^ 41)) (div binary64 (whole 1) (whole 4096)) ≡ false
