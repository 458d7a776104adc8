-- What the contracts of `src/` cite: an aircraft's progress along one leg (01, "The requests" and "The bounds"; 02, 2.2 and 2.7), in miles as an `f64`, which
-- is IEEE 754's binary64. Definitions only.
use Rattle.std.specs.Prelude.{ℕ, Bool, true, false, cond, ◌&&◌, pos, Float}
use Rattle.std.specs.Float.{binary64}
use Rattle.std.specs.Float.Ieee.{add, sub, mul, div, of_int, lt, le, eq}
use Rattle.limits.specs.Limits.{longest_leg_miles, longest_own_leg_miles, most_waited}
use Rattle.leg.specs.declared.Progress.{Progress}
use Rattle.leg.specs.declared.Advanced.{Advanced}
use Rattle.leg.specs.declared.Progress.TheVariants.{Waiting, Flying}

-- the whole number n as an `f64`
abbrev pub whole : ℕ → Float
whole n = of_int binary64 (pos n)

-- n 64ths
abbrev pub sixty_fourths : ℕ → Float
sixty_fourths n = div binary64 (whole n) (whole 64)

-- the miles that a tick of the amount flies at the speed, both in 64ths: their product, rounded once
abbrev pub miles_flown : ℕ → ℕ → Float
miles_flown speed amount = mul binary64 (sixty_fourths speed) (sixty_fourths amount)

-- x, but no more than the leg: the leg, too, where x is a NaN
abbrev pub up_to : Float → Float → Float
up_to leg x = cond (lt x leg) x leg

-- what x exceeds the leg by, the difference rounded once; 0 where it does not, and where a NaN compares with nothing
abbrev pub beyond : Float → Float → Float
beyond leg x = cond (lt leg x) (sub binary64 x leg) (whole 0)

-- the miles with those of a tick added, rounded once, as if the leg had no end
abbrev pub flown_sum : Float → ℕ → ℕ → Float
flown_sum miles speed amount = add binary64 miles (miles_flown speed amount)

-- the miles after a tick: that sum, but no more than the leg (01, "The requests", 12)
unfoldable pub advanced : Float → ℕ → ℕ → Float → Float
advanced miles speed amount leg = up_to leg (flown_sum miles speed amount)

-- what that sum exceeds the leg by, miles that are not flown; 0 where it does not (02, 2.2)
unfoldable pub past_end : Float → ℕ → ℕ → Float → Float
past_end miles speed amount leg = beyond leg (flown_sum miles speed amount)

-- both, as a tick yields them of one aircraft (02, 2.2)
unfoldable pub advancing : Float → ℕ → ℕ → Float → Advanced
advancing miles speed amount leg = record { miles = advanced miles speed amount leg; past = past_end miles speed amount leg }

-- the miles waited, with those past the end of a tick added, rounded once, but no more than `most_waited` (02, 2.2)
unfoldable pub waited_after : Float → Float → Float
waited_after waited past = up_to (whole most_waited) (add binary64 waited past)

-- miles waited that bound g allows (02, 2.2)
abbrev pub waited_within : Float → Bool
waited_within waited = le (whole 0) waited && le waited (whole most_waited)

-- the progress after a tick: one who waits does so still, and one who flies has flown on (01, "The requests", 12)
abbrev pub progress_after : Progress → ℕ → ℕ → Float → Progress
progress_after Waiting speed amount leg = Waiting
progress_after (Flying miles) speed amount leg = Flying (advanced miles speed amount leg)

-- the miles waited after a tick: someone flying adds those past the end, also where they are 0; someone waiting adds nothing (02, 2.2)
abbrev pub waited_with : Progress → Float → ℕ → ℕ → Float → Float
waited_with Waiting waited speed amount leg = waited
waited_with (Flying miles) waited speed amount leg = waited_after waited (past_end miles speed amount leg)

-- whether the leg is flown out: one flies, and its miles compare equal to the leg (01, "The requests")
abbrev pub flown_out : Progress → Float → Bool
flown_out Waiting leg = false
flown_out (Flying miles) leg = eq miles leg

-- the rest of a leg, its length less the miles flown, rounded once (02, 2.7); all of it for one that waits, with no miles flown
abbrev pub remaining : Progress → Float → Float
remaining Waiting leg = leg
remaining (Flying miles) leg = sub binary64 leg miles

-- the own leg after a miss, with this progress on this leg of final: the missed leg and the rest of final, their sum rounded once (02, 2.7)
unfoldable pub leg_after_miss : Float → Progress → Float → Float
leg_after_miss missed p final = add binary64 missed (remaining p final)

-- the miles of one who flies compare as bound g asks: not below 0, and not above the leg
abbrev pub within_leg : Progress → Float → Bool
within_leg Waiting leg = true
within_leg (Flying miles) leg = le (whole 0) miles && le miles leg

-- the leg compares between 1/64 of a mile and this many miles
abbrev pub leg_up_to : ℕ → Float → Bool
leg_up_to most leg = le (sixty_fourths 1) leg && le leg (whole most)

-- a length that bound g allows a leg of the field
abbrev pub legal_leg : Float → Bool
legal_leg leg = leg_up_to longest_leg_miles leg

-- a length that bound g allows an aircraft's own leg in a missed zone (02, 2.7)
abbrev pub legal_leg_after_miss : Float → Bool
legal_leg_after_miss leg = leg_up_to longest_own_leg_miles leg
