-- What the theorems of `proofs/ProgressLaws.antt` speak of besides `Progress.antt`: ranges of whole numbers, lists of ticks, and miles that are exactly a whole number of 4096ths. Definitions only.
use Rattle.std.specs.Prelude.{ℕ, ◌+◌, ◌^◌, ◌≤◌, ◌<◌, List, [], ◌∷◌, Bool, true, false, Float}
use Rattle.std.specs.Float.Ieee.Exact.{HasValue}
use Rattle.std.specs.Float.Ieee.Scale.{finite}
use Rattle.limits.specs.Limits.{longest_tick}
use Rattle.leg.specs.declared.Progress.{Progress}
use Rattle.leg.specs.declared.Progress.TheVariants.{Waiting, Flying}
use Rattle.leg.specs.Progress.{progress_after}

-- n is from low to high
pub record Between (low high n : ℕ) : Type 0 where
  pub least : low ≤ n
  pub most : n ≤ high

-- each tick of a list has an amount that is not refused (01, "Turned away by the request or the file", 4)
abbrev pub TickAmounts : List ℕ → Type 0
TickAmounts [] = Unit
TickAmounts (amount ∷ amounts) = Between 1 longest_tick amount × TickAmounts amounts

-- the amounts of a list of ticks together
abbrev pub added_up : List ℕ → ℕ
added_up [] = 0
added_up (amount ∷ amounts) = amount + added_up amounts

-- the progress after ticks of these amounts, one after the other
abbrev pub after_ticks : Progress → ℕ → List ℕ → Float → Progress
after_ticks p speed [] leg = p
after_ticks p speed (amount ∷ amounts) leg = after_ticks (progress_after p speed amount leg) speed amounts leg

-- the miles, flown or of a leg, are n / 4096 exactly, and not below zero
abbrev pub Exactly : Float → ℕ → Type 0
Exactly miles n = HasValue miles false n 4096

-- a leg of exactly k / 4096 miles, above zero and short enough that an `f64` has every 4096th of a mile on it
pub record LegIn4096ths (leg : Float) (k : ℕ) : Type 0 where
  pub exact : Exactly leg k
  pub some : 0 < k
  pub few : k < 2 ^ 53

-- the aircraft flies, and its miles are exactly n / 4096
abbrev pub FlownExactly : Progress → ℕ → Type 0
FlownExactly Waiting n = ⊥
FlownExactly (Flying miles) n = Exactly miles n

-- the miles, if it flies, are neither a NaN nor an infinity
abbrev pub finite_miles : Progress → Bool
finite_miles Waiting = true
finite_miles (Flying miles) = finite miles

-- whether it flies
abbrev pub flying : Progress → Bool
flying Waiting = false
flying (Flying miles) = true
