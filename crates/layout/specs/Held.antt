-- What a history has by its types, of that which its bytes do not tell by themselves: each array has its places, and each float is one of 64 bits. Numbers need
-- nothing: each is read back from what is written of it. And a history without a NaN. Definitions only.
use Rattle.std.specs.Prelude.{◌≡◌, not, T, Float, length}
use Rattle.std.specs.Float.Ieee.{fits, is_nan}
use Rattle.std.specs.Float.{binary64}
use Rattle.limits.specs.Limits.{most_kept}
use Rattle.leg.specs.declared.Progress.{Progress}
use Rattle.leg.specs.declared.Progress.TheVariants.{Waiting, Flying}
use Rattle.field.specs.declared.Aircraft.{Aircraft}
use Rattle.field.specs.declared.Zone.{Zone}
use Rattle.field.specs.declared.Legs.{Legs}
use Rattle.field.specs.declared.Field.{Field}
use Rattle.finder.specs.declared.Indexed.{Indexed}
use Rattle.field.specs.Lists.{Each}
use Rattle.history.specs.declared.History.{History}

-- ---- each array has its places, and each float has Q

module _ (Q : Float → Type 0) where
  -- the miles flown, where it flies
  abbrev pub ProgressWith : Progress → Type 0
  ProgressWith Waiting = Unit {0}
  ProgressWith (Flying miles) = Q miles

  -- the miles flown, waited and of the leg of an aircraft
  pub record AircraftWith (a : Aircraft) : Type 0 where
    pub progress : ProgressWith a.progress
    pub waited : Q a.waited
    pub leg : Q a.leg

  -- a zone has four places, and the floats of each aircraft in them have Q
  pub record ZoneWith (z : Zone) : Type 0 where
    pub places : length z.aircraft ≡ 4
    pub aircraft : Each AircraftWith z.aircraft

  -- each of the four legs has Q
  pub record LegsWith (legs : Legs) : Type 0 where
    pub missed : Q legs.missed
    pub base : Q legs.base
    pub intermediate : Q legs.intermediate
    pub final_leg : Q legs.final_approach

  -- a field has thirteen zones and four places of the sequence, and the floats of its zones and legs have Q
  pub record FieldWith (f : Field) : Type 0 where
    pub places : length f.zones ≡ 13
    pub zones : Each ZoneWith f.zones
    pub numbers : length f.sequence.numbers ≡ 4
    pub legs : LegsWith f.legs

  -- a field, and an index of five entries
  pub record IndexedWith (x : Indexed) : Type 0 where
    pub field : FieldWith x.field
    pub entries : length x.index.entries ≡ 5

  -- the field now, and the places of the kept ones with a field in each
  pub record HistoryWith (h : History) : Type 0 where
    pub now : IndexedWith h.now
    pub places : length h.kept ≡ most_kept
    pub kept : Each IndexedWith h.kept

-- ---- of the types, and without a NaN

-- a float of 64 bits
abbrev pub MilesHeld : Float → Type 0
MilesHeld x = T (fits binary64 x)

-- what every value of the type History has
abbrev pub HistoryHeld : History → Type 0
HistoryHeld = HistoryWith MilesHeld

-- a float that is no NaN
abbrev pub NoNan : Float → Type 0
NoNan x = T (not (is_nan x))

-- a history in which no float is a NaN
abbrev pub HistoryNoNan : History → Type 0
HistoryNoNan = HistoryWith NoNan
