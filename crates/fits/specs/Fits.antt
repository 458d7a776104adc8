-- Document 01, "The bounds", g, a test of any field. Document 02 adds the miles waited (2.2), the own leg, against which the miles are
-- measured (2.7), and the desk (2.10).
use Rattle.std.specs.Prelude.{Bool, true, false, cond, not, ◌&&◌, ◌||◌, ℕ, eqb, leb, Float}
use Rattle.std.specs.Float.Ieee.{eq}
use Rattle.limits.specs.Limits.{fastest, desks}
use Rattle.leg.specs.Progress.{whole, waited_within, within_leg, legal_leg, legal_leg_after_miss}
use Rattle.leg.specs.declared.Progress.{Progress}
use Rattle.leg.specs.declared.Progress.TheVariants.{Waiting, Flying}
use Rattle.field.specs.declared.Aircraft.{Aircraft}
use Rattle.field.specs.declared.Legs.{Legs}
use Rattle.field.specs.declared.Field.{Field}
use Rattle.field.specs.Airspace.{right, left, is_side, missed, everywhere, is_flying_zone, in_zone, leg_of}
use Rattle.field.specs.Lists.{every}

-- whether a progress is that of one who waits
abbrev pub is_waiting : Progress → Bool
is_waiting Waiting = true
is_waiting (Flying miles) = false

-- the own leg of one in zone z (02, 2.7): of any legal length in a missed zone; elsewhere as long as the field's leg of the zone, which is 0 where nobody flies
unfoldable pub leg_fits : Legs → ℕ → Float → Bool
leg_fits legs z leg = cond (eqb z (missed right) || eqb z (missed left)) (legal_leg_after_miss leg) (eq leg (leg_of legs z))

-- one in zone z: its fix is a side; its speed, its desk and its miles waited are within their limits; its own leg fits; and in zones 7 to 12 it flies, its
-- miles within its own leg, while in all others it waits
unfoldable pub fits_zone : Legs → ℕ → Aircraft → Bool
fits_zone legs z a =
    is_side a.fix && (leb 1 a.speed && leb a.speed fastest) && (leb 1 a.desk && leb a.desk desks) && waited_within a.waited && leg_fits legs z a.leg
    && cond (is_flying_zone z) (not (is_waiting a.progress) && within_leg a.progress a.leg) (is_waiting a.progress)

-- the four legs of a field have legal lengths
unfoldable pub legal_legs : Legs → Bool
legal_legs legs = legal_leg legs.missed && legal_leg legs.base && legal_leg legs.intermediate && legal_leg legs.final_approach

-- g: everyone fits its zone, the next fix is a side, and the legs are legal
unfoldable pub bound_g : Field → Bool
bound_g f = every (λ z. every (fits_zone f.legs z) (in_zone f z)) everywhere && is_side f.next && legal_legs f.legs
