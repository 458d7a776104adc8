-- The twelve digits after the point are r / 4096 exactly, and the last of them is not 0: computed for each r below 4096. Assumes nothing.
use Rattle.std.proofs.Common.{◌≡◌, ℕ, ◌*◌, ◌^◌, ◌<◌, Bool, ◌&&◌, T, eqb, arith, eqb→eq}
use lib.Ieee.Fits.{and_l, and_r}
use Rattle.field.specs.Airspace.{zones_from}
use Rattle.field.specs.Lists.{every}
use Rattle.field.proofs.TestLaws.{every_from}
use Rattle.miles.specs.Miles.{decimals, worth_of, ends_well}

abbrev sound : ℕ → Bool
sound r = eqb (4096 * worth_of 12 (decimals 12 r)) (r * 10 ^ 12) && ends_well (decimals 12 r)

all_sound : T (every sound (zones_from 0 4096))
unfolding decimals
all_sound = tt

here : (r : ℕ) → r < 4096 → T (sound r)
here r h = every_from sound 0 4096 all_sound r (omega arith) (omega arith)

pub digits_exact : (r : ℕ) → r < 4096 → 4096 * worth_of 12 (decimals 12 r) ≡ r * 10 ^ 12
digits_exact r h = eqb→eq (4096 * worth_of 12 (decimals 12 r)) (r * 10 ^ 12) (and_l (eqb (4096 * worth_of 12 (decimals 12 r)) (r * 10 ^ 12)) (ends_well (decimals 12 r)) (here r h))

pub digits_end : (r : ℕ) → r < 4096 → T (ends_well (decimals 12 r))
digits_end r h = and_r (eqb (4096 * worth_of 12 (decimals 12 r)) (r * 10 ^ 12)) (ends_well (decimals 12 r)) (here r h)
