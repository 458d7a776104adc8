-- `fits::zones_fit` meets its contract. The loop's invariant: everyone fits in the zones that it has passed. Assumes nothing.
use mathlib.Core.Bool.{Bool}
use Prim.Native.Nat.{ℕ, ◌+◌}
use Rattle.field.specs.declared.Field.{Field}
use Rattle.field.specs.Airspace.{in_zone}
use Rattle.field.specs.Lists.{every}
use Rattle.field.proofs.TestParts.{Passed}
use Rattle.fits.specs.Fits.{fits_zone}
use Rattle.fits.proofs.zones_fit.Given as goal

abbrev pub fit : Field → ℕ → Bool
fit f z = every (fits_zone f.legs z) (in_zone f z)

abbrev pub invariant-loop-i : goal.invariant-loop-i
invariant-loop-i l = Passed (fit l.fn.f) 1 13 (l.i + 1)
