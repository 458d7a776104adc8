-- `words::bits_of` meets its contract: the bits of what is no NaN, and those of the NaN. Assumes nothing.
use mathlib.Core.Path.{sym, ap, ◌∙◌}
use lib.Ieee.{to_bits, binary64}
use Rattle.words.proofs.Patterns.{is_nan_lem, nan_pattern}
use Rattle.words.proofs.bits_of.Goals as goal

pub returns-then-is_nan : goal.returns-then-is_nan
returns-then-is_nan c = sym (ap (to_bits binary64) (is_nan_lem _ (sym c.is_nan.ensures.value ∙ c.if-is_nan.true)) ∙ nan_pattern)
