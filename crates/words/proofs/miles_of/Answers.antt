-- `words::miles_of` meets its contract: the NaN for the bits of one, and what the other bits are. Assumes nothing.
use mathlib.Core.Path.{sym, ◌∙◌}
use Rattle.words.proofs.Patterns.{nan_above, no_nan_below, nan_read}
use Rattle.words.proofs.miles_of.Goals as goal

pub returns-then-bits-gt-INFINITY_BITS : goal.returns-then-bits-gt-INFINITY_BITS
returns-then-bits-gt-INFINITY_BITS c = nan_read ∙ sym (nan_above _ c.if-bits-gt-INFINITY_BITS.true)

pub float_from_bits-result : goal.float_from_bits-result
float_from_bits-result c = no_nan_below _ c.if-bits-gt-INFINITY_BITS.false
