-- `words::put_bits` meets its contract: the number of the bits is put. Assumes nothing.
use mathlib.Core.Path.{ap}
use Rattle.words.specs.Words.{bytes64}
use Rattle.words.proofs.Puts.{put_as}
use Rattle.words.proofs.put_bits.Goals as goal

pub returns : goal.returns
returns c = put_as (ap bytes64 c.bits_of.ensures) c.put_number64.ensures
