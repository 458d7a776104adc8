-- `words::put_number64` meets its contract: the bytes, the low one first. Assumes nothing.
use mathlib.Core.Path.{◌∙◌}
use Rattle.words.proofs.LowFirst.{low_first64}
use Rattle.words.proofs.Puts.{put_as}
use Rattle.words.proofs.put_number64.Goals as goal

pub returns : goal.returns
returns c = put_as (c.to_le_bytes.ensures ∙ low_first64 _ c.ranges.n.fits) c.put_text.ensures
