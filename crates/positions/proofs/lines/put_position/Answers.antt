-- `positions::lines::put_position` meets its contract: the zone, the number and the miles waited, a space before each. Assumes nothing.
use Rattle.text.proofs.Texts.{put_more}
use Rattle.positions.specs.Positions.{position_text}
use Rattle.positions.proofs.lines.put_position.Goals as goal

pub returns : goal.returns
unfolding position_text
returns c =
    put_more c.put_another-place.ensures (put_more c.put_another-number.ensures (put_more c.put_byte-after.ensures c.put_miles.ensures))
