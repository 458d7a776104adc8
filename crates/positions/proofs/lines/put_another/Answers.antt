-- `positions::lines::put_another` meets its contract: a space, and the number. Assumes nothing.
use Rattle.text.proofs.Texts.{put_more}
use Rattle.positions.proofs.lines.put_another.Goals as goal

pub returns : goal.returns
returns c =
    put_more c.put_byte-next.ensures c.put_number.ensures
