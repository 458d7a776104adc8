-- `positions::lines::put_field` meets its contract: the index, the next fix, the sequence, everyone by zone, and a newline. Assumes nothing.
use Rattle.text.proofs.Texts.{put_more}
use Rattle.positions.specs.Positions.{field_line}
use Rattle.positions.proofs.lines.put_field.Goals as goal

pub returns : goal.returns
unfolding field_line
returns c =
    put_more c.put_number-first.ensures (put_more c.put_another-fix.ensures (put_more c.put_sequence-order.ensures (put_more c.put_zones-last.ensures c.put_byte.ensures)))
