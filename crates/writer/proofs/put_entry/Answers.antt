-- `writer::put_entry` meets its contract: its three numbers. Assumes nothing.
use Rattle.text.proofs.Texts.{put_more, put_same}
use Rattle.writer.proofs.put_entry.Goals as goal

pub shape_of-out : goal.shape_of-out
shape_of-out c =
    put_same (put_more (put_more c.put_number16-second.ensures c.put_number32-third.ensures) c.put_number32.ensures)

pub returns : goal.returns
returns c =
    put_more (put_more c.put_number16-second.ensures c.put_number32-third.ensures) c.put_number32.ensures
