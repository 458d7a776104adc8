-- `writer::put_file` meets its contract: its parts, one after the other. Assumes nothing.
use Rattle.text.proofs.Texts.{put_more, put_same}
use Rattle.writer.proofs.put_file.Goals as goal

pub shape_of-out : goal.shape_of-out
shape_of-out c =
    put_same (put_more (put_more (put_more (put_more (put_more c.put_text-count.ensures c.put_number16-first.ensures) c.put_entry-second.ensures) c.put_entry-body.ensures)
    c.put_legs-next.ensures) c.put_text.ensures)

pub returns : goal.returns
returns c =
    put_more (put_more (put_more (put_more (put_more c.put_text-count.ensures c.put_number16-first.ensures) c.put_entry-second.ensures) c.put_entry-body.ensures) c.put_legs-next.ensures)
    c.put_text.ensures
