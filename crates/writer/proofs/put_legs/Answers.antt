-- `writer::put_legs` meets its contract: its four numbers. Assumes nothing.
use Rattle.text.proofs.Texts.{put_more, put_same}
use Rattle.writer.proofs.put_legs.Goals as goal

pub shape_of-out : goal.shape_of-out
shape_of-out c =
    put_same (put_more (put_more (put_more c.put_number16-second.ensures c.put_number16-third.ensures) c.put_number16-fourth.ensures) c.put_number16.ensures)

pub returns : goal.returns
returns c =
    put_more (put_more (put_more c.put_number16-second.ensures c.put_number16-third.ensures) c.put_number16-fourth.ensures) c.put_number16.ensures
