-- `demonstration::put_end` meets its contract: the word, and the line of the count. Assumes nothing.
use Rattle.text.proofs.Texts.{put_more, put_same}
use Rattle.demonstration.proofs.put_end.Goals as goal

pub shape_of-out : goal.shape_of-out
shape_of-out c =
    put_same (put_more c.put_word-next.ensures c.put_line.ensures)

pub returns : goal.returns
returns c =
    put_more c.put_word-next.ensures c.put_line.ensures
