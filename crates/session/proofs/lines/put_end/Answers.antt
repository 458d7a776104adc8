-- `session::lines::put_end` meets its contract: `end`, and the line of the five counts. Assumes nothing.
use Rattle.text.proofs.Texts.{put_more, put_same}
use Rattle.session.specs.Report.{end_line}
use Rattle.session.proofs.lines.put_end.Goals as goal

pub shape_of-out : goal.shape_of-out
shape_of-out c =
    put_same (put_more c.put_text-next.ensures c.put_line.ensures)

pub returns : goal.returns
unfolding end_line
returns c =
    put_more c.put_text-next.ensures c.put_line.ensures
