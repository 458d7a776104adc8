-- `text::put_named` meets its contract: the name, and the line of the number. Assumes nothing.
use Rattle.text.proofs.Texts.{put_more}
use Rattle.text.proofs.put_named.Goals as goal

pub returns : goal.returns
returns c = put_more c.put_text-next.ensures c.put_line.ensures
