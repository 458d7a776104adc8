-- `spaced::lines::put_gap` meets its contract: the miles, and a newline. Assumes nothing.
use Rattle.text.proofs.Texts.{put_more}
use Rattle.spaced.specs.Spaced.{gap_text}
use Rattle.spaced.proofs.lines.put_gap.Goals as goal

pub returns : goal.returns
unfolding gap_text
returns c =
    put_more c.put_miles-next.ensures c.put_byte.ensures
