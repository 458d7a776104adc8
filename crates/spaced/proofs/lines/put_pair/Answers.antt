-- `spaced::lines::put_pair` meets its contract: the two numbers, a space after each, and the spacing. Assumes nothing.
use Rattle.text.proofs.Texts.{put_more}
use Rattle.spaced.specs.Spaced.{pair_line}
use Rattle.spaced.proofs.lines.put_pair.Goals as goal

pub returns : goal.returns
unfolding pair_line
returns c =
    put_more c.put_number-leader.ensures
    (put_more c.put_byte-between.ensures (put_more c.put_number-follower.ensures (put_more c.put_byte-after.ensures c.put_spacing.ensures)))
