-- `encoding::put_sequence` meets its contract: the numbers, and the length. Assumes nothing.
use Rattle.layout.specs.Written.{sequence_bytes}
use Rattle.text.proofs.Texts.{put_more}
use Rattle.encoding.proofs.put_sequence.Goals as goal

pub returns : goal.returns
unfolding sequence_bytes
returns c = put_more c.put_each-length.ensures c.put_number64.ensures
