-- `encoding::put_legs` meets its contract: the four legs, one after the other. Assumes nothing.
use Rattle.layout.specs.Written.{legs_bytes}
use Rattle.text.proofs.Texts.{put_more}
use Rattle.encoding.proofs.put_legs.Goals as goal

pub returns : goal.returns
unfolding legs_bytes
returns c =
    put_more (put_more (put_more c.put_bits-base.ensures c.put_bits-intermediate.ensures) c.put_bits-last.ensures) c.put_bits.ensures
