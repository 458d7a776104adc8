-- `encoding::put_field` meets its contract: its parts, one after the other. Assumes nothing.
use Rattle.layout.specs.Written.{field_bytes}
use Rattle.text.proofs.Texts.{put_more}
use Rattle.encoding.proofs.put_field.Goals as goal

pub returns : goal.returns
unfolding field_bytes
returns c =
    put_more (put_more (put_more c.put_each-sequence.ensures c.put_sequence-next.ensures) c.put_byte-legs.ensures) c.put_legs.ensures
