-- An indexed field's `put` meets its contract: the field, and the index. Assumes nothing.
use Rattle.layout.specs.Written.{indexed_bytes}
use Rattle.text.proofs.Texts.{put_more}
use Rattle.encoding.proofs.IndexedStored.put.Goals as goal

pub returns : goal.returns
unfolding indexed_bytes
returns c = put_more c.put_field-index.ensures c.put_each.ensures
