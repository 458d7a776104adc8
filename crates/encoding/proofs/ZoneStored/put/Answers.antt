-- A zone's `put` meets its contract: the aircraft, and the length. Assumes nothing.
use Rattle.layout.specs.Written.{zone_bytes}
use Rattle.text.proofs.Texts.{put_more}
use Rattle.encoding.proofs.ZoneStored.put.Goals as goal

pub returns : goal.returns
unfolding zone_bytes
returns c = put_more c.put_each-length.ensures c.put_number64.ensures
