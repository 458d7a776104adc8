-- An aircraft's `put` meets its contract: its parts, one after the other. Assumes nothing.
use mathlib.Core.Path.{ap}
use Rattle.words.specs.Words.{bytes64}
use Rattle.words.proofs.Puts.{put_as}
use Rattle.layout.specs.Written.{aircraft_bytes}
use Rattle.text.proofs.Texts.{put_more}
use Rattle.encoding.proofs.AircraftStored.put.Goals as goal

pub returns : goal.returns
unfolding aircraft_bytes
returns c =
    let first = put_more (put_more c.put_number16-fix.ensures c.put_byte-desk.ensures) c.put_byte-speed.ensures in
    let flown = put_as (ap bytes64 c.progress_bits.ensures) c.put_number64-waited.ensures in
    put_more (put_more (put_more (put_more first c.put_number16-progress.ensures) flown) c.put_bits-leg.ensures) c.put_bits.ensures
