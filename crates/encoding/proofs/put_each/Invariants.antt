-- `encoding::put_each` meets its contract: the bytes of those from the one at hand on are left to put. Assumes nothing.
use lib.ListN.{drop}
use Rattle.text.proofs.Texts.{Left}
use Rattle.layout.specs.Written.{bytes_of_each}
use Rattle.encoding.proofs.put_each.Given as goal

abbrev pub invariant-loop-one : goal.invariant-loop-one
invariant-loop-one g l = Left l.initial.out l.at (bytes_of_each g.T.Stored.bytes l.several) l.out l.end (bytes_of_each g.T.Stored.bytes (drop l.one-index l.several))
