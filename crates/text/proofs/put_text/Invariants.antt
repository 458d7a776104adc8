-- `text::put_text` meets its contract. The loop's invariant: what is left to put are the bytes from this one on. Assumes nothing.
use lib.ListN.{drop}
use Rattle.text.proofs.Texts.{Left}
use Rattle.text.proofs.put_text.Given as goal

abbrev pub invariant-loop-byte : goal.invariant-loop-byte
invariant-loop-byte l = Left l.initial.out l.at l.text l.out l.end (drop l.byte-index l.text)
