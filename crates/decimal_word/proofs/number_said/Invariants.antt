-- `decimal_word::number_said` meets its contract. The loop's invariant: the bytes from this one on, behind the number read, say what the word says.
-- Assumes nothing.
use mathlib.Core.Path.{◌≡◌}
use lib.ListN.{drop}
use Rattle.decimal_word.specs.DecimalWord.{said_from, number_said}
use Rattle.decimal_word.proofs.number_said.Given as goal

abbrev pub invariant-loop-byte : goal.invariant-loop-byte
invariant-loop-byte l = number_said l.word ≡ said_from l.n (drop l.byte-index l.word)
