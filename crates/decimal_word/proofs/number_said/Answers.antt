-- `decimal_word::number_said` meets its contract. The loop's invariant: the bytes from this one on, behind the number read, say what the word says.
-- Assumes nothing.
use mathlib.Core.Path.{sym, ◌∙◌}
use Rattle.decimal_word.proofs.Said.{said_none, said_not, said_more, said_all}
use Rattle.decimal_word.proofs.number_said.Goals as goal

pub loop-byte-init : goal.loop-byte-init
loop-byte-init c = said_none c.args.word.now

pub returns-in_default : goal.returns-in_default
returns-in_default c =
    let l = c.loop-byte in
    sym (said_not c.args.word.now l.n l.byte-index l.invariant c.loop-byte-test.true (sym c.with_digit.ensures ∙ c.in_default.is))

pub loop-byte-preserved : goal.loop-byte-preserved
loop-byte-preserved c =
    let l = c.loop-byte in
    said_more c.args.word.now l.n l.byte-index l.invariant c.loop-byte-test.true (sym c.with_digit.ensures ∙ c.in-Some.is)

pub returns : goal.returns
returns c = let l = c.loop-byte in sym (said_all c.args.word.now l.n l.byte-index l.invariant c.loop-byte-test.false)
