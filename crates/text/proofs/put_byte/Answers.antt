-- `text::put_byte` meets its contract, where there is room and where there is none. Assumes nothing.
use Rattle.text.proofs.Texts.{one_put, none_put}
use Rattle.text.proofs.put_byte.Goals as goal

pub returns-then-at-out : goal.returns-then-at-out
returns-then-at-out c = one_put c.args.out.now c.args.at c.args.byte c.if-at-out.true

pub returns : goal.returns
returns c = none_put c.args.out.now c.args.at c.args.byte c.if-at-out.false
