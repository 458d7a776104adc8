-- `text::put_text` meets its contract. The loop's invariant: what is left to put are the bytes from this one on. Assumes nothing.
use mathlib.Core.List.{[], ◌∷◌}
use Prim.Native.Nat.{◌+◌}
use lib.ListN.{get_or, drop}
use Rattle.text.proofs.Texts.{left_all, left_more, left_none, from_here, past_all}
use Rattle.text.proofs.put_text.Goals as goal

pub loop-byte-init : goal.loop-byte-init
loop-byte-init c = left_all _ _ _

pub loop-byte-preserved : goal.loop-byte-preserved
loop-byte-preserved c =
    let l = c.loop-byte in
    let text = c.args.text.now in
    left_more (get_or text l.byte-index 0 ∷ []) (drop (l.byte-index + 1) text) l.invariant (from_here text l.byte-index c.loop-byte-test.true) c.put_byte-end.ensures

pub returns : goal.returns
returns c = left_none c.loop-byte.invariant (past_all c.args.text.now c.loop-byte.byte-index c.loop-byte-test.false)
