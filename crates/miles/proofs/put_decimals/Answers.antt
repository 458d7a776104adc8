-- `miles::put_decimals` meets its contract. The loop's invariant: the digits of the rest are left to put. Assumes nothing.
use Rattle.std.proofs.Common.{◌-◌, arith}
use Rattle.text.proofs.Texts.{left_all, left_none}
use Rattle.miles.proofs.Decimals.{putting_more, decimals_none, decimals_past}
use Rattle.miles.proofs.put_decimals.Goals as goal

pub loop-place-init : goal.loop-place-init
loop-place-init c = record { within = omega arith; small = omega arith; left = left_all _ _ _ }

pub returns-then-rest-eq0 : goal.returns-then-rest-eq0
returns-then-rest-eq0 c = let l = c.loop-place in left_none l.invariant.left (decimals_none (12 - l._place) c.if-rest-eq0.true)

pub loop-place-preserved : goal.loop-place-preserved
loop-place-preserved c =
    putting_more c.loop-place.invariant (omega arith) c.if-rest-eq0.false c.put_byte-end.ensures

pub returns : goal.returns
returns c =
    let l = c.loop-place in
    left_none l.invariant.left (decimals_past l._place _ (omega arith))
