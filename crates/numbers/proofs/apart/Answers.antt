-- `numbers::apart` meets its contract. The loop's invariant: those it has passed change nothing. Assumes nothing.
use mathlib.Core.Path.{sym, ◌∙◌}
use native.Mathlib.Omega.{arith}
use borrow.Author.Tests.{eq-eqb, ne_eqb}
use Rattle.numbers.specs.Numbers.{numbers_of}
use Rattle.numbers.proofs.NumbersOf.{queue_more, queue_zero, queue_twice, queue_behind}
use Rattle.numbers.proofs.apart.Goals.{then-a-eq0-via-then-a-eq0, then-a-eq0-via-else-a-eq0+then-has, then-a-eq0-via-else-a-eq0+else-has+then-has_in}
use Rattle.numbers.proofs.apart.Goals as goal

pub returns-then-a-eq0 : goal.returns-then-a-eq0
returns-then-a-eq0 c =
    let l = c.args.queue.now in
    let behind = numbers_of c.args.behind.now in
    let at = c.loop-i in
    sym
    (elim c.then-a-eq0.branch [
      | then-a-eq0-via-then-a-eq0 w ↦ queue_zero l behind at.i _ (omega arith) at.invariant (eq-eqb _ _ w.if-a-eq0.true)
      | then-a-eq0-via-else-a-eq0+then-has w ↦ queue_twice l behind at.i _ (omega arith) at.invariant (sym w.has.ensures ∙ w.if-has.true)
      | then-a-eq0-via-else-a-eq0+else-has+then-has_in w ↦ queue_behind l behind at.i _ (omega arith) at.invariant (sym w.has_in.ensures ∙ w.if-has_in.true)
    ])

pub loop-i-preserved : goal.loop-i-preserved
loop-i-preserved c =
    let at = c.loop-i in
    queue_more c.args.queue.now (numbers_of c.args.behind.now) at.i _ (omega arith) at.invariant (ne_eqb _ _ c.if-a-eq0.false) (sym c.has.ensures ∙ c.if-has.false)
    (sym c.has_in.ensures ∙ c.if-has_in.false)
