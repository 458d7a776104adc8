-- `text::put_line` meets its contract. The loop's invariant: what is left to put is the line from this number on. Assumes nothing.
use mathlib.Core.Path.{◌≡◌}
use mathlib.Core.List.{[], ◌∷◌, ◌++◌}
use Rattle.text.proofs.Texts.{left_all, line_more, line_end}
use Rattle.text.proofs.put_line.Goals as goal

pub loop-n-init : goal.loop-n-init
loop-n-init c = left_all _ _ _

pub loop-n-preserved : goal.loop-n-preserved
loop-n-preserved c =
    let l = c.loop-n in
    line_more c.in-Some.others.now c.in-Some.last.now l.n-index c.loop-n-test.true l.invariant c.put_number-end.ensures c.put_byte-end.ensures

pub returns : goal.returns
returns c =
    let l = c.loop-n in
    let all : c.args.numbers.now ≡ c.in-Some.others.now ++ (c.in-Some.last.now ∷ []) = c.in-Some.ensures.cases.0 in
    rw all (line_end c.in-Some.others.now c.in-Some.last.now l.n-index c.loop-n-test.false l.invariant c.put_number-end-2.ensures c.put_byte.ensures)
