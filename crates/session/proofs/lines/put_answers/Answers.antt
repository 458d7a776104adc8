-- `session::lines::put_answers` meets its contract. The loop's invariant: the lines of the entries from this one on are left to put. Assumes nothing.
use mathlib.Core.Path.{subst}
use mathlib.Core.List.{List, []}
use Prim.Native.Nat.{ℕ, suc, ◌+◌}
use lib.ListN.{get_or, drop}
use Rattle.text.specs.Buffer.{Put}
use Rattle.text.proofs.Texts.{left_all, left_more, left_none}
use Rattle.session.specs.Entries.{entry_line, entry_lines}
use Rattle.session.proofs.LogLines.{line_here, numbers_line, no_line}
use Rattle.session.proofs.lines.put_answers.Goals as goal

pub loop-i-init : goal.loop-i-init
loop-i-init c = left_all _ _ _

pub loop-i-preserved : goal.loop-i-preserved
loop-i-preserved c =
    let l = c.loop-i in
    let entries = c.args.entries.now in
    let entry = get_or entries l.i [] in
    let line = numbers_line c.map-numbers.result entry l.i c.map-numbers.ensures.items.long (c.told-entries l.i c.loop-i-test.true) (λ k h. (c.map-numbers.ensures.items.at k 0 0 h).2.met) in
    left_more (entry_line (suc l.i) entry) (entry_lines (suc (l.i + 1)) (drop (l.i + 1) entries)) l.invariant (line_here entries l.i [] c.loop-i-test.true)
    (subst (λ (bytes : List ℕ). Put l.out l.at bytes c.put_line-at.new.out c.put_line-at.result) line c.put_line-at.ensures)

pub returns : goal.returns
returns c = left_none c.loop-i.invariant (no_line _ c.args.entries.now c.loop-i.i c.loop-i-test.false)
