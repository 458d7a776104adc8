-- `week_table::cell_of` meets its contract: the row and the column. Assumes nothing.
use mathlib.Core.Path.{◌≡◌, sym, ap, ◌∙◌}
use mathlib.Core.Bool.{Bool, cond}
use Prim.Native.Nat.{ℕ, ◌+◌, ◌-◌, ◌*◌}
use borrow.Author.Tests.{lt-ltb, le-ltb}
use Rattle.week_table.specs.Table.{row_place, column_place, cell_of}
use Rattle.week_table.proofs.cell_of.Goals.{then-number-lt10, else-number-lt10}
use Rattle.week_table.proofs.cell_of.Goals as goal

pub returns : goal.returns
unfolding cell_of
returns c =
    let number = c.args.number in
    let column : c.if-number-lt10.column ≡ column_place number =
    elim c.if-number-lt10.branch [
      | then-number-lt10 w ↦ w.column-is ∙ sym (ap (λ (b : Bool). cond b number (number - 5)) (lt-ltb number 10 w.if-number-lt10.true))
      | else-number-lt10 w ↦ w.column-is ∙ sym (ap (λ (b : Bool). cond b number (number - 5)) (le-ltb number 10 w.if-number-lt10.false))
    ] in
    ap (λ (r : ℕ). 21 * r + c.if-number-lt10.column) c.row_of.ensures ∙ ap (λ (k : ℕ). 21 * row_place c.args.kind + k) column
