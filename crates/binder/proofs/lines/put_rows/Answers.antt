-- `binder::lines::put_rows` meets its contract. The loop's invariant: the rows before this one are put. Assumes nothing.
use mathlib.Core.Path.{◌≡◌}
use Prim.Native.Nat.{◌*◌, ◌<◌}
use native.Mathlib.Numerals.{add-one}
use native.Mathlib.Omega.{arith}
use lib.ListN.{length-append}
use Rattle.practice.specs.Sections.{stretch}
use Rattle.text.proofs.Texts.{put_none, put_more}
use Rattle.binder.specs.Week.{row_line}
use Rattle.binder.specs.Counts.{row_at, rows_to}
use Rattle.binder.proofs.Rows.{row_here, row_size}
use Rattle.binder.proofs.lines.put_rows.Goals as goal

pub loop-row-init : goal.loop-row-init
loop-row-init c = record { lines = put_none _ _; short = omega arith }

pub put_row-end-requires : goal.put_row-end-requires
put_row-end-requires c =
    let row = c.loop-row.row in
    let low : row < 13 = omega (arith, c.as_chunks.ensures.front_len, c.told-cells) in
    (low, row_size c.args.cells.now c.as_chunks.result.0.now c.told-cells c.as_chunks.ensures.front row low)

pub loop-row-preserved : goal.loop-row-preserved
loop-row-preserved c =
    let cells = c.args.cells.now in
    let row = c.loop-row.row in
    let low : row < 13 = omega (arith, c.as_chunks.ensures.front_len, c.told-cells) in
    let here = row_here cells c.as_chunks.result.0.now c.told-cells c.as_chunks.ensures.front row low in
    let put = rw here at c.put_row-end.ensures.put in
    let short = rw here at c.put_row-end.ensures.counts_len_bound in
    let both = length-append (rows_to cells row) (row_line (row_at row) (stretch cells (21 * row) 21)) in
    record { lines = rw (add-one) (put_more c.loop-row.invariant.lines put); short = rw (add-one) (omega (arith, c.loop-row.invariant.short)) }

pub returns : goal.returns
returns c =
    let l = c.loop-row in
    let e : l.row ≡ 13 = omega (arith, c.as_chunks.ensures.front_len, c.told-cells) in
    record { put = rw e at l.invariant.lines; cells_len_bound = let h = rw e at l.invariant.short in omega arith }
