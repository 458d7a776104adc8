-- `binder::lines::put_week` meets its contract: its lines, one after the other. Assumes nothing.
use native.Mathlib.Omega.{arith}
use Rattle.text.specs.Text.{digits_up_to, decimal}
use Rattle.text.proofs.Texts.{put_more}
use Rattle.binder.specs.Counting.{columns}
use Rattle.binder.specs.Week.{files_line, refused_files_line, heading_line, moves_line, landings_line}
use Rattle.binder.specs.Counts.{week_lines}
use Rattle.binder.proofs.Rows.{Counted64, week_short}
use Rattle.binder.proofs.lines.put_week.Goals as goal

pub returns : goal.returns
unfolding week_lines files_line refused_files_line heading_line moves_line landings_line columns decimal digits_up_to
returns c =
    let counts : Counted64 c.args.c =
    record {
      played = omega (arith, c.well_formed.1.0);
      refused5 = omega (arith, c.well_formed.1.0);
      refused6 = omega (arith, c.well_formed.1.0);
      refused7 = omega (arith, c.well_formed.1.0);
      moves = omega (arith, c.well_formed.1.0);
      landings = omega (arith, c.well_formed.1.0);
    } in
    record {
      put =
          put_more (put_more (put_more (put_more (put_more (put_more (put_more c.put_named-at.ensures c.put_named-at-2.ensures) c.put_named-at-3.ensures) c.put_named-at-4.ensures)
          c.put_text-at.ensures) c.put_rows-at.ensures.put) c.put_named-at-5.ensures) c.put_named.ensures;
      c_len_bound = week_short c.args.c counts c.put_rows-at.ensures.cells_len_bound;
    }
