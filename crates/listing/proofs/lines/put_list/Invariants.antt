-- `listing::lines::put_list` meets its contract. The loop's invariant: the lines of the entries from this one on are left to put. Assumes nothing.
use lib.ListN.{drop}
use Rattle.text.proofs.Texts.{Left}
use Rattle.listing.specs.Report.{entry_lines}
use Rattle.listing.proofs.lines.put_list.Given as goal

abbrev pub invariant-loop-e : goal.invariant-loop-e
invariant-loop-e l = Left l.initial.out l.at (entry_lines l.e-items) l.out l.next (entry_lines (drop l.e-index l.e-items))
