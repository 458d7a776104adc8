-- `spaced::lines::put_spacings` meets its contract. The loop's invariant: the lines of the pairs from this one on are left to put. Assumes nothing.
use lib.ListN.{drop}
use Rattle.text.proofs.Texts.{Left}
use Rattle.spaced.specs.Spaced.{pair_lines}
use Rattle.spaced.proofs.lines.put_spacings.Given as goal

abbrev pub invariant-loop-p : goal.invariant-loop-p
invariant-loop-p l = Left l.initial.out 0 (pair_lines l.p-items) l.out l.at (pair_lines (drop l.p-index l.p-items))
