-- `session::lines::put_answers` meets its contract. The loop's invariant: the lines of the entries from this one on are left to put. Assumes nothing.
use Prim.Native.Nat.{suc}
use lib.ListN.{drop}
use Rattle.text.proofs.Texts.{Left}
use Rattle.session.specs.Entries.{entry_lines}
use Rattle.session.proofs.lines.put_answers.Given as goal

abbrev pub invariant-loop-i : goal.invariant-loop-i
invariant-loop-i l = Left l.initial.out 0 (entry_lines 1 l.entries) l.out l.at (entry_lines (suc l.i) (drop l.i l.entries))
