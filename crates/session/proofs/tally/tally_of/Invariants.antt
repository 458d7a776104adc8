-- `session::tally::tally_of` meets its contract. The loop's invariant: with the entries from this one on counted, the counts are those of all. Assumes nothing.
use mathlib.Core.Path.{◌≡◌}
use Prim.Native.Nat.{suc}
use lib.ListN.{drop}
use Rattle.session.specs.Tally.{Under, empty_tally}
use Rattle.session.specs.Entries.{all_tallied}
use Rattle.session.proofs.tally.tally_of.Given as goal

abbrev pub invariant-loop-entry : goal.invariant-loop-entry
invariant-loop-entry l = record { few : Under (suc l.entry-index) l.t; same : all_tallied l.t (drop l.entry-index l.entries) ≡ all_tallied empty_tally l.entries }
