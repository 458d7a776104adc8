-- `binder::counts::Counts::add_answers` meets its contract. The loop's invariant: with the entries from this one on counted, the counts are those of
-- all. Assumes nothing.
use mathlib.Core.Path.{◌≡◌}
use Prim.Native.Nat.{◌+◌}
use lib.ListN.{drop}
use Rattle.field.specs.Lists.{Each}
use Rattle.binder.specs.Counts.{Small, Columned, with_answers}
use Rattle.binder.proofs.counts.Counts.add_answers.Given as goal

abbrev pub invariant-loop-entry : goal.invariant-loop-entry
invariant-loop-entry l =
    record {
      small : Small (1000000 + l.entry-index) l.self;
      columned : Each Columned (drop l.entry-index l.entries);
      same : with_answers l.self (drop l.entry-index l.entries) ≡ with_answers l.initial.self l.entries;
    }
