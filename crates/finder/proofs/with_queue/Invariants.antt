-- `finder::with_queue` meets its contract: what the rest of the queue leads to from here is what the whole queue leads to. Assumes nothing.
use Rattle.std.proofs.Common.{◌≡◌, ℕ, ◌+◌, List, drop}
use Rattle.field.specs.declared.Aircraft.{Aircraft}
use Rattle.finder.specs.declared.Entry.{Entry}
use Rattle.finder.specs.Finder.{put_each, entries_from}
use Rattle.finder.proofs.with_queue.Given as goal

-- those before place i of a queue have been put among the entries xs, which gave es
pub record Gathered (zone : ℕ) (queue : List Aircraft) (xs es : List Entry) (i : ℕ) : Type 0 where
  pub rest : put_each (entries_from zone 1 queue) xs ≡ put_each (entries_from zone (i + 1) (drop i queue)) es

abbrev pub invariant-loop-i : goal.invariant-loop-i
invariant-loop-i l = Gathered l.zone l.a-items l.initial.made.entries l.made.entries l.i
