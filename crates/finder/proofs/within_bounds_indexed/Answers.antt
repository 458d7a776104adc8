-- `finder::within_bounds_indexed` meets its contract: each test decides a part of the definition. Assumes nothing.
use Rattle.std.proofs.Common.{sym, ◌∙◌}
use Rattle.field.proofs.TestParts.{and_then, and_cut}
use Rattle.finder.specs.Finder.{same_index, within_bounds_indexed}
use Rattle.finder.proofs.IndexEquality.{entries_equality}
use Rattle.finder.proofs.within_bounds_indexed.Goals as goal

pub returns-then-within_bounds : goal.returns-then-within_bounds
unfolding within_bounds_indexed same_index
returns-then-within_bounds c =
    let same = simp entries_equality at c.eq.ensures in
    sym (and_then (sym c.within_bounds.ensures ∙ c.if-within_bounds.true) (cc))

pub returns-else-within_bounds : goal.returns-else-within_bounds
unfolding within_bounds_indexed
returns-else-within_bounds c = c.if-within_bounds.false ∙ sym (and_cut _ (sym c.within_bounds.ensures ∙ c.if-within_bounds.false))
