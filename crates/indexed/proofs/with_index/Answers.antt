-- `indexed::with_index` meets its contract. Assumes nothing.
use mathlib.Core.Path.{ap}
use Rattle.finder.specs.declared.Index.{Index}
use Rattle.indexed.specs.Indexed.{with_index}
use Rattle.indexed.proofs.with_index.Goals as goal

pub returns : goal.returns
unfolding with_index
returns c = ap (λ (i : Index). record { field = c.args.f; index = i }) c.index_of.ensures
