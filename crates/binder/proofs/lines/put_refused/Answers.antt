-- `binder::lines::put_refused` meets its contract: `binder`, and the line of its number. Assumes nothing.
use Rattle.binder.specs.Week.{refused_binder}
use Rattle.binder.proofs.lines.put_refused.Goals as goal

pub returns : goal.returns
unfolding refused_binder
returns c = c.put_named.ensures
