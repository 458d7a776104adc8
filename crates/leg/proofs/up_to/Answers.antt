-- `leg::up_to` meets its contract: each arm returns what `up_to` picks where the test is as the arm found it. Assumes nothing.
use mathlib.Core.Path.{sym}
use Rattle.leg.proofs.Grid.{up_to_yes, up_to_no}
use Rattle.leg.proofs.up_to.Goals as goal

pub returns-then-x-limit : goal.returns-then-x-limit
returns-then-x-limit c = sym (up_to_yes c.args.limit c.args.x c.if-x-limit.true)

pub returns-else-x-limit : goal.returns-else-x-limit
returns-else-x-limit c = sym (up_to_no c.args.limit c.args.x c.if-x-limit.false)
