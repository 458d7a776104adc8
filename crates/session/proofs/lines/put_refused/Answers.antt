-- `session::lines::put_refused` meets its contract: `file`, and the line of its number. Assumes nothing.
use Rattle.session.specs.Report.{refused_report}
use Rattle.session.proofs.lines.put_refused.Goals as goal

pub returns : goal.returns
unfolding refused_report
returns c = c.put_named.ensures
