-- `questions::counts::have_fix` meets its contract: the number is that of those in the queue that pass the test. Assumes nothing.
use Rattle.std.proofs.Common.{rules, ◌≡◌, ◌∙◌, sym, nat_eq, count_by}
use Rattle.field.specs.Airspace.{queue_of}
use Rattle.questions.proofs.Totals.{have_fix_counted}
use Rattle.questions.proofs.counts.have_fix.Goals as goal

pub returns : goal.returns
returns c =
    let counted : c.count.result ≡ count_by (λ a. nat_eq a.fix c.args.fix) (queue_of c.args.q.now) = search rules in
    counted ∙ sym (have_fix_counted c.args.fix (queue_of c.args.q.now))
