-- `contents::file_count` meets its contract: the binder is accepted or refused. Assumes nothing.
use mathlib.Core.Path.{sym, ap, ◌∙◌}
use mathlib.Core.Bool.{Bool, cond}
use borrow.Author.Tests.{ne_eqb}
use Rattle.refusals.proofs.Outcomes.{number_some}
use Rattle.contents.specs.Contents.{entry_count, binder_number, file_count}
use Rattle.contents.proofs.AcceptedBinder.{count_of}
use Rattle.contents.proofs.file_count.Goals as goal

pub returns-in-Ok : goal.returns-in-Ok
returns-in-Ok c = c.entry_count.ensures ∙ sym (count_of _ (sym c.in-Ok.ensures))

pub returns-in-Err : goal.returns-in-Err
unfolding file_count
returns-in-Err c =
    let bytes = c.args.binder.now in
    sym (ap (λ (t : Bool). cond t (entry_count bytes) 0) (ne_eqb (binder_number bytes) 0 (λ e. number_some _ (c.in-Err.ensures ∙ e))))
