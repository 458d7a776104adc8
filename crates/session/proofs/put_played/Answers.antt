-- `session::put_played` meets its contract: the report of a refused file, or the lines of the entries and the last line. Assumes nothing.
use mathlib.Core.Path.{sym, ap, ◌∙◌, subst}
use mathlib.Core.List.{List, ◌++◌}
use Prim.Native.Nat.{ℕ, ◌*◌}
use native.Mathlib.Omega.{arith}
use lib.ListN.{length-take}
use borrow.Author.Tests.{eq-eqb, ne_eqb}
use Rattle.field.proofs.TestLaws.{if_true, if_false}
use Rattle.text.specs.Buffer.{Put}
use Rattle.text.proofs.Texts.{put_more}
use Rattle.session.specs.declared.tally.Tally.{Tally}
use Rattle.session.specs.Tally.{empty_tally}
use Rattle.session.specs.Report.{end_line, refused_report}
use Rattle.session.specs.Entries.{entry_lines, all_tallied, played_report}
use Rattle.session.proofs.put_played.Goals as goal

pub returns-then-p-ne0-clause-put : goal.returns-then-p-ne0-clause-put
unfolding played_report
returns-then-p-ne0-clause-put c =
    let number = c.args.p.now.number in
    let told = sym (if_false _ (refused_report number) (ne_eqb number 0 c.if-p-ne0.true)) in
    subst (λ (bytes : List ℕ). Put c.args.out.now 0 bytes c.put_refused.new.out c.put_refused.result) told c.put_refused.ensures

pub tally_of-requires : goal.tally_of-requires
tally_of-requires c = omega (arith, c.as_chunks.ensures.front_len, length-take (7 * c.args.p.now.requests) c.args.log.now)

pub returns-clause-put : goal.returns-clause-put
unfolding played_report
returns-clause-put c =
    let p = c.args.p.now in
    let entries = c.as_chunks.result.0.now in
    let counts = ap (λ (t : Tally). entry_lines 1 entries ++ end_line t p.present) c.tally_of.ensures in
    let front = ap (λ (es : List (List ℕ)). entry_lines 1 es ++ end_line (all_tallied empty_tally es) p.present) c.as_chunks.ensures.front in
    let told = sym (if_true _ (refused_report p.number) (eq-eqb p.number 0 c.if-p-ne0.false)) in
    subst (λ (bytes : List ℕ). Put c.args.out.now 0 bytes c.put_end.new.out c.put_end.result) (counts ∙ front ∙ told) (put_more c.put_answers-at.ensures c.put_end.ensures)
