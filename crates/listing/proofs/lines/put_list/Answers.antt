-- `listing::lines::put_list` meets its contract. The loop's invariant: the lines of the entries from this one on are left to put. Assumes nothing.
use mathlib.Core.Path.{sym, ap, ◌∙◌, subst, subst⁻¹}
use mathlib.Core.List.{List}
use Prim.Native.Nat.{ℕ, ◌+◌}
use lib.ListN.{take, drop}
use Rattle.text.specs.Buffer.{Put}
use Rattle.text.proofs.Texts.{left_all, left_more, left_none}
use Rattle.listing.specs.Report.{entry_lines}
use Rattle.listing.proofs.ListingKnown.{listing_known}
use Rattle.listing.proofs.EntryLines.{report_refused, report_listed, entries_read, entry_here, no_entry}
use Rattle.listing.proofs.lines.put_list.Goals as goal

pub returns-then-l-ne0 : goal.returns-then-l-ne0
returns-then-l-ne0 c =
    subst⁻¹ (λ (bytes : List ℕ). Put c.args.out.now c.args.at bytes c.put_refusal.new.out c.put_refusal.result)
    (report_refused c.args.l c.if-l-ne0.true) c.put_refusal.ensures

pub loop-e-init : goal.loop-e-init
loop-e-init c = left_all _ _ _

pub loop-e-preserved : goal.loop-e-preserved
loop-e-preserved c =
    let l = c.loop-e in
    let es = take c.min.result c.args.l.entries in
    left_more _ (entry_lines (drop (l.e-index + 1) es)) l.invariant (entry_here es l.e-index _ c.loop-e-test.true) c.put_entry-next.ensures

pub returns : goal.returns
returns c =
    let w = c.loop-e in
    let l = c.args.l in
    let read = entries_read l c.min.result c.min.ensures (listing_known l c.well_formed.1.1.0).places in
    let told = ap entry_lines read ∙ sym (report_listed l c.if-l-ne0.false) in
    subst (λ (bytes : List ℕ). Put c.args.out.now c.args.at bytes w.out w.next) told (left_none w.invariant (no_entry _ w.e-index c.loop-e-test.false))
