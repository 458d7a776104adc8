-- `listing::lines::put_built` meets its contract: a refusal, or the next fix and the list. Assumes nothing.
use mathlib.Core.Path.{sym, ap, ◌∙◌, subst, subst⁻¹}
use mathlib.Core.List.{List, ◌++◌}
use Prim.Native.Nat.{ℕ}
use native.Mathlib.Omega.{arith}
use lib.ListN.{length}
use Rattle.text.specs.Buffer.{Put}
use Rattle.text.proofs.Texts.{put_more}
use Rattle.dialect.specs.declared.Listing.{Listing}
use Rattle.listing.specs.Report.{list_report, next_line}
use Rattle.listing.proofs.ListingKnown.{listing_known}
use Rattle.listing.proofs.EntryLines.{built_refused, built_listed}
use Rattle.listing.proofs.ListReportSizes.{refusal_short, both_short}
use Rattle.listing.proofs.lines.put_built.Goals as goal

pub returns-then-b-ne0 : goal.returns-then-b-ne0
returns-then-b-ne0 c =
    let b = c.args.b in
    let e = built_refused b c.if-b-ne0.true in
    let size = refusal_short b.number (omega (arith, c.well_formed.1.0)) in
    let long = ap length e in record { put = subst⁻¹ (λ (bytes : List ℕ). Put c.args.out.now 0 bytes c.put_refusal.new.out c.put_refusal.result) e c.put_refusal.ensures; b_len_bound = omega arith }

pub returns : goal.returns
returns c =
    let b = c.args.b in
    let e = built_listed b c.if-b-ne0.false in
    let same = ap (λ (m : Listing). next_line b.after.field.next ++ list_report m) c.list_of.ensures ∙ sym e in
    let size = both_short b.after.field.next c.list_of.result (omega (arith, c.well_formed.1.0)) (listing_known c.list_of.result c.list_of.type_inv) in
    let long = ap length same in record {
      put = subst (λ (bytes : List ℕ). Put c.args.out.now 0 bytes c.put_list.new.out c.put_list.result) same
          (put_more c.put_next-next.ensures c.put_list.ensures);
      b_len_bound = omega arith;
    }
