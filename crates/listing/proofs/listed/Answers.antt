-- `listing::listed` meets its contract: the file's refusal, or the list of the field that was played. Assumes nothing.
use mathlib.Core.Path.{◌≡◌, sym, ap, ◌∙◌}
use native.Mathlib.Omega.{arith}
use borrow.Author.Tests.{eq-eqb, ne_eqb}
use Rattle.field.proofs.TestLaws.{if_true, if_false}
use Rattle.practice.specs.File.{file_number}
use Rattle.playing.specs.declared.Played.{Played}
use Rattle.playing.specs.Playing.{played_of, field_of_file}
use Rattle.indexed.specs.Indexed.{with_index}
use Rattle.session.specs.Report.{refused_report}
use Rattle.dialect.specs.Going.{list_of}
use Rattle.listing.specs.Report.{list_report, listed_of}
use Rattle.listing.proofs.ListingKnown.{listing_known}
use Rattle.listing.proofs.ListReportSizes.{ends, refused_file_short, list_short}
use Rattle.listing.proofs.listed.Goals.{After-play-p}
use Rattle.listing.proofs.listed.Goals as goal

number_told : (c : After-play-p) → c.play-p.result.number ≡ file_number (c.args.file.now)
unfolding played_of
number_told c = ap (λ (p : Played). p.number) c.play-p.ensures.value

field_told : (c : After-play-p) → c.play-p.result.field ≡ field_of_file (c.args.file.now)
unfolding played_of
field_told c = ap (λ (p : Played). p.field) c.play-p.ensures.value

pub returns-then-number-ne0 : goal.returns-then-number-ne0
unfolding listed_of
returns-then-number-ne0 c =
    let n = number_told (goal.at.returns-then-number-ne0 c).After-play-p in let told = let refused : file_number (c.args.file.now) ≡ 0 → ⊥ = λ e. c.if-number-ne0.true (n ∙ e) in
    ends c.put_refused.ensures c.bytes-1.given.0.1 (refused_file_short _ (omega (arith, c.play-p.type_inv)))
    (ap refused_report n ∙ sym (if_false _ _ (ne_eqb _ 0 refused))) in
    record { value = told.0; out_after = told.1.0; upper_bound = told.1.1 }

pub returns : goal.returns
unfolding listed_of
returns c =
    let accepted : file_number (c.args.file.now) ≡ 0 = sym (number_told (goal.at.returns c).After-play-p) ∙ c.if-number-ne0.false in
    let short = list_short c.list_of.result (listing_known c.list_of.result c.list_of.type_inv) in let told = ends c.put_list.ensures c.bytes-1.given.0.1 (omega arith)
    (ap list_report (c.list_of.ensures ∙ ap list_of (c.with_index-x.ensures ∙ ap with_index (field_told (goal.at.returns c).After-play-p))) ∙ sym (if_true _ _ (eq-eqb _ 0 accepted))) in
    record { value = told.0; out_after = told.1.0; upper_bound = told.1.1 }
