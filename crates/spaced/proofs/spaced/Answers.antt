-- `spaced::spaced` meets its contract: the spacing's refusal, the file's, or the report of the field that was played. Assumes nothing.
use mathlib.Core.Path.{◌≡◌, sym, ap, ◌∙◌, subst}
use mathlib.Core.List.{List, ◌++◌}
use mathlib.Core.Bool.{true}
use Prim.Native.Nat.{ℕ, ◌≤◌}
use native.Mathlib.Omega.{arith}
use lib.ListN.{length, drop}
use borrow.Author.Tests.{eq-eqb, ne_eqb}
use Rattle.field.specs.declared.Field.{Field}
use Rattle.field.proofs.TestParts.{holds, fails}
use Rattle.field.proofs.TestLaws.{if_true, if_false}
use Rattle.practice.specs.File.{file_number}
use Rattle.playing.specs.declared.Played.{Played}
use Rattle.playing.specs.Playing.{played_of, field_of_file}
use Rattle.gaps.specs.Gaps.{gaps_of, legal_spacing}
use Rattle.gaps.proofs.SpacingsKnown.{spacings_known}
use Rattle.text.specs.Buffer.{Put}
use Rattle.text.proofs.Texts.{put_whole}
use Rattle.session.specs.Report.{refused_report}
use Rattle.spaced.specs.Spaced.{spacings_report, spaced_of, spaced_room}
use Rattle.spaced.proofs.SpacingReportSizes.{refused_spacing_short, refused_file_short, spacings_short}
use Rattle.spaced.proofs.spaced.Goals.{After-play-p}
use Rattle.spaced.proofs.spaced.Goals as goal

-- what is put is written, as the contract says it of a report that is the same
ends : {before after bytes report : List ℕ} {n : ℕ} → Put before 0 bytes after n → length before ≡ spaced_room → length bytes ≤ spaced_room → bytes ≡ report
    → (n ≡ length report) × ((after ≡ report ++ drop n before) × (n ≤ spaced_room))
ends {before} {after} {n = n} p l h e = subst (λ (b : List ℕ). (n ≡ length b) × ((after ≡ b ++ drop n before) × (n ≤ spaced_room))) e (put_whole spaced_room p l h)

number_told : (c : After-play-p) → c.play-p.result.number ≡ file_number (c.args.file.now)
unfolding played_of
number_told c = ap (λ (p : Played). p.number) c.play-p.ensures.value

legal : (c : After-play-p) → legal_spacing c.args.spacing ≡ true
legal c = holds c.legal_spacing.ensures c.if-not-legal_spacing.false-raw

field_told : (c : After-play-p) → c.play-p.result.field ≡ field_of_file (c.args.file.now)
unfolding played_of
field_told c = ap (λ (p : Played). p.field) c.play-p.ensures.value

pub returns-then-not-legal_spacing : goal.returns-then-not-legal_spacing
unfolding spaced_of
returns-then-not-legal_spacing c = let told = ends c.put_refused_spacing.ensures c.told-out (refused_spacing_short 4 (omega arith)) (sym (if_false _ _ (fails c.legal_spacing.ensures c.if-not-legal_spacing.true-raw))) in
    record { value = told.0; out_after = told.1.0; upper_bound = told.1.1 }

pub returns-then-p-ne0 : goal.returns-then-p-ne0
unfolding spaced_of
returns-then-p-ne0 c =
    let n = number_told (goal.at.returns-then-p-ne0 c).After-play-p in let told = let refused : file_number (c.args.file.now) ≡ 0 → ⊥ = λ e. c.if-p-ne0.true (n ∙ e) in
    ends c.put_refused.ensures c.told-out (refused_file_short c.play-p.result.number (omega (arith, c.play-p.type_inv)))
    (ap refused_report n ∙ sym (if_true _ _ (legal (goal.at.returns-then-p-ne0 c).After-play-p) ∙ if_false _ _ (ne_eqb _ 0 refused))) in
    record { value = told.0; out_after = told.1.0; upper_bound = told.1.1 }

pub returns : goal.returns
unfolding spaced_of
returns c =
    let spacing = c.args.spacing in
    let accepted : file_number (c.args.file.now) ≡ 0 = sym (number_told (goal.at.returns c).After-play-p) ∙ c.if-p-ne0.false in let told = ends c.put_spacings.ensures c.told-out (spacings_short c.gaps.result (spacings_known c.gaps.result c.gaps.type_inv))
    (ap spacings_report (c.gaps.ensures ∙ ap (λ (f : Field). gaps_of f spacing) (field_told (goal.at.returns c).After-play-p)) ∙ sym (if_true _ _ (legal (goal.at.returns c).After-play-p) ∙ if_true _ _ (eq-eqb _ 0 accepted))) in
    record { value = told.0; out_after = told.1.0; upper_bound = told.1.1 }
