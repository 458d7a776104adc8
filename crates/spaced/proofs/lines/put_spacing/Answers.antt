-- `spaced::lines::put_spacing` meets its contract: the word of the variant that the arm was told of, and the gap. Assumes nothing.
use mathlib.Core.Path.{subst⁻¹}
use Rattle.gaps.specs.declared.Spacing.{Spacing}
use Rattle.text.specs.Buffer.{Put}
use Rattle.text.proofs.Texts.{put_more}
use Rattle.spaced.specs.Spaced.{spacing_text}
use Rattle.spaced.proofs.lines.put_spacing.Goals as goal

pub returns-in-Close : goal.returns-in-Close
returns-in-Close c =
    subst⁻¹ (λ (x : Spacing). Put c.args.out.now c.args.at (spacing_text x) c.put_gap.new.out c.put_gap.result)
    c.in-Close.is (put_more c.put_text-next.ensures c.put_gap.ensures)

pub returns-in-Clear : goal.returns-in-Clear
returns-in-Clear c =
    subst⁻¹ (λ (x : Spacing). Put c.args.out.now c.args.at (spacing_text x) c.put_gap-in-Clear.new.out c.put_gap-in-Clear.result)
    c.in-Clear.is (put_more c.put_text-next-in-Clear.ensures c.put_gap-in-Clear.ensures)
