-- `calls_report::lines::put_last` meets its contract: `end`, and the line of the two counts. Assumes nothing.
use mathlib.Core.Path.{subst}
use mathlib.Core.List.{[], ◌∷◌}
use Prim.Native.Nat.{ℕ}
use native.Mathlib.Omega.{arith}
use Rattle.text.specs.Text.{space, line_of}
use Rattle.text.specs.Buffer.{Put}
use Rattle.text.proofs.Texts.{put_more}
use Rattle.calls_report.specs.CallsReport.{last_line}
use Rattle.calls_report.proofs.CallLineSizes.{last_length, count_known}
use Rattle.calls_report.proofs.lines.put_last.Goals as goal

pub returns : goal.returns
unfolding last_line
returns c =
    let size = last_length c.args.h (omega (arith, c.present_on-present.ensures, c.present_on-present.type_inv)) (count_known c.args.h c.well_formed.1.1.0) in record {
      put = subst (λ (n : ℕ). Put c.args.out.now c.args.at (101 ∷ 110 ∷ 100 ∷ space ∷ line_of (n ∷ c.args.h.count ∷ [])) c.put_line.new.out c.put_line.result) c.present_on-present.ensures
          (put_more c.put_text-next.ensures c.put_line.ensures);
      h_len_bound = size;
    }
