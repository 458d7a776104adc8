-- `writer::write` meets its contract: refused by its number, or the whole file is put. Assumes nothing.
use mathlib.Core.Path.{◌≡◌, sym, ◌∙◌}
use native.Mathlib.Omega.{arith}
use lib.ListN.{length}
use Rattle.refusals.proofs.Outcomes.{number_some}
use Rattle.practice.proofs.Requests.{count}
use Rattle.writer.specs.Writer.{file_of, writing_number}
use Rattle.writer.proofs.RequestBytes.{AreBytes, file_bytes}
use Rattle.writer.proofs.WritingNumbers.{Allowed, allowed, answer_refused, buffer_refused, answer_written, buffer_written, put_end, put_whole}
use Rattle.writer.proofs.write.Goals.{After-check_writing, In_default}
use Rattle.writer.proofs.write.Goals as goal

zero : (c : In_default) → writing_number c.args.legs c.args.requests.now (length c.args.out.now) ≡ 0
zero c = sym c.in_default.ensures

passed : (c : In_default) → Allowed c.args.legs c.args.requests.now (length c.args.out.now)
passed c = allowed _ _ _ (zero c)

known : (c : After-check_writing) → AreBytes c.args.requests.now
known c i = omega (arith, c.shared_slice_known-1.given i)

pub returns-in-Err : goal.returns-in-Err
returns-in-Err c =
    let a = c.args in record { value = answer_refused a.legs a.requests.now (length a.out.now) (c.number.ensures ∙ c.in-Err.ensures) (λ e. number_some _ (sym c.number.ensures ∙ e)); out_after = buffer_refused a.legs a.requests.now a.out.now (c.number.ensures ∙ c.in-Err.ensures) (λ e. number_some _ (sym c.number.ensures ∙ e)) }

pub put_file-end-requires : goal.put_file-end-requires
put_file-end-requires c =
    let p = passed (goal.at.put_file-end-requires c).In_default in
    let n = count c.args.requests.now in
    omega arith

pub returns : goal.returns
returns c =
    let a = c.args in
    let file = file_of a.legs a.requests.now in
    let same = file_bytes a.legs a.requests.now (known (goal.at.returns c).After-check_writing) (passed (goal.at.returns c).In_default).whole in
    let fits = (passed (goal.at.returns c).In_default).fits in record { value = answer_written a.legs a.requests.now (length a.out.now) (zero (goal.at.returns c).In_default) (put_end file c.put_file-end.ensures same fits); out_after = buffer_written a.legs a.requests.now a.out.now (zero (goal.at.returns c).In_default) (put_whole file c.put_file-end.ensures same fits) }
