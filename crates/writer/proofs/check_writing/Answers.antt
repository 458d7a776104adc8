-- `writer::check_writing` meets its contract, test by test. Assumes nothing.
use mathlib.Core.Path.{◌≡◌, ap, sym, ◌∙◌}
use Rattle.refusals.specs.Refusals.{number_of}
use Rattle.refusals.proofs.Outcomes.{met, unmet, last}
use Rattle.writer.specs.Writer.{writing_number}
use Rattle.writer.proofs.WritingNumbers.{list_read, fits_read, offence_none, offence_some}
use Rattle.writer.proofs.check_writing.Goals as goal

pub returns-in_err-require : goal.returns-in_err-require
unfolding writing_number number_of
returns-in_err-require c = unmet 7 _ _ _ c.in_err-require.ensures c.legs_allowed.ensures c.from_residual.ensures.1

pub returns-in_err-require-2 : goal.returns-in_err-require-2
unfolding writing_number number_of
returns-in_err-require-2 c =
    met 7 tt c.in_ok-require.ensures c.legs_allowed.ensures
    (unmet 5 _ _ _ c.in_err-require-2.ensures (list_read c.args.requests.now c.requests_allowed.ensures) c.from_residual-in_err-require-2.ensures.1)

pub returns-in_err-check_requests : goal.returns-in_err-check_requests
unfolding writing_number number_of
returns-in_err-check_requests c =
    met 7 tt c.in_ok-require.ensures c.legs_allowed.ensures
    (met 5 tt c.in_ok-require-2.ensures (list_read c.args.requests.now c.requests_allowed.ensures) (offence_some _ _ _ c.in_err-check_requests.ensures c.from_residual-in_err-check_requests.ensures.1))

pub returns : goal.returns
unfolding writing_number number_of
returns c =
    met 7 tt c.in_ok-require.ensures c.legs_allowed.ensures
    (met 5 tt c.in_ok-require-2.ensures (list_read c.args.requests.now c.requests_allowed.ensures)
    (offence_none c.in_ok-check_requests.ensures (last 28 c.require-3.ensures (fits_read c.args.legs c.args.requests.now c.args.room c.file_fits.ensures))))
