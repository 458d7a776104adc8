-- `practice::check_file` meets its contract, test by test. Assumes nothing.
use mathlib.Core.Path.{ap, ◌∙◌}
use Rattle.refusals.specs.Refusals.{number_of}
use Rattle.refusals.proofs.Outcomes.{met, unmet, last}
use Rattle.practice.specs.File.{legs_allowed, file_number}
use Rattle.practice.proofs.BranchTests.{is_met}
use Rattle.practice.proofs.AcceptedFile.{opened, long_enough}
use Rattle.practice.proofs.check_file.Goals as goal

pub returns-in_err-require : goal.returns-in_err-require
unfolding file_number number_of
returns-in_err-require c = unmet 5 _ _ _ c.in_err-require.ensures c.opens.ensures c.from_residual.ensures.1

pub contents_allowed-requires : goal.contents_allowed-requires
unfolding number_of
contents_allowed-requires c = (opened _ (is_met 5 tt c.in_ok-require.ensures c.opens.ensures)).low

pub returns-in_err-require-2 : goal.returns-in_err-require-2
unfolding file_number number_of
returns-in_err-require-2 c =
    met 5 tt c.in_ok-require.ensures c.opens.ensures (unmet 6 _ _ _ c.in_err-require-2.ensures c.contents_allowed.ensures c.from_residual-in_err-require-2.ensures.1)

pub slice_bounds-legs_of-end : goal.slice_bounds-legs_of-end
unfolding number_of
slice_bounds-legs_of-end c = long_enough _ (is_met 6 tt c.in_ok-require-2.ensures c.contents_allowed.ensures)

pub returns : goal.returns
unfolding file_number number_of
returns c =
    met 5 tt c.in_ok-require.ensures c.opens.ensures
    (met 6 tt c.in_ok-require-2.ensures c.contents_allowed.ensures (last 7 c.require-3.ensures (c.legs_allowed.ensures ∙ ap legs_allowed c.legs_of.ensures)))
