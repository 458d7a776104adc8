-- `writer::check_requests` meets its contract, request by request. Assumes nothing.
use mathlib.Core.Path.{refl, sym, ◌∙◌}
use native.Mathlib.Omega.{arith}
use Rattle.practice.specs.Requests.{requests_of}
use Rattle.practice.proofs.Requests.{count}
use Rattle.writer.proofs.Offences.{kept_more, broken, none_within, kept_all}
use Rattle.writer.proofs.check_requests.Goals.{in-Some+in_ok-check_input, in_default}
use Rattle.writer.proofs.check_requests.Goals as goal

pub loop-i-init : goal.loop-i-init
loop-i-init c = refl

pub returns-in_err-check_input : goal.returns-in_err-check_input
returns-in_err-check_input c =
    broken (requests_of c.args.requests.now) c.loop-i.i c.in-Some.r (sym c.request_at.ensures ∙ c.in-Some.is) c.loop-i.invariant _ _ c.in_err-check_input.ensures c.from_residual.ensures.1

pub returns : goal.returns
returns c = kept_all (requests_of c.args.requests.now) c.loop-i.i (let n = count c.args.requests.now in omega (arith, c.loop-i-test.false)) c.loop-i.invariant

pub loop-i-preserved : goal.loop-i-preserved
loop-i-preserved c =
    let rs = requests_of c.args.requests.now in
    elim c.match-request_at.branch [
      | in-Some+in_ok-check_input w ↦ kept_more rs c.loop-i.i _ (sym c.request_at.ensures ∙ w.in-Some.is) c.loop-i.invariant (sym w.in_ok-check_input.ensures)
      | in_default w ↦ absurd (none_within rs c.loop-i.i (sym c.request_at.ensures ∙ w.in_default.is) (let n = count c.args.requests.now in omega (arith, c.loop-i-test.true)))
    ]
