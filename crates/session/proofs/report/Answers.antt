-- `session::report` meets its contract, by what was played. Assumes nothing.
use native.Mathlib.Omega.{arith}
use Rattle.session.proofs.Reports.{report_put, played_few}
use Rattle.session.proofs.report.Goals as goal

pub put_played-requires : goal.put_played-requires
put_played-requires c = let few = played_few c.args.file.now c.play-p.ensures.value in omega (arith, c.play-p.array_long)

pub returns : goal.returns
returns c =
    let t = report_put c.args.file.now _ c.play-p.ensures.value c.play-p.ensures.log_after c.put_played.ensures.has_words (omega (arith, c.play-p.type_inv)) (omega (arith, c.play-p.type_inv)) c.told-out c.put_played.ensures.put in
    record { value = t.0; out_after = t.1.0; upper_bound = t.1.1 }
