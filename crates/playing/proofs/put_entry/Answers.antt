-- `playing::put_entry` meets its contract: seven stores within the log. Assumes nothing.
use native.Mathlib.Omega.{arith}
use lib.ListN.{length-set}
use Rattle.playing.proofs.Logs.{seven_stores}
use Rattle.playing.proofs.put_entry.Goals as goal

pub bounds-log-at-2 : goal.bounds-log-at-2
bounds-log-at-2 c = simp length-set (omega arith)

pub bounds-log-at-3 : goal.bounds-log-at-3
bounds-log-at-3 c = simp length-set (omega arith)

pub bounds-log-at-4 : goal.bounds-log-at-4
bounds-log-at-4 c = simp length-set (omega arith)

pub bounds-log-at-5 : goal.bounds-log-at-5
bounds-log-at-5 c = simp length-set (omega arith)

pub bounds-log-at-6 : goal.bounds-log-at-6
bounds-log-at-6 c = simp length-set (omega arith)

pub bounds-log-at-7 : goal.bounds-log-at-7
bounds-log-at-7 c = simp length-set (omega arith)

pub returns : goal.returns
returns c =
    let s = c.args in
    seven_stores s.log.now s.at s.r.kind s.a.number s.a.aircraft s.a.zone s.a.fix s.a.leader s.a.along
