-- `decoding::read_history` meets its contract: the field, the kept ones one after the other, and the count. Assumes nothing.
use mathlib.Core.Path.{◌≡◌, refl}
use mathlib.Core.List.{List}
use Prim.Native.Nat.{ℕ}
use native.Mathlib.Omega.{arith}
use Rattle.words.specs.Words.{number64}
use Rattle.finder.specs.declared.Indexed.{Indexed}
use Rattle.history.specs.declared.History.{History}
use Rattle.layout.specs.Read.{several, read_indexed, read_history}
use Rattle.decoding.proofs.Several.{reading_one, reading_more, reading_all}
use Rattle.decoding.proofs.read_history.Goals as goal

made : (bytes : List ℕ) {x : Indexed} {ks : List Indexed} {n : ℕ} → x ≡ read_indexed bytes 0 → ks ≡ several (read_indexed bytes) 1733 8 1733 → n ≡ number64 bytes 15597
    → ◌≡◌ {A = History} (record { now = x; kept = ks; count = n }) (read_history bytes)
unfolding read_history
made bytes x ks n t = record { now = x t; kept = ks t; count = n t }

pub loop-i-init : goal.loop-i-init
loop-i-init c =
    let a = c.args in
    reading_one (read_indexed a.state.now) 1733 7 1733 _ _ refl c.read_indexed-first.ensures

pub loop-i-preserved : goal.loop-i-preserved
loop-i-preserved c =
    let a = c.args in
    reading_more (read_indexed a.state.now) 1733 8 1733 c.loop-i.kept c.loop-i.i c.loop-i.invariant _ (omega arith) c.read_indexed.ensures

pub returns : goal.returns
returns c =
    let a = c.args in
    made a.state.now c.read_indexed-now.ensures
    (reading_all (read_indexed a.state.now) 1733 8 1733 c.loop-i.kept c.loop-i.i c.loop-i.invariant (omega arith)) c.number64.ensures
