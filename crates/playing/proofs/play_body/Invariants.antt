-- `playing::play_body` meets its contract. The loop's invariant is `Playing`: the log holds the requests so far, and the rest is to be
use mathlib.Core.Path.{◌≡◌}
use Prim.Native.Nat.{◌-◌, ◌%◌}
use lib.ListN.{length, get_or}
use Rattle.practice.specs.Requests.{requests_of}
use Rattle.finder.specs.declared.Indexed.{Indexed}
use Rattle.playing.proofs.Playing.{Playing}
use Rattle.playing.proofs.play_body.Given as goal

-- played from the field reached. Assumes nothing.
-- of the two fields, the one at i % 2 is the field before request i
abbrev pub invariant-loop-r : goal.invariant-loop-r
invariant-loop-r g l =
    (length l.fields ≡ 2) × ((d : Indexed) → Playing (requests_of l.body) (get_or l.initial.fields 0 d) l.initial.log l.log (get_or l.fields (l.i % 2) d) l.i)

abbrev pub decreases-loop-r : goal.decreases-loop-r
decreases-loop-r g l = length (requests_of l.body) - l.i
