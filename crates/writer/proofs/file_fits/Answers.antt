-- `writer::file_fits` meets its contract. Assumes nothing.
use mathlib.Core.Path.{◌≡◌, refl, sym, ◌∙◌}
use mathlib.Core.Bool.{Bool, true, false}
use Prim.Native.Nat.{ℕ, ◌+◌, ◌*◌, ◌-◌, ◌/◌, ◌≤◌, ◌<◌}
use native.Mathlib.Omega.{arith}
use lib.Dec.{leb}
use borrow.Author.Tests.{lt-leb, le-leb, leb-true, leb-false}
use Rattle.writer.proofs.file_fits.Goals as goal

-- so many requests of six bytes fit into what the first 34 bytes leave
divided : (n room : ℕ) → 34 ≤ room → leb n ((room - 34) / 6) ≡ leb (34 + 6 * n) room
divided n room h = go (leb n ((room - 34) / 6)) refl
  where
    go : (t : Bool) → leb n ((room - 34) / 6) ≡ t → t ≡ leb (34 + 6 * n) room
    go true t = let l = leb-true n ((room - 34) / 6) t in sym (le-leb (34 + 6 * n) room (omega arith))
    go false t = let l = leb-false n ((room - 34) / 6) t in sym (lt-leb (34 + 6 * n) room (omega arith))

-- and none where there are fewer
too_short : (n room : ℕ) → room < 34 → false ≡ leb (34 + 6 * n) room
too_short n room h = sym (lt-leb (34 + 6 * n) room (omega arith))

pub returns-then-room-ge34 : goal.returns-then-room-ge34
returns-then-room-ge34 c = divided c.args.n c.args.room c.if-room-ge34.true

pub returns-else-room-ge34 : goal.returns-else-room-ge34
returns-else-room-ge34 c = lt-leb 34 c.args.room c.if-room-ge34.false ∙ too_short c.args.n c.args.room c.if-room-ge34.false
