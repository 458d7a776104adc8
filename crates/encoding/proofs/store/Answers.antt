-- `encoding::store` meets its contract: the encoding is as long as the state. Assumes nothing.
use mathlib.Core.Path.{◌≡◌, ap, ◌∙◌}
use mathlib.Core.List.{List, ◌++◌, append-nil}
use Prim.Native.Nat.{ℕ}
use native.Mathlib.Omega.{arith}
use lib.ListN.{length, drop_of_length-le}
use Rattle.text.specs.Buffer.{Put}
use Rattle.text.proofs.Texts.{put_more, put_whole}
use Rattle.layout.specs.Written.{history_bytes}
use Rattle.layout.proofs.PartSizes.{state_size_lem}
use Rattle.layout.proofs.Owned.{history_held}
use Rattle.encoding.proofs.store.Goals as goal

-- bytes that are put over as many are all that stands there
put-over : {before after bytes : List ℕ} {n : ℕ} (size : ℕ) → Put before 0 bytes after n → length before ≡ size → length bytes ≡ size → after ≡ bytes
put-over {before} {after} {bytes} {n} size p l k =
    let w = put_whole size p l (omega arith) in
    w.1.0 ∙ ap (λ (rest : List ℕ). bytes ++ rest) (drop_of_length-le before {i = n} (omega (arith, w.0))) ∙ append-nil bytes

pub returns : goal.returns
unfolding history_bytes
returns c =
    put-over 15605 (put_more (put_more c.put-kept.ensures c.put_each-count.ensures) c.put_number64.ensures) c.bytes-1.given.0.1 (state_size_lem c.args.h (history_held c.args.h c.well_formed.1.0))
