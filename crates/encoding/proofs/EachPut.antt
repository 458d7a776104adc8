-- The bytes of each one in a list, from one of them on. Assumes nothing.
use mathlib.Core.Path.{◌≡◌, ap, sym, ◌∙◌}
use mathlib.Core.List.{List, ◌++◌}
use Prim.Native.Nat.{ℕ, suc, ◌+◌, ◌<◌}
use native.Mathlib.Omega.{arith}
use lib.ListN.{length, get_or, drop}
use lib.Seq.{drop-cons}
use Rattle.layout.specs.Written.{bytes_of_each}

-- the i-th and those behind it
pub each_from : {A : Type 0} (bytes : A → List ℕ) (xs : List A) (i : ℕ) (x : A) → i < length xs → x ≡ get_or xs i x
    → bytes_of_each bytes (drop i xs) ≡ bytes x ++ bytes_of_each bytes (drop (i + 1) xs)
each_from bytes xs i x h e =
    ap (bytes_of_each bytes) (drop-cons xs i x h)
    ∙ ap (λ y. bytes y ++ bytes_of_each bytes (drop (suc i) xs)) (sym e)
    ∙ ap (λ (k : ℕ). bytes x ++ bytes_of_each bytes (drop k xs)) {x = suc i} {y = i + 1} (omega arith)
