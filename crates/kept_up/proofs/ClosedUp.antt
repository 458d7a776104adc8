-- An array whose elements behind a place move up by one, with another put at its last place. Assumes nothing.
use mathlib.Core.Path.{◌≡◌, sym}
use mathlib.Core.List.{List, [], ◌∷◌, ◌++◌, append_assoc}
use Prim.Native.Nat.{ℕ, suc, ◌+◌, ◌-◌, ◌≤◌, ◌<◌}
use native.Mathlib.Numerals.{add-one}
use native.Mathlib.Omega.{arith}
use lib.ListN.{length, get_or, take, drop, set, length-drop, length-append, drop_of_length-le}
use lib.Seq.{drop-cons, set_at, length-take-le}
use Rattle.std.specs.List.{copy_within}
use Rattle.std.proofs.lemmas.List.Edits.{paste_all}

pub closed_up : {A : Type 0} (xs : List A) (k last : ℕ) (y : A) → length xs ≡ suc last → k ≤ last
    → set (copy_within xs (k + 1) (length xs) k) last y ≡ take k xs ++ drop (suc k) xs ++ (y ∷ [])
closed_up xs k last y long h =
    let count : length xs - (k + 1) ≡ length (drop (k + 1) xs) = sym (length-drop (k + 1) xs) in
    let place : k + (length xs - (k + 1)) ≡ last = omega arith in
    let below : last < length xs = omega arith in
    let none : drop (suc last) xs ≡ [] = drop_of_length-le xs {i = suc last} (omega arith) in
    let front : length (take k xs ++ drop (k + 1) xs) ≡ last =
    omega (arith, length-append (take k xs) (drop (k + 1) xs), length-take-le k xs (omega arith), length-drop (k + 1) xs) in
    rw (
      paste_all xs k (drop (k + 1) xs) (length xs - (k + 1)) count,
      place,
      drop-cons xs last y below,
      none,
      ← append_assoc (take k xs) (drop (k + 1) xs) (get_or xs last y ∷ []),
      set_at (take k xs ++ drop (k + 1) xs) (get_or xs last y) [] y last front,
      add-one,
    )
