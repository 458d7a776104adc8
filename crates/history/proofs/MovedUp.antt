-- An array whose elements move up by a place, the first dropped, with another put at its end. Assumes nothing.
use mathlib.Core.Path.{◌≡◌, ap, ◌∙◌}
use mathlib.Core.List.{List, [], ◌∷◌, ◌++◌}
use Prim.Native.Nat.{ℕ, ◌+◌, ◌≤◌, ◌<◌}
use native.Mathlib.Omega.{arith}
use lib.ListN.{length, get_or, drop, length-append, length-drop, get_or-append}
use lib.Seq.{get_or_at, get_or-drop}
use Rattle.history.proofs.KeptTested.{read_any}

module _ {A : Type 0} where
  -- the elements behind the first, and then x
  abbrev pub moved_up : List A → A → List A
  moved_up xs x = drop 1 xs ++ (x ∷ [])

  pub moved_length : (xs : List A) (x : A) → 1 ≤ length xs → length (moved_up xs x) ≡ length xs
  moved_length xs x h = let a = length-append (drop 1 xs) (x ∷ []) in let b = length-drop 1 xs in omega (arith, a, b, h)

  -- place i is the one after it as it was, ..
  pub moved_at : (xs : List A) (x : A) (i : ℕ) (d e : A) → i + 1 < length xs → get_or (moved_up xs x) i e ≡ get_or xs (i + 1) d
  moved_at xs x i d e h =
      let b = length-drop 1 xs in
      let one : 1 + i ≡ i + 1 = omega arith in
      get_or-append (drop 1 xs) (x ∷ []) e i (omega (arith, b, h)) ∙ get_or-drop 1 xs i e ∙ ap (λ (j : ℕ). get_or xs j e) one ∙ read_any xs (i + 1) e d h

  -- .. and the last is x
  pub moved_last : (xs : List A) (x : A) (i : ℕ) (e : A) → length xs ≡ i + 1 → get_or (moved_up xs x) i e ≡ x
  moved_last xs x i e h = let b = length-drop 1 xs in get_or_at (drop 1 xs) x [] e i (omega (arith, b, h))
