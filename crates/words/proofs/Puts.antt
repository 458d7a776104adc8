-- The same bytes under another name are put. Assumes nothing.
use mathlib.Core.Path.{◌≡◌, subst}
use mathlib.Core.List.{List}
use Prim.Native.Nat.{ℕ}
use Rattle.text.specs.Buffer.{Put}

pub put_as : {b a : List ℕ} {at e : ℕ} {xs ys : List ℕ} → xs ≡ ys → Put b at xs a e → Put b at ys a e
put_as {b} {a} {at} {e} same p = subst (λ (l : List ℕ). Put b at l a e) same p
