-- The kept fields that count, as a loop tests them one by one. Assumes nothing.
use mathlib.Core.Path.{◌≡◌, refl, ap, ◌∙◌}
use mathlib.Core.Bool.{Bool, true, false}
use mathlib.Core.List.{List, [], ◌∷◌}
use Prim.Native.Nat.{ℕ, zero, suc, ◌+◌, ◌≤◌, ◌<◌}
use native.Mathlib.Omega.{arith}
use lib.ListN.{length, get_or, take, drop}
use lib.Seq.{length-take-le, get_or-take}
use Rattle.field.specs.Lists.{every}
use Rattle.field.proofs.Arrays.{Walked, next_of, walked_none, walked_all}
use Rattle.field.proofs.TestParts.{each_more, each_not}

module _ {A : Type 0} where
  -- an element within the list is read whatever the default
  pub read_any : (l : List A) (i : ℕ) (d e : A) → i < length l → get_or l i d ≡ get_or l i e
  read_any [] i d e h = absurd (omega arith)
  read_any (x ∷ l) zero d e h = refl
  read_any (x ∷ l) (suc i) d e h = read_any l i d e (omega arith)

-- the first n of l, those before place i tested
pub record Tested {A : Type 0} (p : A → Bool) (l : List A) (n i : ℕ) : Type 0 where
  pub long : length (take n l) ≡ n
  pub walked : Walked (every p) (take n l) 0 i

module _ {A : Type 0} (p : A → Bool) (l : List A) (n : ℕ) where
  pub tested_none : n ≤ length l → Tested p l n 0
  tested_none h = record { long = length-take-le n l h; walked = walked_none (every p) (take n l) 0 (omega arith) }

  module _ (i : ℕ) (d : A) (t : Tested p l n i) (h : i < n) where
    below : i < length (take n l)
    below = let e = t.long in omega (arith, e, h)

    next : drop i (take n l) ≡ get_or l i d ∷ drop (i + 1) (take n l)
    next = next_of (take n l) i d below ∙ ap (λ (x : A). x ∷ drop (i + 1) (take n l)) (get_or-take n l i d h)

    pub tested_more : p (get_or l i d) ≡ true → Tested p l n (i + 1)
    tested_more e = record { long = t.long; walked = each_more p (take n l) 0 i t.walked below next e }

    pub tested_not : p (get_or l i d) ≡ false → every p (take n l) ≡ false
    tested_not e = each_not p (take n l) 0 i t.walked next e

  pub tested_all : (i : ℕ) → Tested p l n i → n ≤ i → every p (take n l) ≡ true
  tested_all i t h = let e = t.long in walked_all (every p) (take n l) 0 i t.walked (omega (arith, e, h))
