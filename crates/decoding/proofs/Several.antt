-- An array that is read part by part, from bytes with parts of one size behind each other. Assumes nothing.
use mathlib.Core.Path.{◌≡◌, refl, sym, ap, ◌∙◌}
use mathlib.Core.List.{List, ◌∷◌, ◌++◌}
use Prim.Native.Nat.{ℕ, zero, suc, ◌+◌, ◌*◌, ◌≤◌, ◌<◌}
use native.Mathlib.Nat.{mul-suc}
use native.Mathlib.Omega.{arith}
use lib.ListN.{length, get_or, take, drop, set}
use Rattle.field.proofs.Arrays.{filled_more, filled_all}
use Rattle.layout.specs.Read.{several}

module _ {A : Type 0} (read : ℕ → A) (size : ℕ) where
  pub several_length : (n at : ℕ) → length (several read size n at) ≡ n
  several_length zero at = refl
  several_length (suc n) at = ap suc (several_length n (at + size))

  -- part i of n
  pub several_at : (n at i : ℕ) (d : A) → i < n → get_or (several read size n at) i d ≡ read (at + size * i)
  several_at zero at i d h = absurd (omega arith)
  several_at (suc n) at zero d h = ap read (omega arith)
  several_at (suc n) at (suc i) d h = several_at n (at + size) i d (omega arith) ∙ ap read (let e = mul-suc size i in omega (arith, e))

  -- an array zs of n places, read before place i
  pub record Reading (n at : ℕ) (zs : List A) (i : ℕ) : Type 0 where
    pub within : i ≤ n
    pub old : List A
    pub long : length old ≡ n
    pub made : zs ≡ take i (several read size n at) ++ drop i old

  -- the first place is read, ..
  pub reading_one : (n at : ℕ) (x : A) (xs : List A) → length xs ≡ n → x ≡ read at → Reading (suc n) at (x ∷ xs) 1
  reading_one n at x xs long e = record {
    within = omega arith;
    old = x ∷ xs;
    long = ap suc long;
    made = ap (λ (y : A). y ∷ xs) e;
  }

  module _ (n at : ℕ) (zs : List A) (i : ℕ) (p : Reading n at zs i) where
    -- .. one place more, ..
    pub reading_more : (y : A) → i < n → y ≡ read (at + size * i) → Reading n at (set zs i y) (i + 1)
    reading_more y h e =
        let long = p.long in
        let wide = several_length n at in
        record {
          within = omega arith;
          old = p.old;
          long = long;
          made = filled_more zs (several read size n at) p.old i y y (omega (arith, long, h)) (wide ∙ sym long) p.made (e ∙ sym (several_at n at i y h));
        }

    -- .. and all of them
    pub reading_all : n ≤ i → zs ≡ several read size n at
    reading_all h =
        let long = p.long in
        filled_all zs (several read size n at) p.old i (omega (arith, long, h)) (several_length n at ∙ sym long) p.made
