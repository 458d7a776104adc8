-- What holds of each one of a list, and holds so of lists made from it. Assumes nothing.
use mathlib.Core.Path.{◌≡◌, refl}
use mathlib.Core.List.{List, [], ◌∷◌, ◌++◌, map}
use Prim.Native.Nat.{ℕ, zero, suc, ◌<◌}
use native.Mathlib.Omega.{arith}
use lib.ListN.{length, get_or, take, drop, set}
use Rattle.field.specs.Lists.{Each, set_from_one}

module _ {A : Type 0} (P : A → Type 0) where
  pub each_drop : (n : ℕ) (l : List A) → Each P l → Each P (drop n l)
  each_drop zero l h = h
  each_drop (suc n) [] h = h
  each_drop (suc n) (x ∷ l) h = each_drop n l h.1

  pub each_take : (n : ℕ) (l : List A) → Each P l → Each P (take n l)
  each_take zero l h = tt
  each_take (suc n) [] h = h
  each_take (suc n) (x ∷ l) h = (h.0, each_take n l h.1)

  -- the first n and the rest are all
  pub each_parts : (n : ℕ) (l : List A) → Each P (take n l) → Each P (drop n l) → Each P l
  each_parts zero l h k = k
  each_parts (suc n) [] h k = k
  each_parts (suc n) (x ∷ l) h k = (h.0, each_parts n l h.1 k)

  pub each_append : (l m : List A) → Each P l → Each P m → Each P (l ++ m)
  each_append [] m h k = k
  each_append (x ∷ l) m h k = (h.0, each_append l m h.1 k)

  pub each_set : (l : List A) (n : ℕ) (x : A) → Each P l → P x → Each P (set l n x)
  each_set [] n x h k = h
  each_set (y ∷ l) zero x h k = (k, h.1)
  each_set (y ∷ l) (suc n) x h k = (h.0, each_set l n x h.1 k)

  pub each_set_one : (l : List A) (z : ℕ) (x : A) → Each P l → P x → Each P (set_from_one l z x)
  each_set_one l zero x h k = h
  each_set_one l (suc n) x h k = each_set l n x h k

  pub each_at : (l : List A) (n : ℕ) (d : A) → Each P l → P d → P (get_or l n d)
  each_at [] n d h k = k
  each_at (x ∷ l) zero d h k = h.0
  each_at (x ∷ l) (suc n) d h k = each_at l n d h.1 k

  -- what holds at each place
  pub each_places : (l : List A) (d : A) → ((i : ℕ) → i < length l → P (get_or l i d)) → Each P l
  each_places [] d h = tt
  each_places (x ∷ l) d h = (h 0 (omega arith), each_places l d (λ i k. h (suc i) (omega arith)))

  -- each made anew, so that it still holds
  pub each_map : (g : A → A) → ((x : A) → P x → P (g x)) → (l : List A) → Each P l → Each P (map g l)
  each_map g k [] h = tt
  each_map g k (x ∷ l) h = (k x h.0, each_map g k l h.1)

  -- two ways to make each anew that agree where it holds
  pub maps_agree : {B : Type 0} (g k : A → B) → ((x : A) → P x → g x ≡ k x) → (l : List A) → Each P l → map g l ≡ map k l
  maps_agree g k e [] h = refl
  maps_agree g k e (x ∷ l) h = λ i. e x h.0 i ∷ maps_agree g k e l h.1 i
