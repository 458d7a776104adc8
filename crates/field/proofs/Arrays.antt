-- Lists as the arrays of a zone, of the sequence and of the field are walked: a list of four, a part, a list
-- that is walked, and an array that is written place by place. Assumes nothing.
use mathlib.Core.Path.{◌≡◌, refl, sym, ap, ◌∙◌}
use mathlib.Core.List.{List, [], ◌∷◌, ◌++◌, map, append_assoc, append-nil}
use Prim.Native.Nat.{ℕ, zero, suc, ◌+◌, ◌-◌, ◌≤◌, ◌<◌}
use native.Mathlib.Numerals.{add-one}
use native.Mathlib.Omega.{arith}
use lib.ListN.{length, get_or, take, drop, set, length-take, drop_of_length-le}
use Rattle.field.specs.Lists.{set_from_one}
use lib.Seq.{drop-cons, take-suc, set_at, get_or_at, take_all, length-take-le}

module _ {ℓ} {A : Type ℓ} where
  -- a list of four is its elements in a row
  pub four : (xs : List A) (d : A) → length xs ≡ 4 → xs ≡ get_or xs 0 d ∷ get_or xs 1 d ∷ get_or xs 2 d ∷ get_or xs 3 d ∷ []
  four [] d h = absurd (omega arith)
  four (a ∷ []) d h = absurd (omega arith)
  four (a ∷ b ∷ []) d h = absurd (omega arith)
  four (a ∷ b ∷ c ∷ []) d h = absurd (omega arith)
  four (a ∷ b ∷ c ∷ e ∷ []) d h = refl
  four (a ∷ b ∷ c ∷ e ∷ f ∷ fs) d h = absurd (omega arith)

  -- a loop over a list from place s on, for what a function t says of it: what t says of all from there it says of the rest from place
  -- i on
  pub record Walked {R : Type 0} (t : List A → R) (l : List A) (s i : ℕ) : Type ℓ where
    pub within : i ≤ length l
    pub rest : t (drop s l) ≡ t (drop i l)

  -- the next element, and the rest behind it
  pub next_of : (l : List A) (i : ℕ) (d : A) → i < length l → drop i l ≡ get_or l i d ∷ drop (i + 1) l
  next_of l i d h = rw add-one (drop-cons l i d h)

  module _ {R : Type 0} (t : List A → R) (l : List A) (s : ℕ) where
    pub walked_none : s ≤ length l → Walked t l s s
    walked_none h = record { within = h; rest = refl }

    -- where an element x leaves it to the rest, ..
    pub walked_more : (i : ℕ) {x : A} → Walked t l s i → i < length l → drop i l ≡ x ∷ drop (i + 1) l
        → t (x ∷ drop (i + 1) l) ≡ t (drop (i + 1) l) → Walked t l s (i + 1)
    walked_more i w h e g = record { within = omega arith; rest = w.rest ∙ ap t e ∙ g }

    -- .. where it decides, ..
    pub walked_stop : (i : ℕ) {x : A} {r : R} → Walked t l s i → drop i l ≡ x ∷ drop (i + 1) l → t (x ∷ drop (i + 1) l) ≡ r → t (drop s l) ≡ r
    walked_stop i w e g = w.rest ∙ ap t e ∙ g

    -- .. and at the end
    pub walked_all : (i : ℕ) → Walked t l s i → length l ≤ i → t (drop s l) ≡ t []
    walked_all i w h = w.rest ∙ ap t (drop_of_length-le l {i = i} h)

  -- an array zs that is being written: it is ys before place i, and xs from there on. Place i of it is still that of xs, whatever the default; ..
  pub filled_at : (zs ys xs : List A) (i : ℕ) (d b : A) → i < length xs → length ys ≡ length xs
      → zs ≡ take i ys ++ drop i xs → get_or zs i b ≡ get_or xs i d
  filled_at zs ys xs i d b h e f =
      let long : length (take i ys) ≡ i = length-take-le i ys (omega arith) in
      rw (f, drop-cons xs i d h) (get_or_at (take i ys) (get_or xs i d) (drop (suc i) xs) b i long)

  -- .. with that of ys written there it is ys for one place more; ..
  pub filled_more : (zs ys xs : List A) (i : ℕ) (d y : A) → i < length xs → length ys ≡ length xs
      → zs ≡ take i ys ++ drop i xs → y ≡ get_or ys i d → set zs i y ≡ take (i + 1) ys ++ drop (i + 1) xs
  filled_more zs ys xs i d y h e f g =
      let below : i < length ys = omega arith in
      let long : length (take i ys) ≡ i = length-take-le i ys (omega arith) in
      rw (f, g, drop-cons xs i d h, set_at (take i ys) (get_or xs i d) (drop (suc i) xs) (get_or ys i d) i long, add-one, take-suc ys i d below, append_assoc)

  -- .. and after the last place it is ys
  pub filled_all : (zs ys xs : List A) (i : ℕ) → length xs ≤ i → length ys ≡ length xs → zs ≡ take i ys ++ drop i xs → zs ≡ ys
  filled_all zs ys xs i h e f = rw (f, take_all i ys (omega arith), drop_of_length-le xs {i = i} h, append-nil)

  -- where each element of ys is made from that of xs
  pub get_d_map : {B : Type ℓ} (g : A → B) (l : List A) (i : ℕ) (d : A) (e : B) → i < length l → get_or (map g l) i e ≡ g (get_or l i d)
  get_d_map g [] i d e h = absurd (omega arith)
  get_d_map g (x ∷ xs) zero d e h = refl
  get_d_map g (x ∷ xs) (suc i) d e h = get_d_map g xs i d e (omega arith)

  -- a place counted from 1 is the one before it counted from 0
  pub set_from_one_lem : (xs : List A) (z : ℕ) (x : A) → 1 ≤ z → set_from_one xs z x ≡ set xs (z - 1) x
  set_from_one_lem xs zero x h = absurd (omega arith)
  set_from_one_lem xs (suc i) x h = ap (λ (j : ℕ). set xs j x) (omega arith)
