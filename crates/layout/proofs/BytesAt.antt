-- Which bytes stand at a place of others, and the numbers, miles and parts of one size that are read there. Assumes nothing.
use mathlib.Core.Path.{◌≡◌, refl, sym, ap, subst, ◌∙◌}
use mathlib.Core.List.{List, [], ◌∷◌, ◌++◌, append_assoc}
use Prim.Native.Nat.{ℕ, ◌+◌, ◌*◌, ◌/◌, ◌%◌}
use native.Mathlib.Nat.{mul-suc}
use native.Mathlib.Omega.{arith}
use lib.Ieee.{Float, nan, binary64, to_bits, of_bits}
use lib.Ieee.Bits.{of_bits-to_bits}
use lib.ListN.{length, get_or, length-append}
use lib.Seq.{get_or-append_seam}
use borrow.Author.Tests.{ne_eqb}
use Rattle.practice.specs.File.{number16, number32}
use Rattle.practice.specs.Practice.{bytes16, bytes32}
use Rattle.words.specs.Words.{number64, bytes64, miles_of, bits_of}
use Rattle.words.proofs.Patterns.{nan_above, nan_pattern}
use Rattle.leg.specs.declared.Progress.{Progress}
use Rattle.leg.specs.declared.Progress.TheVariants.{Waiting, Flying}
use Rattle.field.proofs.TestLaws.{if_false}
use Rattle.layout.specs.Read.{several, waiting, progress_of}
use Rattle.layout.specs.Written.{bytes_of_each, progress_bits}
use Rattle.field.specs.Lists.{Each}
use Rattle.layout.specs.Held.{MilesHeld, ProgressWith}

-- ---- bytes at a place

-- xs stand at a place of b
abbrev pub Holds : List ℕ → ℕ → List ℕ → Type 0
Holds b at [] = Unit {0}
Holds b at (x ∷ xs) = (get_or b at 0 ≡ x) × Holds b (at + 1) xs

-- the first ones of them, ..
pub holds_first : (b : List ℕ) (at : ℕ) (xs ys : List ℕ) → Holds b at (xs ++ ys) → Holds b at xs
holds_first b at [] ys p = tt
holds_first b at (x ∷ xs) ys p = (p.0, holds_first b (at + 1) xs ys p.1)

-- .. and those behind
pub holds_behind : (b : List ℕ) (at : ℕ) (xs ys : List ℕ) → Holds b at (xs ++ ys) → Holds b (at + length xs) ys
holds_behind b at [] ys p = subst (λ (i : ℕ). Holds b i ys) (omega arith) p
holds_behind b at (x ∷ xs) ys p = subst (λ (i : ℕ). Holds b i ys) (omega arith) (holds_behind b (at + 1) xs ys p.1)

pub holds_from : (b : List ℕ) (at : ℕ) (xs ys : List ℕ) → Holds b at (xs ++ ys) → {n : ℕ} → length xs ≡ n → Holds b (at + n) ys
holds_from b at xs ys p e = subst (λ (k : ℕ). Holds b (at + k) ys) e (holds_behind b at xs ys p)

-- what is behind something stands there
pub holds_after : (p xs : List ℕ) → Holds (p ++ xs) (length p) xs
holds_after p [] = tt
holds_after p (x ∷ xs) =
    let long : length (p ++ (x ∷ [])) ≡ length p + 1 = length-append p (x ∷ []) in
    let later : Holds (p ++ x ∷ xs) (length (p ++ (x ∷ []))) xs =
    subst (λ (l : List ℕ). Holds l (length (p ++ (x ∷ []))) xs) (append_assoc p (x ∷ []) xs) (holds_after (p ++ (x ∷ [])) xs) in
    (get_or-append_seam p x xs 0, subst (λ (i : ℕ). Holds (p ++ x ∷ xs) i xs) long later)

-- ---- numbers and miles

pub back16 : (b : List ℕ) (at n : ℕ) → Holds b at (bytes16 n) → number16 b at ≡ n
back16 b at n p = let x = p.0 in let y = p.1.0 in omega (arith, x, y)

pub back32 : (b : List ℕ) (at n : ℕ) → Holds b at (bytes32 n) → number32 b at ≡ n
back32 b at n p =
    let low = back16 b at (n % 65536) (holds_first b at (bytes16 (n % 65536)) (bytes16 (n / 65536)) p) in
    let high = back16 b (at + 2) (n / 65536) (holds_behind b at (bytes16 (n % 65536)) (bytes16 (n / 65536)) p) in
    ap (λ (k : ℕ). k + 65536 * number16 b (at + 2)) low ∙ ap (λ (k : ℕ). n % 65536 + 65536 * k) high ∙ omega arith

pub back64 : (b : List ℕ) (at n : ℕ) → Holds b at (bytes64 n) → number64 b at ≡ n
back64 b at n p =
    let low = back32 b at (n % 4294967296) (holds_first b at (bytes32 (n % 4294967296)) (bytes32 (n / 4294967296)) p) in
    let high = back32 b (at + 4) (n / 4294967296) (holds_behind b at (bytes32 (n % 4294967296)) (bytes32 (n / 4294967296)) p) in
    ap (λ (k : ℕ). k + 4294967296 * number32 b (at + 4)) low ∙ ap (λ (k : ℕ). n % 4294967296 + 4294967296 * k) high ∙ omega arith

pub miles_back : (b : List ℕ) (at : ℕ) (x : Float) → MilesHeld x → Holds b at (bytes64 (bits_of x)) → miles_of (number64 b at) ≡ x
miles_back b at x fit p = ap miles_of (back64 b at (bits_of x) p) ∙ of_bits-to_bits binary64 x fit

-- the bits of a float are never all set
pub not_waiting : (x : Float) → MilesHeld x → bits_of x ≡ waiting → ⊥
not_waiting x fit e =
    let is_nan_lem : x ≡ nan = sym (of_bits-to_bits binary64 x fit) ∙ ap (of_bits binary64) e ∙ nan_above waiting (omega arith) in
    let two : waiting ≡ 9221120237041090560 = sym e ∙ ap (to_bits binary64) is_nan_lem ∙ nan_pattern in
    absurd (omega (arith, two))

pub progress_back : (b : List ℕ) (at : ℕ) (p : Progress) → ProgressWith MilesHeld p → Holds b at (bytes64 (progress_bits p)) → progress_of (number64 b at) ≡ p
progress_back b at Waiting fit h = ap progress_of (back64 b at waiting h)
progress_back b at (Flying x) fit h =
    ap progress_of (back64 b at (bits_of x) h) ∙ if_false _ _ (ne_eqb (bits_of x) waiting (not_waiting x fit)) ∙ ap Flying (of_bits-to_bits binary64 x fit)

-- ---- parts of one size

module _ {A : Type 0} (P : A → Type 0) (write : A → List ℕ) (size : ℕ) (sized : (x : A) → P x → length (write x) ≡ size) where
  pub each_size : (xs : List A) → Each P xs → length (bytes_of_each write xs) ≡ size * length xs
  each_size [] ps = omega arith
  each_size (x ∷ xs) ps =
      let a = length-append (write x) (bytes_of_each write xs) in
      let s = sized x ps.0 in
      let r = each_size xs ps.1 in
      let m = mul-suc size (length xs) in
      omega (arith, a, s, r, m)

  pub each_back : (b : List ℕ) (read : ℕ → A) → ((x : A) → P x → (at : ℕ) → Holds b at (write x) → read at ≡ x)
      → (xs : List A) → Each P xs → (at : ℕ) → Holds b at (bytes_of_each write xs) → several read size (length xs) at ≡ xs
  each_back b read reads [] ps at h = refl
  each_back b read reads (x ∷ xs) ps at h =
      let here = reads x ps.0 at (holds_first b at (write x) (bytes_of_each write xs) h) in
      let behind = subst (λ (n : ℕ). Holds b (at + n) (bytes_of_each write xs)) (sized x ps.0) (holds_behind b at (write x) (bytes_of_each write xs) h) in
      let rest = each_back b read reads xs ps.1 (at + size) behind in
      λ t. here t ∷ rest t
