-- Claims about okay sequences, and about one or two places in them: a computed test of each, and what a passed test says. Assumes
-- nothing.
use mathlib.Core.Bool.{Bool, true, false, ◌&&◌}
use mathlib.Core.List.{List, [], ◌∷◌, ◌++◌, append-nil, append_assoc}
use Prim.Native.Nat.{ℕ, zero, suc}
use lib.Dec.{T}
use lib.ListN.{get_or}
use lib.Ieee.Fits.{and_l, and_r}
use Rattle.order.specs.Model.{Side, okay}
use Rattle.order.proofs.Sweep.{if_at, every_okay, every_okay_at}

-- all the listed tests hold
abbrev all_hold : List Bool → Bool
all_hold [] = true
all_hold (c ∷ cs) = c && all_hold cs

-- test number i of the list holds, counted from 0
abbrev pub EachHolds : List Bool → Type 0
EachHolds cs = (i : ℕ) → T (get_or cs i true)

-- where all the listed tests hold, each holds
all_hold_at : (cs : List Bool) → T (all_hold cs) → EachHolds cs
all_hold_at [] t i = tt
all_hold_at (c ∷ cs) t zero = and_l c (all_hold cs) t
all_hold_at (c ∷ cs) t (suc i) = all_hold_at cs (and_r c (all_hold cs) t) i

-- what is claimed of a place in a sequence whose first has fix f: where the one test holds, the listed ones hold
pub record Claim (Place : Type 0) : Type 0 where
  pub given : Side → Place → Bool
  pub shown : Side → Place → List Bool

module _ {Place : Type 0} (c : Claim Place) where
  -- the claim, tested at one place
  abbrev holds : Side → Place → Bool
  holds f x = elim (c.given f x) [ true ↦ all_hold (c.shown f x) | false ↦ true ]

  -- where the test is passed and what is given holds, so does what is shown
  holds_at : (f : Side) (x : Place) → T (holds f x) → T (c.given f x) → EachHolds (c.shown f x)
  holds_at f x t g = all_hold_at (c.shown f x) (if_at (c.given f x) (all_hold (c.shown f x)) t g)

-- ---- several tests of every okay sequence

-- a test of a sequence whose first has fix f
abbrev pub Test : Type 0
Test = Side → List ℕ → Bool

-- the test holds of every okay sequence
abbrev pub Passed : Test → Type 0
Passed test = (f : Side) (zs : List ℕ) → T (okay f zs) → T (test f zs)

-- all the listed tests of one sequence
abbrev together : List Test → Test
together [] f zs = true
together (t ∷ ts) f zs = t f zs && together ts f zs

-- where all hold of it, each does
together_at : (ts : List Test) (f : Side) (zs : List ℕ) → T (together ts f zs) → (i : ℕ) → T (get_or ts i (λ g ys. true) f zs)
together_at [] f zs p i = tt
together_at (t ∷ ts) f zs p zero = and_l (t f zs) (together ts f zs) p
together_at (t ∷ ts) f zs p (suc i) = together_at ts f zs (and_r (t f zs) (together ts f zs) p) i

-- the listed tests of every okay sequence: the sequences are built once for all of them
abbrev pub of_all : List Test → Bool
of_all ts = every_okay (together ts)

-- test number i of a list that passed holds of every okay sequence, counted from 0
pub of_all_lem : (ts : List Test) → T (of_all ts) → (i : ℕ) → Passed (get_or ts i (λ g ys. true))
of_all_lem ts t i f zs o = together_at ts f zs (every_okay_at (together ts) t f zs o) i

-- ---- the whole sequence

-- the claim, tested of a sequence
abbrev pub of_sequences : Claim (List ℕ) → Test
of_sequences c f zs = holds c f zs

-- a claim that passed holds of each
pub of_sequence : (c : Claim (List ℕ)) → Passed (of_sequences c) → (f : Side) (zs : List ℕ) → T (okay f zs) → T (c.given f zs) → EachHolds (c.shown f zs)
of_sequence c t f zs o g = holds_at c f zs (t f zs o) g

-- ---- one in a sequence

-- the test of each of zs₂, with those ahead of it, zs₁ first, and those behind it
abbrev every_split : (List ℕ → ℕ → List ℕ → Bool) → List ℕ → List ℕ → Bool
every_split test zs₁ [] = true
every_split test zs₁ (z ∷ zs₂) = test zs₁ z zs₂ && every_split test (zs₁ ++ (z ∷ [])) zs₂

-- a passed test of each holds of any one
every_split_at : (test : List ℕ → ℕ → List ℕ → Bool) (zs₀ zs₁ : List ℕ) (z : ℕ) (zs₂ : List ℕ)
    → T (every_split test zs₀ (zs₁ ++ z ∷ zs₂)) → T (test (zs₀ ++ zs₁) z zs₂)
every_split_at test zs₀ [] z zs₂ t = rw append-nil (and_l (test zs₀ z zs₂) (every_split test (zs₀ ++ (z ∷ [])) zs₂) t)
every_split_at test zs₀ (y ∷ zs₁) z zs₂ t =
    rw append_assoc at
    (every_split_at test (zs₀ ++ (y ∷ [])) zs₁ z zs₂
    (and_r (test zs₀ y (zs₁ ++ z ∷ zs₂)) (every_split test (zs₀ ++ (y ∷ [])) (zs₁ ++ z ∷ zs₂)) t))

-- those ahead of it, its zone, those behind it
abbrev pub One : Type 0
One = List ℕ × ℕ × List ℕ

-- the claim, tested of each one of zs
abbrev pub of_ones : Claim One → Test
of_ones c f zs = every_split (λ zs₁ z zs₂. holds c f (zs₁, z, zs₂)) [] zs

-- a claim that passed holds of any one
pub of_one : (c : Claim One) → Passed (of_ones c) → (f : Side) (zs₁ : List ℕ) (z : ℕ) (zs₂ : List ℕ) → T (okay f (zs₁ ++ z ∷ zs₂))
    → T (c.given f (zs₁, z, zs₂)) → EachHolds (c.shown f (zs₁, z, zs₂))
of_one c t f zs₁ z zs₂ o g =
    holds_at c f (zs₁, z, zs₂)
    (every_split_at (λ xs y ys. holds c f (xs, y, ys)) [] zs₁ z zs₂ (t f (zs₁ ++ z ∷ zs₂) o)) g

-- ---- two in a sequence

-- those ahead of both, the zone of the first, those between, the zone of the second, those behind both
abbrev pub Two : Type 0
Two = List ℕ × ℕ × List ℕ × ℕ × List ℕ

-- the claim, tested of the one in zone y with each one behind it
abbrev each_second : Claim Two → Side → List ℕ → ℕ → List ℕ → Bool
each_second c f zs₁ y zs = every_split (λ zs₂ z zs₃. holds c f (zs₁, y, zs₂, z, zs₃)) [] zs

-- the claim, tested of each two of zs
abbrev pub of_twos : Claim Two → Test
of_twos c f zs = every_split (each_second c f) [] zs

-- a claim that passed holds of any two
pub of_two : (c : Claim Two) → Passed (of_twos c) → (f : Side) (zs₁ : List ℕ) (y : ℕ) (zs₂ : List ℕ) (z : ℕ) (zs₃ : List ℕ)
    → T (okay f (zs₁ ++ y ∷ (zs₂ ++ z ∷ zs₃))) → T (c.given f (zs₁, y, zs₂, z, zs₃)) → EachHolds (c.shown f (zs₁, y, zs₂, z, zs₃))
of_two c t f zs₁ y zs₂ z zs₃ o g =
    let zs = zs₂ ++ z ∷ zs₃ in
    holds_at c f (zs₁, y, zs₂, z, zs₃)
    (every_split_at (λ xs x ys. holds c f (zs₁, y, xs, x, ys)) [] zs₂ z zs₃
    (every_split_at (each_second c f) [] zs₁ y zs (t f (zs₁ ++ y ∷ zs) o))) g
