-- A computed test of every okay sequence, and what a passed test says of each. The sequences are built from the last one forwards, and
-- one that breaks `chain` is not built on. Assumes nothing.
use mathlib.Core.Path.{◌≡◌, subst}
use mathlib.Core.Logic.{inl, inr}
use mathlib.Core.Bool.{Bool, true, false, ◌&&◌}
use mathlib.Core.List.{List, [], ◌∷◌}
use Prim.Native.Nat.{ℕ, zero, suc, ◌+◌, ◌-◌, ◌≤◌, ◌<◌}
use native.Mathlib.Nat.{not-suc-le-zero, le_of_suc-le-suc, eq-or-lt_of_le}
use native.Mathlib.Omega.{arith}
use lib.Dec.{T, leb, leb→le}
use lib.ListN.{length}
use lib.Ieee.Fits.{and_l, and_r}
use Rattle.request.specs.Input.{within}
use Rattle.field.specs.Lists.{every}
use Rattle.order.specs.Model.{Side, right_side, left_side, opp, pass_count, are_in_one_area, may_lead, may_head, chain, room_in_order, okay}

-- the test of every number below n
abbrev below : ℕ → (ℕ → Bool) → Bool
below zero test = true
below (suc n) test = test n && below n test

-- a passed test of every number below n holds of each
below_at : (n : ℕ) (test : ℕ → Bool) → T (below n test) → (k : ℕ) → k < n → T (test k)
below_at zero test t k h = absurd (not-suc-le-zero h)
below_at (suc n) test t k h =
    elim (eq-or-lt_of_le (le_of_suc-le-suc h)) [
      | inl e ↦ rw e (and_l (test n) (below n test) t)
      | inr l ↦ below_at n test (and_r (test n) (below n test) t) k l
    ]

-- a test made only where b holds has been passed where b holds
pub if_at : (b test : Bool) → T (elim b [ true ↦ test | false ↦ true ]) → T b → T test
if_at true test t h = t
if_at false test t h = absurd h

-- the next test of zs with one more in front, in zone z, where zs may follow it
abbrev in_front : (Side → List ℕ → Bool) → Side → List ℕ → ℕ → Bool
in_front next f zs z = elim (may_head (opp f) z zs) [ true ↦ next (opp f) (z ∷ zs) | false ↦ true ]

-- who may head a sequence is in a zone below 13
head_below : (f : Side) (z : ℕ) (zs : List ℕ) → T (may_head f z zs) → z < 13
head_below f z zs t =
    let a = within 1 12 z in
    let b = every (may_lead f z) zs in
    let at-most-12 = leb→le z 12 (and_r (leb 1 z) (leb z 12) (and_l a b (and_l (a && b) (leb (pass_count (are_in_one_area z) zs) 1) t))) in
    omega arith

module _ (test : Side → List ℕ → Bool) where
  -- the test of zs, whose first has fix f, and of all that come of it by at most n more in front
  abbrev sweep : ℕ → Side → List ℕ → Bool
  sweep zero f zs = test f zs
  sweep (suc n) f zs = test f zs && below 13 (in_front (sweep n) f zs)

  -- a passed sweep has passed the test where it started
  sweep_here : (n : ℕ) (f : Side) (zs : List ℕ) → T (sweep n f zs) → T (test f zs)
  sweep_here zero f zs t = t
  sweep_here (suc n) f zs t = and_l (test f zs) (below 13 (in_front (sweep n) f zs)) t

  -- and the sweep from zs with one more in front
  sweep_front : (n : ℕ) (f : Side) (z : ℕ) (zs : List ℕ) → T (sweep (suc n) f zs) → T (may_head (opp f) z zs) → T (sweep n (opp f) (z ∷ zs))
  sweep_front n f z zs t h =
      let each = below_at 13 (in_front (sweep n) f zs) (and_r (test f zs) (below 13 (in_front (sweep n) f zs)) t) in
      if_at (may_head (opp f) z zs) (sweep n (opp f) (z ∷ zs)) (each z (head_below (opp f) z zs h)) h

  -- the same, said of the fix of the new first
  sweep_first : (n : ℕ) (f : Side) (z : ℕ) (zs : List ℕ) → T (sweep (suc n) (opp f) zs) → T (may_head f z zs) → T (sweep n f (z ∷ zs))
  sweep_first n right_side z zs t h = sweep_front n left_side z zs t h
  sweep_first n left_side z zs t h = sweep_front n right_side z zs t h

  module _ (n : ℕ) (passed : (f : Side) → T (sweep n f [])) where
    -- the sweeps from the empty sequence come to every chain of at most n
    reach : (f : Side) (zs : List ℕ) (m : ℕ) → length zs + m ≡ n → T (chain f zs) → T (sweep m f zs)
    reach f [] m e c = let n-is-m : n ≡ m = omega arith in subst (λ (k : ℕ). T (sweep k f [])) n-is-m (passed f)
    reach f (z ∷ zs) m e c =
        sweep_first m f z zs
        (reach (opp f) zs (suc m) (omega arith) (and_r (may_head f z zs) (chain (opp f) zs) c))
        (and_l (may_head f z zs) (chain (opp f) zs) c)

    -- so that the test holds of every chain of at most n
    swept : (f : Side) (zs : List ℕ) → length zs ≤ n → T (chain f zs) → T (test f zs)
    swept f zs l c = let m = n - length zs in sweep_here m f zs (reach f zs m (omega arith) c)

-- the test of zs where there is room to miss
abbrev if_room : (Side → List ℕ → Bool) → Side → List ℕ → Bool
if_room test f zs = elim (room_in_order 0 f zs) [ true ↦ test f zs | false ↦ true ]

-- the test of every okay sequence
abbrev pub every_okay : (Side → List ℕ → Bool) → Bool
every_okay test = sweep (if_room test) 4 right_side [] && sweep (if_room test) 4 left_side []

-- a passed test of every okay sequence holds of each
pub every_okay_at : (test : Side → List ℕ → Bool) → T (every_okay test) → (f : Side) (zs : List ℕ) → T (okay f zs) → T (test f zs)
unfolding okay
every_okay_at test t f zs o =
    let short = leb (length zs) 4 in
    let short-chain = and_l (short && chain f zs) (room_in_order 0 f zs) o in
    let from : Side → Bool = λ g. sweep (if_room test) 4 g [] in
    let passed : (g : Side) → T (from g) = elim [ right_side ↦ and_l (from right_side) (from left_side) t | left_side ↦ and_r (from right_side) (from left_side) t ] in
    if_at (room_in_order 0 f zs) (test f zs)
    (swept (if_room test) 4 passed f zs (leb→le (length zs) 4 (and_l short (chain f zs) short-chain)) (and_r short (chain f zs) short-chain))
    (and_r (short && chain f zs) (room_in_order 0 f zs) o)
