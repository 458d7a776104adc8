-- Laws of tests: a test as a fact, and the numbers from 1 to 13 one by one. Assumes nothing.
use mathlib.Core.Path.{◌≡◌, refl, sym, ap, ◌∙◌, subst}
use mathlib.Core.Logic.{◌⊎◌, inl, inr}
use mathlib.Core.Bool.{Bool, true, false, cond, not, ◌&&◌, ◌||◌, true≢false}
use Prim.Native.Nat.{ℕ, zero, suc, ◌+◌, ◌≤◌, ◌<◌}
use native.Mathlib.Nat.{eq-or-lt_of_le}
use native.Mathlib.Omega.{arith}
use lib.Dec.{T, leb, eqb, leb→le, le→leb, eqb→eq, eqb_refl}
use lib.Ieee.Fits.{and_i, and_l, and_r}
use borrow.Author.Tests.{eq-eqb, ne_eqb}
use Rattle.field.specs.Airspace.{zones_from}
use Rattle.field.specs.Lists.{every}

-- ---- a passed test and an equation
pub passed : {b : Bool} → T b → b ≡ true
passed {b} t = go b t
  where
    go : (b : Bool) → T b → b ≡ true
    go true t = refl
    go false t = absurd t

pub pass : {b : Bool} → b ≡ true → T b
pass e = subst T (sym e) tt

pub failed : {b : Bool} → T (not b) → b ≡ false
failed {b} t = go b t
  where
    go : (b : Bool) → T (not b) → b ≡ false
    go true t = absurd t
    go false t = refl

pub fail : {b : Bool} → b ≡ false → T (not b)
fail e = subst (λ (c : Bool). T (not c)) (sym e) tt

-- a test holds or not
pub decided : (b : Bool) → (b ≡ true) ⊎ (b ≡ false)
decided true = inl refl
decided false = inr refl

-- ---- either of two tests
pub or_left : (a b : Bool) → T a → T (a || b)
or_left true b t = tt
or_left false b t = absurd t

pub or_right : (a b : Bool) → T b → T (a || b)
or_right true b t = tt
or_right false b t = t

-- ---- `cond` at a known test
pub if_true {ℓ} : {A : Type ℓ} {b : Bool} (x y : A) → b ≡ true → cond b x y ≡ x
if_true x y e = ap (λ (t : Bool). cond t x y) e

pub if_false {ℓ} : {A : Type ℓ} {b : Bool} (x y : A) → b ≡ false → cond b x y ≡ y
if_false x y e = ap (λ (t : Bool). cond t x y) e

-- what holds of each arm where its side of the test is known holds of `cond`
pub either_way {ℓ ℓ'} : {A : Type ℓ} (P : A → Type ℓ') (b : Bool) (x y : A) → (b ≡ true → P x) → (b ≡ false → P y) → P (cond b x y)
either_way P true x y h k = h refl
either_way P false x y h k = k refl

-- ---- numbers
pub same : (n : ℕ) → eqb n n ≡ true
same n = passed (eqb_refl n)

pub flip_eqb : (m n : ℕ) {b : Bool} → eqb m n ≡ b → eqb n m ≡ b
flip_eqb m n {b} e = go b e
  where
    go : (b : Bool) → eqb m n ≡ b → eqb n m ≡ b
    go true e = eq-eqb n m (sym (eqb→eq m n (pass e)))
    go false e = ne_eqb n m (λ q. true≢false (sym (eq-eqb m n (sym q)) ∙ e))

-- ---- from k on, n numbers: what holds of each one
abbrev pub EachFrom {ℓ} : ℕ → ℕ → (ℕ → Type ℓ) → Type ℓ
EachFrom k zero P = Unit {ℓ}
EachFrom k (suc n) P = P k × EachFrom (suc k) n P

pub each_from {ℓ} : (k n : ℕ) (P : ℕ → Type ℓ) → EachFrom k n P → (z : ℕ) → k ≤ z → z < k + n → P z
each_from k zero P p z l h = absurd (omega arith)
each_from k (suc n) P p z l h =
    elim (eq-or-lt_of_le l) [
      | inl e ↦ subst P e p.0
      | inr g ↦ each_from (suc k) n P p.1 z g (omega arith)
    ]

-- what holds of each of 1 to 13 holds of every zone
pub each_zone {ℓ} : (P : ℕ → Type ℓ) → EachFrom 1 13 P → (z : ℕ) → T (leb 1 z && leb z 13) → P z
each_zone P p z t =
    each_from 1 13 P p z (leb→le 1 z (and_l (leb 1 z) (leb z 13) t)) (let h = leb→le z 13 (and_r (leb 1 z) (leb z 13) t) in omega arith)

-- what holds of each zone of the operation area
pub each_operation {ℓ} : (P : ℕ → Type ℓ) → P 1 × P 2 × P 3 × P 4 × P 5 × P 6 × P 7 × P 8 × P 9 × P 10 × P 11 × P 12 → (z : ℕ) → T (leb 1 z && leb z 12) → P z
each_operation P (p1, p2, p3, p4, p5, p6, p7, p8, p9, p10, p11, p12) z t =
    each_zone (λ (y : ℕ). T (leb 1 y && leb y 12) → P y)
    ((λ u. p1), ((λ u. p2), ((λ u. p3), ((λ u. p4), ((λ u. p5), ((λ u. p6), ((λ u. p7), ((λ u. p8), ((λ u. p9), ((λ u. p10), ((λ u. p11), ((λ u. p12), ((λ u. absurd u), tt)))))))))))))
    z (and_i (leb 1 z) (leb z 13) (and_l (leb 1 z) (leb z 12) t) (le→leb z 13 (let h = leb→le z 12 (and_r (leb 1 z) (leb z 12) t) in omega arith))) t

-- ---- computed tests of a run of zones
pub every_from : (p : ℕ → Bool) (k n : ℕ) → T (every p (zones_from k n)) → (z : ℕ) → k ≤ z → z < k + n → T (p z)
every_from p k zero t z l h = absurd (omega arith)
every_from p k (suc n) t z l h =
    elim (eq-or-lt_of_le l) [
      | inl e ↦ subst (λ (y : ℕ). T (p y)) e (and_l (p k) (every p (zones_from (suc k) n)) t)
      | inr g ↦ every_from p (suc k) n (and_r (p k) (every p (zones_from (suc k) n)) t) z g (omega arith)
    ]

abbrev pub implies : Bool → Bool → Bool
implies a b = not a || b

pub implied : (a b : Bool) → T (implies a b) → T a → T b
implied true b t u = t
implied false b t u = absurd u

-- a test of 1 to 13 that implies another
pub zones_imply : (p q : ℕ → Bool) → T (every (λ z. implies (p z) (q z)) (zones_from 1 13)) → (z : ℕ) → T (leb 1 z && leb z 13) → T (p z) → T (q z)
zones_imply p q t z u =
    implied (p z) (q z)
    (every_from (λ z. implies (p z) (q z)) 1 13 t z (leb→le 1 z (and_l (leb 1 z) (leb z 13) u)) (let h = leb→le z 13 (and_r (leb 1 z) (leb z 13) u) in omega arith))
