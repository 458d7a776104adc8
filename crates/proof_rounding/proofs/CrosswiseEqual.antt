-- A fraction that is (p - q) / d: what the sum, the difference and the product of two such are, that two are the same number where the whole numbers say so,
-- and which of two is the smaller. Nothing here is about floats. Assumes nothing.
use mathlib.Core.Path.{◌≡◌, refl, sym, ap, ◌∙◌, subst}
use mathlib.Core.Bool.{true, false, ◌&&◌}
use Prim.Native.Nat.{ℕ, ◌+◌, ◌*◌, ◌≤◌, ◌<◌, min}
use native.Mathlib.Nat.{mul_assoc, mul_comm, mul_left_comm, mul-pos, zero-mul, add-mul, eq_of_mul-eq-mul_right, lt_of_not-le, not-le_of_lt, mul-le-mul_right, mul-lt-mul_of_pos_right}
use native.Mathlib.Omega.{arith}
use native.Mathlib.Decide.{dec_le}
use lib.Dec.{T, eqb}
use lib.Ieee.Fits.{and_i, eq→eqb}
use borrow.Author.Tests.{ne_eqb, lt-ltb, le-ltb}
use Rattle.field.proofs.TestLaws.{fail, if_true, if_false}
use Rattle.proof_rounding.specs.Fractions.{Fraction, over, is_number, same, less, smaller_of, sum_of, difference_of, product_of}

-- the fraction is (p - q) / d
pub record Is (a : Fraction) (p q d : ℕ) : Type 0 where
  pub some : 0 < a.under
  pub parts : a.plus * d + q * a.under ≡ p * a.under + a.minus * d

-- ---- products in another order
into_first : (u v w : ℕ) → u * v * w ≡ u * w * v
into_first u v w = mul_assoc u v w ∙ ap (λ (z : ℕ). u * z) (mul_comm v w) ∙ sym (mul_assoc u w v)

-- both sides of an equation of two sums, times k
times : (a b c e k : ℕ) → a + b ≡ c + e → a * k + b * k ≡ c * k + e * k
times a b c e k h = sym (add-mul a b k) ∙ ap (λ (z : ℕ). z * k) h ∙ add-mul c e k

-- the equation of a fraction, times k, with d at the end
scaled : (a : Fraction) (p q d k : ℕ) → Is a p q d → a.plus * k * d + q * (a.under * k) ≡ p * (a.under * k) + a.minus * k * d
scaled a p q d k h =
    (λ i. into_first a.plus k d i + sym (mul_assoc q a.under k) i)
    ∙ times (a.plus * d) (q * a.under) (p * a.under) (a.minus * d) k h.parts
    ∙ (λ i. mul_assoc p a.under k i + into_first a.minus d k i)

-- the same by another two whole numbers
pub is_shifted : (a : Fraction) (p q r s d : ℕ) → p + s ≡ r + q → Is a p q d → Is a r s d
is_shifted a p q r s d e h =
    let all = ap (λ (z : ℕ). z * a.under) e in
    let one = add-mul p s a.under in
    let other = add-mul r q a.under in
    let same = h.parts in
    record { some = h.some; parts = omega arith }

-- ---- two of them
module _ (a b : Fraction) (p q r s d : ℕ) (h : Is a p q d) (k : Is b r s d) where
  abbrev both : ℕ
  both = a.under * b.under

  -- each by the product of what is under them
  first : a.plus * b.under * d + q * both ≡ p * both + a.minus * b.under * d
  first = scaled a p q d b.under h

  second : b.plus * a.under * d + s * both ≡ r * both + b.minus * a.under * d
  second =
      subst (λ (z : ℕ). b.plus * a.under * d + s * z ≡ r * z + b.minus * a.under * d) (mul_comm b.under a.under) (scaled b r s d a.under k)

  pub is_sum : Is (sum_of a b) (p + r) (q + s) d
  is_sum =
      let x = first in
      let y = second in
      let up = add-mul (a.plus * b.under) (b.plus * a.under) d in
      let down = add-mul (a.minus * b.under) (b.minus * a.under) d in
      let more = add-mul q s both in
      let less = add-mul p r both in
      record { some = mul-pos h.some k.some; parts = omega arith }

  pub is_difference : Is (difference_of a b) (p + s) (q + r) d
  is_difference =
      let x = first in
      let y = second in
      let up = add-mul (a.plus * b.under) (b.minus * a.under) d in
      let down = add-mul (a.minus * b.under) (b.plus * a.under) d in
      let more = add-mul q r both in
      let less = add-mul p s both in
      record { some = mul-pos h.some k.some; parts = omega arith }

  abbrev left : ℕ
  left = a.plus * b.under + b.minus * a.under

  abbrev right : ℕ
  right = b.plus * a.under + a.minus * b.under

  -- what is compared, in whole numbers
  crosswise : left * d + (q + r) * both ≡ (p + s) * both + right * d
  crosswise =
      let x = first in
      let y = second in
      let up = add-mul (a.plus * b.under) (b.minus * a.under) d in
      let down = add-mul (b.plus * a.under) (a.minus * b.under) d in
      let more = add-mul q r both in
      let less = add-mul p s both in
      omega arith

  -- the same number, where the whole numbers say so
  pub is_same : 0 < d → p + s ≡ r + q → T (same a b)
  is_same D e =
      let c = crosswise in
      let equal = ap (λ (z : ℕ). z * both) e in
      let more = add-mul q r both in
      let less = add-mul r q both in
      let all : left * d ≡ right * d = omega arith in
      and_i (is_number a && is_number b) (eqb left right) (and_i (is_number a) (is_number b) (number a h.some) (number b k.some))
      (eq→eqb (eq_of_mul-eq-mul_right d D left right all))
    where
      number : (c : Fraction) → 0 < c.under → T (is_number c)
      number c t = fail (ne_eqb c.under 0 (λ e. omega arith))

  -- which is the smaller
  pub is_less : 0 < d → p + s < r + q → less a b ≡ true
  is_less D e =
      let c = crosswise in
      let under : (p + s) * both < (q + r) * both = mul-lt-mul_of_pos_right (omega arith) (mul-pos h.some k.some) in
      lt-ltb left right (lt_of_not-le (λ (g : right ≤ left). let all = mul-le-mul_right d g in let none : ⊥ = omega arith in none))

  pub not_less : 0 < d → r + q ≤ p + s → less a b ≡ false
  not_less D e =
      let c = crosswise in
      let over : (q + r) * both ≤ (p + s) * both = mul-le-mul_right both (omega arith) in
      le-ltb left right (le_cut right left d D (omega arith))
    where
      le_cut : (u v d : ℕ) → 0 < d → u * d ≤ v * d → u ≤ v
      le_cut u v d D g = elim (dec_le u v) [ yes l ↦ l | no n ↦ absurd (not-le_of_lt (mul-lt-mul_of_pos_right (lt_of_not-le n) D) g) ]

-- the smaller of two that are not below zero
pub is_smaller : (a b : Fraction) (m n d : ℕ) → 0 < d → Is a m 0 d → Is b n 0 d → Is (smaller_of a b) (min n m) 0 d
is_smaller a b m n d D h k = go (dec_le n m)
  where
    go : Dec (n ≤ m) → Is (smaller_of a b) (min n m) 0 d
    go (yes l) =
        let least : n ≡ min n m = omega arith in
        subst (λ (c : Fraction). Is c (min n m) 0 d) (sym (if_false a b (not_less a b m 0 n 0 d h k D (omega arith)))) (subst (λ (z : ℕ). Is b z 0 d) least k)
    go (no g) =
        let l : m < n = lt_of_not-le g in
        let least : m ≡ min n m = omega arith in
        subst (λ (c : Fraction). Is c (min n m) 0 d) (sym (if_true a b (is_less a b m 0 n 0 d h k D (omega arith)))) (subst (λ (z : ℕ). Is a z 0 d) least h)

-- ---- n / d itself, and in other parts
pub is_itself : (n d : ℕ) → 0 < d → Is (over n d) n 0 d
is_itself n d D = record { some = D; parts = refl }

pub is_over : (n e d : ℕ) → 0 < e → Is (over n e) (n * d) 0 (e * d)
is_over n e d E = record { some = E; parts = let h = sym (mul_assoc n e d) ∙ into_first n e d in let z = zero-mul e in let w = zero-mul (e * d) in omega arith }

-- ---- the product
-- where u - v is P - Q, and U - W is R - S, the products are the same
products : (u v P Q U W R S : ℕ) → u + Q ≡ P + v → U + S ≡ R + W → u * U + v * W + (P * S + Q * R) ≡ P * R + Q * S + (u * W + v * U)
products u v P Q U W R S h k =
    let a = times u Q P v U h in
    let b = times u Q P v W h in
    let c = times U S R W P k in
    let e = times U S R W Q k in
    let m1 = mul_comm U P in
    let m2 = mul_comm S P in
    let m3 = mul_comm R P in
    let m4 = mul_comm W P in
    let m5 = mul_comm U Q in
    let m6 = mul_comm S Q in
    let m7 = mul_comm R Q in
    let m8 = mul_comm W Q in
    omega arith

two_by_two : (u x v y : ℕ) → u * x * (v * y) ≡ u * v * (x * y)
two_by_two u x v y = simp (mul_assoc, mul_left_comm)

pub is_product : (a b : Fraction) (p q r s d e : ℕ) → Is a p q d → Is b r s e → Is (product_of a b) (p * r + q * s) (p * s + q * r) (d * e)
is_product a b p q r s d e h k =
    let A = a.plus in
    let x = a.under in
    let B = b.plus in
    let y = b.under in
    let all = products (A * d) (a.minus * d) (p * x) (q * x) (B * e) (b.minus * e) (r * y) (s * y) h.parts k.parts in
    let up = add-mul (A * B) (a.minus * b.minus) (d * e) in
    let down = add-mul (A * b.minus) (a.minus * B) (d * e) in
    let more = add-mul (p * s) (q * r) (x * y) in
    let less = add-mul (p * r) (q * s) (x * y) in
    let t1 = two_by_two A d B e in
    let t2 = two_by_two a.minus d b.minus e in
    let t3 = two_by_two A d b.minus e in
    let t4 = two_by_two a.minus d B e in
    let t5 = two_by_two p x s y in
    let t6 = two_by_two q x r y in
    let t7 = two_by_two p x r y in
    let t8 = two_by_two q x s y in
    record { some = mul-pos h.some k.some; parts = omega arith }
