-- Laws of lists of numbers: who is in a list, what is all different, and the lists of zones. Assumes nothing.
use mathlib.Core.Path.{◌≡◌, refl, sym, ap, ◌∙◌, subst}
use mathlib.Core.Logic.{◌⊎◌, inl, inr}
use mathlib.Core.Bool.{Bool, true, false, not, ◌||◌, true≢false, or_assoc, or-true}
use mathlib.Core.List.{List, [], ◌∷◌, ◌++◌}
use Prim.Native.Nat.{ℕ, ◌+◌}
use native.Mathlib.Omega.{arith}
use borrow.Author.Tests.{ne_eqb, eqb-true}
use lib.Dec.{T, eqb, leb, le→leb}
use lib.Ieee.Fits.{and_i, and_l, and_r}
use Rattle.leg.specs.Ticks.{Between}
use Rattle.field.specs.Airspace.{area, everywhere}
use Rattle.field.specs.Lists.{is_in, every, all_different}
use Rattle.field.proofs.TestLaws.{failed, decided, flip_eqb, each_zone}

-- ---- either
pub or_false_left : (a b : Bool) → (a || b) ≡ false → a ≡ false
or_false_left true b e = e
or_false_left false b e = refl

pub or_false_right : (a b : Bool) → (a || b) ≡ false → b ≡ false
or_false_right true b e = absurd (true≢false e)
or_false_right false b e = e

pub or_false : {a b : Bool} → a ≡ false → b ≡ false → (a || b) ≡ false
or_false {a} {b} p q = ap (λ (t : Bool). t || b) p ∙ q

-- ---- who is in a list
pub in_append : (n : ℕ) (xs ys : List ℕ) → is_in n (xs ++ ys) ≡ (is_in n xs || is_in n ys)
in_append n [] ys = refl
in_append n (x ∷ xs) ys = ap (λ (b : Bool). eqb x n || b) (in_append n xs ys) ∙ sym (or_assoc (eqb x n) (is_in n xs) (is_in n ys))

pub absent_left : (n : ℕ) (xs ys : List ℕ) → is_in n (xs ++ ys) ≡ false → is_in n xs ≡ false
absent_left n xs ys e = or_false_left (is_in n xs) (is_in n ys) (sym (in_append n xs ys) ∙ e)

pub absent_right : (n : ℕ) (xs ys : List ℕ) → is_in n (xs ++ ys) ≡ false → is_in n ys ≡ false
absent_right n xs ys e = or_false_right (is_in n xs) (is_in n ys) (sym (in_append n xs ys) ∙ e)

pub absent_both : (n : ℕ) (xs ys : List ℕ) → is_in n xs ≡ false → is_in n ys ≡ false → is_in n (xs ++ ys) ≡ false
absent_both n xs ys p q = in_append n xs ys ∙ or_false p q

-- who is in a part is in the whole
pub in_left : (n : ℕ) (xs ys : List ℕ) → is_in n xs ≡ true → is_in n (xs ++ ys) ≡ true
in_left n xs ys e = in_append n xs ys ∙ ap (λ (b : Bool). b || is_in n ys) e

pub in_right : (n : ℕ) (xs ys : List ℕ) → is_in n ys ≡ true → is_in n (xs ++ ys) ≡ true
in_right n xs ys e = in_append n xs ys ∙ ap (λ (b : Bool). is_in n xs || b) e ∙ or-true (is_in n xs)

-- ---- all different
-- one of a list of different numbers is not among the others
pub record Alone (n : ℕ) (xs ys : List ℕ) : Type 0 where
  pub ahead : is_in n xs ≡ false
  pub behind : is_in n ys ≡ false

pub alone : (xs : List ℕ) (n : ℕ) (ys : List ℕ) → T (all_different (xs ++ n ∷ ys)) → Alone n xs ys
alone [] n ys t = record { ahead = refl; behind = failed (and_l (not (is_in n ys)) (all_different ys) t) }
alone (x ∷ xs) n ys t =
    let rest = xs ++ n ∷ ys in
    let i = alone xs n ys (and_r (not (is_in x rest)) (all_different rest) t) in
    let o = absent_right x xs (n ∷ ys) (failed (and_l (not (is_in x rest)) (all_different rest) t)) in
    record { ahead = or_false (flip_eqb n x (or_false_left (eqb n x) (is_in x ys) o)) i.ahead; behind = i.behind }

-- the latter part of a list of different numbers is all different, ..
pub different_right : (xs ys : List ℕ) → T (all_different (xs ++ ys)) → T (all_different ys)
different_right [] ys t = t
different_right (x ∷ xs) ys t = different_right xs ys (and_r (not (is_in x (xs ++ ys))) (all_different (xs ++ ys)) t)

-- .. and who is in it is not in the former part
pub different_apart : (n : ℕ) (xs ys : List ℕ) → T (all_different (xs ++ ys)) → is_in n ys ≡ true → is_in n xs ≡ false
different_apart n [] ys t i = refl
different_apart n (x ∷ xs) ys t i =
    let absent = absent_right x xs ys (failed (and_l (not (is_in x (xs ++ ys))) (all_different (xs ++ ys)) t)) in
    or_false (ne_eqb x n (λ e. true≢false (sym (ap (λ (m : ℕ). is_in m ys) e ∙ i) ∙ absent)))
    (different_apart n xs ys (and_r (not (is_in x (xs ++ ys))) (all_different (xs ++ ys)) t) i)

-- ---- a test of every listed number holds of each
pub every_listed : (p : ℕ → Bool) (ns : List ℕ) (n : ℕ) → T (every p ns) → is_in n ns ≡ true → T (p n)
every_listed p [] n t i = absurd (true≢false (sym i))
every_listed p (m ∷ ns) n t i = go (decided (eqb m n)) (every_listed p ns n (and_r (p m) (every p ns) t))
  where
    go : (eqb m n ≡ true) ⊎ (eqb m n ≡ false) → (is_in n ns ≡ true → T (p n)) → T (p n)
    go (inl e) later = subst (λ (k : ℕ). T (p k)) (eqb-true m n e) (and_l (p m) (every p ns) t)
    go (inr e) later = later (sym (ap (λ (b : Bool). b || is_in n ns) e) ∙ i)

-- ---- lists of zones

-- the thirteen zones are listed
pub zone_listed : (z : ℕ) → Between 1 13 z → is_in z everywhere ≡ true
zone_listed z r =
    each_zone (λ (y : ℕ). is_in y everywhere ≡ true) (refl, (refl, (refl, (refl, (refl, (refl, (refl, (refl, (refl, (refl, (refl, (refl, (refl, tt))))))))))))) z
    (and_i (leb 1 z) (leb z 13) (le→leb 1 z r.least) (le→leb z 13 r.most))

-- the zones of a side's area are all different
pub area_different : (side : ℕ) → T (all_different (area side))
area_different side =
    simp (
      ne_eqb (2 + side) side (λ e. omega arith),
      ne_eqb (4 + side) side (λ e. omega arith),
      ne_eqb (6 + side) side (λ e. omega arith),
      ne_eqb (4 + side) (2 + side) (λ e. omega arith),
      ne_eqb (6 + side) (2 + side) (λ e. omega arith),
      ne_eqb (6 + side) (4 + side) (λ e. omega arith),
    )
    tt
