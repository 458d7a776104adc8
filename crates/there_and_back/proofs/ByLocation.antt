-- A list by its locations: how many there are in all, and who stands alone at a location. Assumes nothing.
use mathlib.Core.Path.{◌≡◌, refl, ap, ◌∙◌}
use mathlib.Core.Bool.{Bool, true, false, cond}
use mathlib.Core.List.{List, [], ◌∷◌, ◌++◌}
use Prim.Native.Nat.{ℕ, suc, ◌+◌, ◌≤◌, ◌<◌}
use native.Mathlib.Omega.{arith}
use lib.Dec.{T, eqb, leb, leb→le, le→leb, eqb→eq}
use lib.ListN.{length}
use lib.Ieee.Fits.{and_i, and_l, and_r}
use borrow.Author.Tests.{ne_eqb}
use Rattle.request.specs.Input.{within}
use Rattle.field.specs.Airspace.{is_side}
use Rattle.field.proofs.TestLaws.{if_true, if_false, each_from}
use Rattle.dialect.specs.declared.ListEntry.{ListEntry}
use Rattle.dialect_field.specs.Coming.{is_placed, placed_from, fix_in}
use Rattle.there_and_back.proofs.Shape.{at_zone, Located}

-- ---- one that is placed
module _ (e : ListEntry) (place : ℕ) (t : T (is_placed e place)) where
  pub holding : T (within 1 4 e.location)
  unfolding is_placed
  holding = and_l (within 1 4 e.location) (eqb e.place place) t

  pub own_place : e.place ≡ place
  unfolding is_placed
  own_place = eqb→eq e.place place (and_r (within 1 4 e.location) (eqb e.place place) t)

  pub from_1 : 1 ≤ e.location
  from_1 = leb→le 1 e.location (and_l (leb 1 e.location) (leb e.location 4) holding)

  pub to_4 : e.location ≤ 4
  to_4 = leb→le e.location 4 (and_r (leb 1 e.location) (leb e.location 4) holding)

  pub in_a_zone : T (within 1 13 e.location)
  in_a_zone = and_i (leb 1 e.location) (leb e.location 13) (le→leb 1 e.location from_1) (le→leb e.location 13 (let h = to_4 in omega arith))

pub first_placed : (place : ℕ) (e : ListEntry) (es : List ListEntry) → T (placed_from place (e ∷ es)) → T (is_placed e place)
first_placed place e es t = and_l (is_placed e place) (placed_from (suc place) es) t

pub rest_placed : (place : ℕ) (e : ListEntry) (es : List ListEntry) → T (placed_from place (e ∷ es)) → T (placed_from (suc place) es)
rest_placed place e es t = and_r (is_placed e place) (placed_from (suc place) es) t

pub located : (place : ℕ) (es : List ListEntry) → T (placed_from place es) → Located es
located place [] t = tt
located place (e ∷ es) t = (in_a_zone e place (first_placed place e es t), located (suc place) es (rest_placed place e es t))

-- ---- who is where

-- nobody elsewhere
pub none_at : (z place : ℕ) (es : List ListEntry) → T (placed_from place es) → 4 < z → at_zone z es ≡ []
none_at z place [] t h = refl
none_at z place (e ∷ es) t h =
    let most = to_4 e place (first_placed place e es t) in
    if_false (e ∷ at_zone z es) (at_zone z es) (ne_eqb z e.location (λ q. omega arith)) ∙ none_at z (suc place) es (rest_placed place e es t) h

-- so all are at one of the four
one_of_four : (n : ℕ) (e : ListEntry) (a b c d : List ListEntry) → n ≡ length a + length b + length c + length d → 1 ≤ e.location → e.location ≤ 4
    → suc n
    ≡ length (cond (eqb 1 e.location) (e ∷ a) a) + length (cond (eqb 2 e.location) (e ∷ b) b) + length (cond (eqb 3 e.location) (e ∷ c) c)
    + length (cond (eqb 4 e.location) (e ∷ d) d)
one_of_four n e a b c d h low high =
    each_from 1 4
    (λ (l : ℕ). suc n ≡ length (cond (eqb 1 l) (e ∷ a) a) + length (cond (eqb 2 l) (e ∷ b) b) + length (cond (eqb 3 l) (e ∷ c) c) + length (cond (eqb 4 l) (e ∷ d) d))
    (omega arith, (omega arith, (omega arith, (omega arith, tt))))
    e.location low (omega arith)

pub in_all : (place : ℕ) (es : List ListEntry) → T (placed_from place es)
    → length es ≡ length (at_zone 1 es) + length (at_zone 2 es) + length (at_zone 3 es) + length (at_zone 4 es)
in_all place [] t = refl
in_all place (e ∷ es) t =
    let p = first_placed place e es t in
    one_of_four (length es) e (at_zone 1 es) (at_zone 2 es) (at_zone 3 es) (at_zone 4 es) (in_all (suc place) es (rest_placed place e es t)) (from_1 e place p) (to_4 e place p)

-- one of the list among those of its location
pub at_split : (z : ℕ) (xs : List ListEntry) (e : ListEntry) (ys : List ListEntry) → eqb z e.location ≡ true → at_zone z (xs ++ e ∷ ys) ≡ at_zone z xs ++ e ∷ at_zone z ys
at_split z [] e ys h = if_true (e ∷ at_zone z ys) (at_zone z ys) h
at_split z (x ∷ xs) e ys h = go (eqb z x.location) (at_split z xs e ys h)
  where
    go : (b : Bool) → at_zone z (xs ++ e ∷ ys) ≡ at_zone z xs ++ e ∷ at_zone z ys
        → cond b (x ∷ at_zone z (xs ++ e ∷ ys)) (at_zone z (xs ++ e ∷ ys)) ≡ cond b (x ∷ at_zone z xs) (at_zone z xs) ++ e ∷ at_zone z ys
    go true r = ap (λ (l : List ListEntry). x ∷ l) r
    go false r = r

pub only : {A : Type 0} (xs : List A) (x : A) (ys : List A) → length (xs ++ x ∷ ys) ≤ 1 → xs ++ x ∷ ys ≡ x ∷ []
only [] x [] h = refl
only [] x (y ∷ ys) h = absurd (omega arith)
only (z ∷ []) x ys h = absurd (omega arith)
only (z ∷ w ∷ zs) x ys h = absurd (omega arith)

-- ---- a fix that is a side is itself
pub side_kept : (n : ℕ) → T (is_side n) → fix_in n ≡ n
unfolding fix_in
side_kept n t = go (is_side n) t
  where
    go : (b : Bool) → T b → cond b n 0 ≡ n
    go true u = refl
    go false u = absurd u

pub fix_kept : (n : ℕ) → T (is_side (fix_in n)) → fix_in n ≡ n
unfolding fix_in is_side
fix_kept n t = go (is_side n) t
  where
    go : (b : Bool) → T (is_side (cond b n 0)) → cond b n 0 ≡ n
    go true u = refl
    go false u = absurd u
