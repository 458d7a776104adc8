-- The index of any field is in order of number, with the unused places last. Assumes nothing.
use mathlib.Core.Path.{◌≡◌, refl, sym, ap, ◌∙◌, subst}
use mathlib.Core.Logic.{inl, inr}
use mathlib.Core.List.{List, [], ◌∷◌, map}
use Prim.Native.Nat.{ℕ, zero, suc, ◌≤◌, ◌<◌}
use native.Mathlib.Omega.{arith}
use lib.ListN.{replicate}
use Rattle.field.specs.declared.Field.{Field}
use Rattle.field.specs.Airspace.{everywhere}
use Rattle.questions.specs.Find.{numbers_in}
use Rattle.finder.specs.declared.Entry.{Entry}
use Rattle.finder.specs.Finder.{unused, entry_of, put_among, put_each, index_of, Unused, InOrder}
use Rattle.finder.proofs.Found.{before_unused, put_before, put_zero, put_by}

-- unused places are in order
pub unused_ordered : (k : ℕ) (es : List Entry) → Unused es → InOrder k es
unused_ordered k [] u = tt
unused_ordered k (e ∷ es) u = inl u

-- what is above k is above a lower number
lower : (j k : ℕ) → j ≤ k → (es : List Entry) → InOrder k es → InOrder j es
lower j k h [] o = tt
lower j k h (e ∷ es) (inl u) = inl u
lower j k h (e ∷ es) (inr p) = let above = p.0 in inr (omega (arith, above), p.1)

-- an entry put among entries in order
pub put_ordered : (k : ℕ) (e : Entry) → k < e.number → (es : List Entry) → InOrder k es → InOrder k (put_among e es)
put_ordered k e h [] o = tt
put_ordered k e h (x ∷ xs) (inl u) =
    let none : x.number ≡ 0 = ap (λ (y : Entry). y.number) u.0 in
    let made = put_before e x xs (before_unused e x (λ z. omega (arith, z, h)) none) ∙ ap (λ (l : List Entry). e ∷ l) (put_zero x none xs) in
    subst (InOrder k) (sym made) (inr (h, unused_ordered e.number xs u.1))
put_ordered k e h (x ∷ xs) (inr p) =
    let above = p.0 in
    put_by (InOrder k) e x xs (λ z. omega (arith, z, h)) (λ z. omega (arith, z, above))
    (λ g. inr (h, put_ordered e.number x g xs (lower e.number x.number (omega (arith, g)) xs p.1)))
    (λ g. inr p)
    (λ g. inr (above, put_ordered x.number e g xs p.1))

all_ordered : (f : Field) (ns : List ℕ) (es : List Entry) → InOrder 0 es → InOrder 0 (put_each (map (entry_of f) ns) es)
unfolding entry_of
all_ordered f [] es o = o
all_ordered f (zero ∷ ns) es o = all_ordered f ns (put_among (entry_of f 0) es) (subst (InOrder 0) (sym (put_zero (entry_of f 0) refl es)) o)
all_ordered f (suc n ∷ ns) es o = all_ordered f ns (put_among (entry_of f (suc n)) es) (put_ordered 0 (entry_of f (suc n)) (omega arith) es o)

-- The index of any field is in order of number, each number once and none of them 0, and its unused places stand last and are all zero.
pub index_in_order : (f : Field) → InOrder 0 (index_of f).entries
unfolding index_of
index_in_order f = all_ordered f (numbers_in f everywhere) (replicate 5 unused) (inl (refl, (refl, (refl, (refl, (refl, tt))))))
