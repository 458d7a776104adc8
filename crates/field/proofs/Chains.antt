-- The library's words for what a chain of iterators tests, as this repository's definitions. Assumes nothing.
use mathlib.Core.Path.{◌≡◌, refl, sym, ap, ◌∙◌}
use mathlib.Core.Bool.{Bool, ◌&&◌}
use mathlib.Core.List.{List, ◌∷◌}
use Prim.Native.Nat.{ℕ, zero, suc, ◌+◌, ◌-◌, ◌≤◌, ◌<◌}
use native.Mathlib.Omega.{arith}
use borrow.Author.Tests.{le-leb}
use lib.Dec.{leb}
use lib.ListN.{length, get_or, take, drop, length-drop}
use lib.Seq.{drop-cons, take_all}
use Rattle.std.specs.List.{list_all}
use Rattle.std.proofs.lemmas.List.Recursion.{same_from_clauses}
use Rattle.field.specs.declared.Zone.{Zone}
use Rattle.field.specs.declared.Field.{Field}
use Rattle.field.specs.Airspace.{zones_from, empty_zone, zone_of}
use Rattle.field.specs.Lists.{every}
use Rattle.field.proofs.TestParts.{and_then}

-- a test that each one passes
pub every_passes : {A : Type 0} (p : A → Bool) (xs : List A) → list_all p xs ≡ every p xs
every_passes p = same_from_clauses (list_all p) (every p) (λ x b. p x && b) refl (λ _ _. refl) (λ _ _. refl)

-- the part of a list from place i on, as a slice has it
pub part_from : {A : Type 0} (l : List A) (i : ℕ) → take (length l - i) (drop i l) ≡ drop i l
part_from l i = take_all (length l - i) (drop i l) (omega (arith, length-drop i l))

-- so what a chain says of the places from n on, where n is at most m
pub all_from : {A : Type 0} (p : A → Bool) (l : List A) (n m : ℕ) {r : Bool} → n ≤ m → r ≡ list_all p (take (length l - n) (drop n l)) → r ≡ (leb n m && every p (drop n l))
all_from p l n m h e =
    e ∙ every_passes p (take (length l - n) (drop n l)) ∙ ap (every p) (part_from l n) ∙ sym (and_then (le-leb n m h) refl)

-- a test of each of n zones from index k of the field's array is that of the zones by their numbers
pub every_along : (f : Field) (p : Zone → Bool) (k n : ℕ) → k + n ≤ length f.zones → list_all p (take n (drop k f.zones)) ≡ every (λ z. p (zone_of f z)) (zones_from (suc k) n)
unfolding zone_of
every_along f p k zero h = refl
every_along f p k (suc n) h =
    let first : k < length f.zones = omega arith in
    ap (λ (l : List Zone). list_all p (take (suc n) l)) (drop-cons f.zones k empty_zone first)
    ∙ ap (λ (b : Bool). p (get_or f.zones k empty_zone) && b) (every_along f p (suc k) n (omega arith))
