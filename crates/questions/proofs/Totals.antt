-- One law for every count over zones: a number added up for each zone from `first` to `last`, one zone a turn, and that the numbers
-- that are added up are at most four. Assumes nothing.
use mathlib.Core.Path.{◌≡◌, refl, ap, ◌∙◌}
use mathlib.Core.Bool.{Bool, true, false, cond}
use mathlib.Core.List.{List, [], ◌∷◌}
use Rattle.std.specs.List.{sum_by, count_by}
use Rattle.std.proofs.lemmas.List.Sums.{sum_by-cons}
use Rattle.std.proofs.lemmas.List.Recursion.{is_sum_by}
use Prim.Native.Nat.{ℕ, zero, suc, ◌+◌, ◌-◌, ◌*◌, ◌≤◌, ◌<◌}
use native.Mathlib.Omega.{arith}
use native.Mathlib.Numerals.{add-one}
use lib.Dec.{eqb}
use lib.ListN.{length, get_or, take, drop}
use lib.Seq.{drop-cons}
use Rattle.field.specs.declared.Aircraft.{Aircraft}
use Rattle.field.specs.declared.Zone.{Zone}
use Rattle.field.specs.declared.Field.{Field}
use Rattle.field.specs.Airspace.{zones_from, empty_zone, zone_of, in_zone, area}
use Rattle.questions.specs.Counts.{total, have_fix, how_many, how_many_with_fix, counted_for}
use Rattle.field.specs.Lists.{is_in}
use Rattle.field.proofs.FieldKnown.{FieldKnown}
use Rattle.field.proofs.Shapes.{at_most_four}

-- a number for each of n zones from index k of the field's array, added up along the array, is that of the zones by their numbers
pub along_zones : (f : Field) (g : Zone → ℕ) (k n : ℕ) → k + n ≤ length f.zones → sum_by g (take n (drop k f.zones)) ≡ total (λ z. g (zone_of f z)) (zones_from (suc k) n)
unfolding zone_of
along_zones f g k zero h = refl
along_zones f g k (suc n) h =
    let first : k < length f.zones = omega arith in
    let e = ap (λ (l : List Zone). sum_by g (take (suc n) l)) (drop-cons f.zones k empty_zone first) in
    e ∙ sum_by-cons g (get_or f.zones k empty_zone) (take n (drop (suc k) f.zones)) ∙ ap (λ (m : ℕ). g (get_or f.zones k empty_zone) + m) (along_zones f g (suc k) n (omega arith))

-- a loop that has added up n before zone z, no more than four for each zone
pub record Added (g : ℕ → ℕ) (first last n z : ℕ) : Type 0 where
  pub low : first ≤ z
  pub high : z ≤ last + 1
  pub small : n ≤ 4 * (z - first)
  pub sum : n + total g (zones_from z (last + 1 - z)) ≡ total g (zones_from first (last + 1 - first))

module _ (g : ℕ → ℕ) (first last : ℕ) where
  pub added_more : (n z m : ℕ) → Added g first last n z → z ≤ last → m ≡ g z → g z ≤ 4 → Added g first last (n + m) (z + 1)
  added_more n z m a h e small =
      record { low = omega arith; high = omega arith; small = omega arith; sum = omega (arith, next) }
    where
      next : total g (zones_from z (last + 1 - z)) ≡ g z + total g (zones_from (z + 1) (last + 1 - (z + 1)))
      next =
          let e : last + 1 - z ≡ suc (last + 1 - suc z) = omega arith in
          rw (add-one z) (ap (λ (k : ℕ). total g (zones_from z k)) e)

  pub added_all : (n z : ℕ) → Added g first last n z → last < z → n ≡ total g (zones_from first (last + 1 - first))
  added_all n z a h = omega (arith, none)
    where
      none : total g (zones_from z (last + 1 - z)) ≡ 0
      none =
          let e : last + 1 - z ≡ 0 = omega arith in
          ap (λ (k : ℕ). total g (zones_from z k)) e

-- the numbers that are added up

either_fits : (b : Bool) {m n k : ℕ} → m ≤ k → n ≤ k → cond b m n ≤ k
either_fits true h l = h
either_fits false h l = l

-- those that have a fix are those that pass the test of it
pub have_fix_counted : (fix : ℕ) (l : List Aircraft) → have_fix fix l ≡ count_by (λ a. eqb a.fix fix) l
have_fix_counted fix = is_sum_by (have_fix fix) (λ a. cond (eqb a.fix fix) 1 0) refl (λ _ _. refl)

-- no more have a fix than there are
pub have_fix_fits : (fix : ℕ) (l : List Aircraft) → have_fix fix l ≤ length l
have_fix_fits fix [] = omega arith
have_fix_fits fix (a ∷ l) =
    let one : cond (eqb a.fix fix) 1 0 ≤ 1 = either_fits (eqb a.fix fix) (omega arith) (omega arith) in
    omega (arith, have_fix_fits fix l)

module _ {f : Field} (known : FieldKnown f) where
  pub how_many_fits : (z : ℕ) → how_many f z ≤ 4
  unfolding how_many
  how_many_fits z = at_most_four known z

  pub with_fix_fits : (side z : ℕ) → how_many_with_fix f side z ≤ 4
  unfolding how_many_with_fix
  with_fix_fits side z = omega (arith, have_fix_fits side (in_zone f z), at_most_four known z)

  pub counted_fits : (side z : ℕ) → counted_for f side z ≤ 4
  unfolding counted_for
  counted_fits side z = either_fits (is_in z (area side)) (how_many_fits z) (with_fix_fits side z)

-- so a sum over n zones is at most four for each
pub total_fits : (g : ℕ → ℕ) → ((z : ℕ) → g z ≤ 4) → (z n : ℕ) → total g (zones_from z n) ≤ 4 * n
total_fits g h z zero = omega arith
total_fits g h z (suc n) = let a = h z in let b = total_fits g h (suc z) n in omega arith
