-- A list that is accepted: what is known of it, and of the field that it builds. Assumes nothing.
use mathlib.Core.Path.{◌≡◌, sym, ap, ◌∙◌}
use mathlib.Core.Logic.{◌⊎◌, inl, inr}
use mathlib.Core.Bool.{true, false, cond, ◌&&◌}
use mathlib.Core.List.{List, [], ◌∷◌}
use Prim.Native.Nat.{ℕ, ◌%◌}
use lib.Dec.{T, eqb, leb}
use lib.ListN.{length}
use lib.Ieee.Fits.{and_r}
use borrow.Author.Tests.{eqb-true}
use Rattle.limits.specs.Limits.{fastest}
use Rattle.request.specs.Input.{within}
use Rattle.practice.specs.declared.FileLegs.{FileLegs}
use Rattle.practice.specs.File.{legs_allowed}
use Rattle.field.proofs.TestLaws.{decided, pass, if_true, if_false}
use Rattle.bounds.specs.Bounds.{within_bounds}
use Rattle.finder.specs.Finder.{within_bounds_indexed}
use Rattle.indexed.specs.Indexed.{with_index}
use Rattle.indexed.proofs.Own.{within_own}
use Rattle.playing.specs.Playing.{legs_in_miles}
use Rattle.request.proofs.InputTests.{passed}
use Rattle.dialect_field.specs.declared.Built.{Built}
use Rattle.dialect_field.specs.Coming.{entries_in, placed_from, list_allowed, built, coming_number, not_built, field_of_list}
use Rattle.dialect_field.proofs.FirstFailing.{on_list}

-- what is known where the list's number is 0
pub record AcceptedList (legs : FileLegs) (speed : ℕ) (bytes : List ℕ) : Type 0 where
  pub placed : T (placed_from 1 (entries_in bytes))
  pub bounds : T (within_bounds (built (legs_in_miles legs) speed (entries_in bytes)))
  pub after : (field_of_list legs speed bytes).after ≡ with_index (built (legs_in_miles legs) speed (entries_in bytes))

module _ (legs : FileLegs) (speed : ℕ) (bytes : List ℕ) where
  -- the answer's number is the list's
  pub number_is : (field_of_list legs speed bytes).number ≡ coming_number legs speed bytes
  unfolding field_of_list not_built
  number_is = go (decided (eqb (coming_number legs speed bytes) 0))
    where
      go : (eqb (coming_number legs speed bytes) 0 ≡ true) ⊎ (eqb (coming_number legs speed bytes) 0 ≡ false) → (field_of_list legs speed bytes).number ≡ coming_number legs speed bytes
      go (inl e) = ap (λ (b : Built). b.number) (if_true _ _ e) ∙ sym (eqb-true (coming_number legs speed bytes) 0 e)
      go (inr e) = ap (λ (b : Built). b.number) (if_false _ _ e)

  pub accepted : (field_of_list legs speed bytes).number ≡ 0 → AcceptedList legs speed bytes
  unfolding field_of_list coming_number list_allowed
  accepted e =
      let n = sym number_is ∙ e in
      let tests = passed
      ((7, legs_allowed legs) ∷ (4, within 1 fastest speed) ∷ (29, list_allowed bytes) ∷ (25, within_bounds_indexed (on_list legs speed bytes)) ∷ []) (tt, (tt, (tt, (tt, tt)))) n in
      let es = entries_in bytes in
      record {
        placed = and_r (eqb (length bytes % 8) 0 && leb (length es) 5) (placed_from 1 es) (pass tests.1.1.0);
        bounds = pass (sym (within_own (built (legs_in_miles legs) speed es)) ∙ tests.1.1.1.0);
        after = ap (λ (b : Built). b.after) (ap (λ (k : ℕ). cond (eqb k 0) (record { number = 0; after = on_list legs speed bytes }) (not_built k)) n);
      }
