-- The field of a list that is allowed: refused by 25, or accepted. Assumes nothing.
use mathlib.Core.Path.{◌≡◌, sym, ap, ◌∙◌}
use mathlib.Core.Bool.{true, false, cond}
use mathlib.Core.List.{List}
use Prim.Native.Nat.{ℕ}
use lib.Dec.{eqb}
use Rattle.limits.specs.Limits.{fastest}
use Rattle.request.specs.Input.{within}
use Rattle.practice.specs.declared.FileLegs.{FileLegs}
use Rattle.practice.specs.File.{legs_allowed}
use Rattle.field.proofs.TestLaws.{if_true, if_false}
use Rattle.finder.specs.declared.Indexed.{Indexed}
use Rattle.finder.specs.Finder.{within_bounds_indexed}
use Rattle.indexed.specs.Indexed.{with_index}
use Rattle.playing.specs.Playing.{legs_in_miles}
use Rattle.dialect_field.specs.declared.Built.{Built}
use Rattle.dialect_field.specs.Coming.{entries_in, list_allowed, built, coming_number, not_built, field_of_list}

module _ (legs : FileLegs) (speed : ℕ) (bytes : List ℕ) where
  -- the field of all its entries
  abbrev pub on_list : Indexed
  on_list = with_index (built (legs_in_miles legs) speed (entries_in bytes))

  by_number : {n : ℕ} → coming_number legs speed bytes ≡ n → field_of_list legs speed bytes ≡ cond (eqb n 0) (record { number = 0; after = on_list }) (not_built n)
  unfolding field_of_list
  by_number e = ap (λ (n : ℕ). cond (eqb n 0) (record { number = 0; after = on_list }) (not_built n)) e

  module _ (l : legs_allowed legs ≡ true) (s : within 1 fastest speed ≡ true) (a : list_allowed bytes ≡ true) {x : Indexed} (q : x ≡ on_list) where
    pub refused_25 : within_bounds_indexed x ≡ false → field_of_list legs speed bytes ≡ not_built 25
    unfolding coming_number
    refused_25 e = by_number (if_true _ _ l ∙ if_true _ _ s ∙ if_true _ _ a ∙ if_false _ _ (ap within_bounds_indexed (sym q) ∙ e))

    pub accepted : within_bounds_indexed x ≡ true → field_of_list legs speed bytes ≡ record { number = 0; after = x }
    unfolding coming_number
    accepted e =
        by_number (if_true _ _ l ∙ if_true _ _ s ∙ if_true _ _ a ∙ if_true _ _ (ap within_bounds_indexed (sym q) ∙ e))
        ∙ ap {B = Built} (λ (y : Indexed). record { number = 0; after = y }) (sym q)
