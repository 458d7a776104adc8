-- The loops over the chunks of a list: which are placed, and the field that they build. Assumes nothing.
use mathlib.Core.Path.{◌≡◌, sym, ap, ◌∙◌}
use mathlib.Core.Bool.{true, false, ◌&&◌}
use mathlib.Core.List.{List, map}
use Prim.Native.Nat.{ℕ, suc, ◌+◌, ◌≤◌, ◌<◌}
use native.Mathlib.Numerals.{add-one}
use lib.ListN.{length, get_or, drop, drop_of_length-le}
use Rattle.field.specs.declared.Field.{Field}
use Rattle.field.proofs.Arrays.{next_of}
use Rattle.field.proofs.TestParts.{and_then, and_cut}
use Rattle.dialect.specs.declared.ListEntry.{ListEntry}
use Rattle.dialect_field.specs.Coming.{entry_in, is_placed, placed_from, with_entry, built_on}

-- ---- placed

-- before the i-th chunk: the rest decides
abbrev pub Placed : List (List ℕ) → ℕ → Type 0
Placed cs i = placed_from 1 (map entry_in cs) ≡ placed_from (i + 1) (map entry_in (drop i cs))

module _ (cs : List (List ℕ)) (i : ℕ) (h : i < length cs) (p : Placed cs i) (d : List ℕ) {e : ListEntry} (same : e ≡ entry_in (get_or cs i d)) where
  here : placed_from 1 (map entry_in cs) ≡ (is_placed e (i + 1) && placed_from (suc (i + 1)) (map entry_in (drop (i + 1) cs)))
  here =
      p ∙ ap (λ (r : List (List ℕ)). placed_from (i + 1) (map entry_in r)) (next_of cs i d h)
      ∙ ap (λ (x : ListEntry). is_placed x (i + 1) && placed_from (suc (i + 1)) (map entry_in (drop (i + 1) cs))) (sym same)

  pub placed_more : is_placed e (i + 1) ≡ true → Placed cs (i + 1)
  placed_more t = here ∙ and_then t (ap (λ (k : ℕ). placed_from k (map entry_in (drop (i + 1) cs))) (sym (add-one (i + 1))))

  pub placed_stop : is_placed e (i + 1) ≡ false → placed_from 1 (map entry_in cs) ≡ false
  placed_stop t = here ∙ and_cut _ t

pub placed_all : (cs : List (List ℕ)) (i : ℕ) → length cs ≤ i → Placed cs i → placed_from 1 (map entry_in cs) ≡ true
placed_all cs i h p = p ∙ ap (λ (r : List (List ℕ)). placed_from (i + 1) (map entry_in r)) (drop_of_length-le cs {i = i} h)

-- ---- built

-- before the i-th chunk: the rest, on the field that is built so far, builds the whole
abbrev pub Building : Field → ℕ → List (List ℕ) → Field → ℕ → Type 0
Building f₀ speed cs f i = built_on f₀ speed (map entry_in cs) ≡ built_on f speed (map entry_in (drop i cs))

pub building_more : (f₀ : Field) (speed : ℕ) (cs : List (List ℕ)) (f : Field) (i : ℕ) → i < length cs → Building f₀ speed cs f i → (d : List ℕ) {e : ListEntry} {g : Field} → e ≡ entry_in (get_or cs i d)
    → g ≡ with_entry f speed e → Building f₀ speed cs g (i + 1)
building_more f₀ speed cs f i h p d same made =
    p ∙ ap (λ (r : List (List ℕ)). built_on f speed (map entry_in r)) (next_of cs i d h)
    ∙ ap (λ (g : Field). built_on g speed (map entry_in (drop (i + 1) cs))) (ap (with_entry f speed) (sym same) ∙ sym made)

pub building_all : (f₀ : Field) (speed : ℕ) (cs : List (List ℕ)) (f : Field) (i : ℕ) → length cs ≤ i → Building f₀ speed cs f i → f ≡ built_on f₀ speed (map entry_in cs)
building_all f₀ speed cs f i h p = sym (p ∙ ap (λ (r : List (List ℕ)). built_on f speed (map entry_in r)) (drop_of_length-le cs {i = i} h))
