-- `decoding::read_indexed` meets its contract: the field, and five entries. Assumes nothing.
use mathlib.Core.Path.{◌≡◌, ap, ◌∙◌}
use mathlib.Core.List.{List, [], ◌∷◌}
use Prim.Native.Nat.{ℕ, ◌+◌}
use native.Mathlib.Omega.{arith}
use Rattle.field.specs.declared.Field.{Field}
use Rattle.finder.specs.declared.Entry.{Entry}
use Rattle.finder.specs.declared.Indexed.{Indexed}
use Rattle.layout.specs.Read.{read_field, read_entry, read_indexed}
use Rattle.decoding.proofs.read_indexed.Goals as goal

made : (bytes : List ℕ) (at : ℕ) {f : Field} {x y z w v : Entry} → f ≡ read_field bytes at
    → x ≡ read_entry bytes (at + 1713) → y ≡ read_entry bytes (at + 1717) → z ≡ read_entry bytes (at + 1721) → w ≡ read_entry bytes (at + 1725) → v ≡ read_entry bytes (at + 1729)
    → ◌≡◌ {A = Indexed} (record { field = f; index = record { entries = x ∷ y ∷ z ∷ w ∷ v ∷ [] } }) (read_indexed bytes at)
unfolding read_indexed
made bytes at f x y z w v =
    let second : at + 1717 ≡ at + 1713 + 4 = omega arith in
    let third : at + 1721 ≡ at + 1713 + 4 + 4 = omega arith in
    let fourth : at + 1725 ≡ at + 1713 + 4 + 4 + 4 = omega arith in
    let fifth : at + 1729 ≡ at + 1713 + 4 + 4 + 4 + 4 = omega arith in
    let e = read_entry bytes in
    λ t. record { field = f t; index = record { entries = x t ∷ (y ∙ ap e second) t ∷ (z ∙ ap e third) t ∷ (w ∙ ap e fourth) t ∷ (v ∙ ap e fifth) t ∷ [] } }

pub returns : goal.returns
returns c =
    let a = c.args in
    made a.bytes.now a.at c.read_field-field.ensures c.read_entry-first.ensures c.read_entry-second.ensures c.read_entry-third.ensures c.read_entry-fourth.ensures c.read_entry-fifth.ensures
