-- The derived equality of indexes is that of the definition, entry by entry. Assumes nothing.
use Rattle.std.proofs.Common.{◌≡◌, ◌&&◌, List, [], ◌∷◌, refl, sym, eqb}
use Rattle.std.proofs.Math.Bool.{and_assoc}
use lib.Pointwise.{pointwise}
use Rattle.finder.specs.declared.Entry.{Entry}
use Rattle.finder.specs.declared.Index.{Index}
use Rattle.finder.specs.contracts.EntryPartialEq.TheImpl as entry
use Rattle.finder.specs.contracts.IndexPartialEq.TheImpl as index
use Rattle.finder.specs.Finder.{same_entry, are_the_same_entries, same_index}

pub entry_equality : (a b : Entry) → entry.eq-value.it a b ≡ same_entry a b
unfolding same_entry
entry_equality a b = sym (and_assoc (eqb a.number b.number) (eqb a.zone b.zone) (eqb a.place b.place))

pub entries_equality : (xs ys : List Entry) → pointwise entry.eq-value.it xs ys ≡ are_the_same_entries xs ys
entries_equality [] [] = refl
entries_equality [] (b ∷ ys) = refl
entries_equality (a ∷ xs) [] = refl
entries_equality (a ∷ xs) (b ∷ ys) = λ i. entry_equality a b i && entries_equality xs ys i

pub index_equality : (a b : Index) → index.eq-value.it a b ≡ same_index a b
unfolding same_index
index_equality a b = entries_equality a.entries b.entries
