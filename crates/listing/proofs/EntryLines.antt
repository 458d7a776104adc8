-- The lines of a list, one entry after the other. Assumes nothing.
use mathlib.Core.Path.{◌≡◌, sym, ap, ◌∙◌}
use mathlib.Core.Bool.{Bool, cond}
use mathlib.Core.List.{List, [], ◌++◌}
use Prim.Native.Nat.{ℕ, ◌+◌, ◌≤◌, ◌<◌, min}
use native.Mathlib.Numerals.{add-one}
use borrow.Author.Tests.{eq-eqb, ne_eqb}
use lib.ListN.{length, get_or, take, drop, drop_of_length-le}
use lib.Seq.{drop-cons}
use Rattle.std.proofs.lemmas.List.{take_min}
use Rattle.field.proofs.TestLaws.{if_true, if_false}
use Rattle.dialect.specs.declared.ListEntry.{ListEntry}
use Rattle.dialect.specs.declared.Listing.{Listing}
use Rattle.dialect_field.specs.declared.Built.{Built}
use Rattle.dialect.specs.Going.{list_of}
use Rattle.listing.specs.Report.{entry_line, entry_lines, refusal, list_report, next_line, built_report}

-- those of an answer
abbrev pub those : Listing → List ListEntry
those l = take l.count l.entries

-- ---- the report of an answer, by its number
pub report_refused : (l : Listing) → (l.number ≡ 0 → ⊥) → list_report l ≡ refusal l.number
unfolding list_report
report_refused l h = ap (λ (t : Bool). cond t (entry_lines (those l)) (refusal l.number)) (ne_eqb l.number 0 h)

pub report_listed : (l : Listing) → l.number ≡ 0 → list_report l ≡ entry_lines (those l)
unfolding list_report
report_listed l h = ap (λ (t : Bool). cond t (entry_lines (those l)) (refusal l.number)) (eq-eqb l.number 0 h)

-- ---- the entries that are read, of five places: those of the answer
pub entries_read : (l : Listing) (n : ℕ) → n ≡ min l.count 5 → length l.entries ≡ 5 → take n l.entries ≡ those l
entries_read l n e p = ap (λ (m : ℕ). take m l.entries) (e ∙ ap (min l.count) (sym p)) ∙ take_min l.count l.entries

-- the line of the i-th, and those behind it
pub entry_here : (es : List ListEntry) (i : ℕ) (d : ListEntry) → i < length es → entry_lines (drop i es) ≡ entry_line (get_or es i d) ++ entry_lines (drop (i + 1) es)
entry_here es i d h = rw (add-one) (ap entry_lines (drop-cons es i d h))

pub no_entry : (es : List ListEntry) (i : ℕ) → length es ≤ i → entry_lines (drop i es) ≡ []
no_entry es i h = ap entry_lines (drop_of_length-le es h)

-- ---- the report of a field that a list built, by its number
pub built_refused : (b : Built) → (b.number ≡ 0 → ⊥) → built_report b ≡ refusal b.number
unfolding built_report
built_refused b h = if_false _ _ (ne_eqb b.number 0 h)

pub built_listed : (b : Built) → b.number ≡ 0 → built_report b ≡ next_line b.after.field.next ++ list_report (list_of b.after)
unfolding built_report
built_listed b h = if_true _ _ (eq-eqb b.number 0 h)
