-- The lines of a report, one pair after the other, and how long they are. Assumes nothing.
use mathlib.Core.Path.{◌≡◌, refl, sym, ap, ◌∙◌}
use mathlib.Core.Bool.{Bool, true, false, cond}
use mathlib.Core.List.{List, [], ◌++◌}
use Prim.Native.Nat.{ℕ, ◌+◌, ◌≤◌, ◌<◌, min}
use native.Mathlib.Numerals.{add-one}
use native.Mathlib.Omega.{arith}
use lib.Dec.{ltb}
use borrow.Author.Tests.{eq-eqb, ne_eqb, ltb-true, ltb-false}
use lib.ListN.{length, get_or, take, drop, drop_of_length-le}
use lib.Seq.{drop-cons}
use Rattle.std.proofs.lemmas.List.{take_all}
use Rattle.gaps.specs.declared.Pair.{Pair}
use Rattle.gaps.specs.declared.Spacings.{Spacings}
use Rattle.spaced.specs.Spaced.{pair_line, pair_lines, refused_spacing, spacings_report}

-- the pairs of an answer
abbrev pub paired : Spacings → List Pair
paired s = take s.count s.pairs

-- ---- the report of an answer, by its number
pub report_refused : (s : Spacings) → (s.number ≡ 0 → ⊥) → spacings_report s ≡ refused_spacing s.number
unfolding spacings_report
report_refused s h = ap (λ (t : Bool). cond t (pair_lines (paired s)) (refused_spacing s.number)) (ne_eqb s.number 0 h)

pub report_listed : (s : Spacings) → s.number ≡ 0 → spacings_report s ≡ pair_lines (paired s)
unfolding spacings_report
report_listed s h = ap (λ (t : Bool). cond t (pair_lines (paired s)) (refused_spacing s.number)) (eq-eqb s.number 0 h)

-- ---- the pairs that are read, of three places: those of the answer
pub pairs_read : (s : Spacings) (n : ℕ) → n ≡ min s.count 3 → length s.pairs ≡ 3 → take n s.pairs ≡ paired s
pairs_read s n e l = go (ltb s.count 3) refl
  where
    go : (b : Bool) → ltb s.count 3 ≡ b → take n s.pairs ≡ paired s
    go true h =
        let k = ltb-true s.count 3 h in
        let same : n ≡ s.count = omega arith in
        ap (λ (m : ℕ). take m s.pairs) same
    go false h =
        let k = ltb-false s.count 3 h in
        take_all n s.pairs (omega arith) ∙ sym (take_all s.count s.pairs (omega arith))

-- the line of the i-th, and those behind it
pub pair_here : (ps : List Pair) (i : ℕ) (d : Pair) → i < length ps → pair_lines (drop i ps) ≡ pair_line (get_or ps i d) ++ pair_lines (drop (i + 1) ps)
pair_here ps i d h = rw (add-one) (ap pair_lines (drop-cons ps i d h))

pub no_pair : (ps : List Pair) (i : ℕ) → length ps ≤ i → pair_lines (drop i ps) ≡ []
no_pair ps i h = ap pair_lines (drop_of_length-le ps h)
