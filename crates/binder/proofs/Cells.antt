-- The table's places: the columns, and that a place of a row and a column is one of the table's. Assumes nothing.
use mathlib.Core.Path.{◌≡◌, refl, ap}
use mathlib.Core.Bool.{Bool, true, false, cond}
use mathlib.Core.List.{List, [], ◌∷◌}
use Prim.Native.Nat.{ℕ, ◌+◌, ◌≤◌, ◌<◌}
use native.Mathlib.Omega.{arith}
use lib.Dec.{T, leb, eqb, leb→le}
use lib.Ieee.Fits.{and_l, and_r}
use borrow.Author.Tests.{eqb-true}
use Rattle.field.specs.Lists.{every}
use Rattle.field.proofs.TestLaws.{every_from}
use Rattle.week_table.specs.Table.{column_place, cell_of}
use Rattle.week_table.proofs.KindRows.{row_low}
use Rattle.binder.specs.Counting.{columns, listed}
use Rattle.binder.specs.Counts.{is_column}

-- a listed number is no higher than the highest
pub listed_low : (ns : List ℕ) (most m : ℕ) → T (every (λ n. leb n most) ns) → listed ns m ≡ 1 → m ≤ most
listed_low [] most m t e = absurd (omega arith)
listed_low (n ∷ ns) most m t e = go (eqb m n) refl (listed_low ns most m (and_r (leb n most) (every (λ k. leb k most) ns) t))
  where
    go : (b : Bool) → eqb m n ≡ b → (listed ns m ≡ 1 → m ≤ most) → m ≤ most
    go true h rest = let g = eqb-true m n h in let l = leb→le n most (and_l (leb n most) (every (λ k. leb k most) ns) t) in omega arith
    go false h rest = let g = ap (λ (b : Bool). cond b 1 0 + listed ns m) h in rest (omega arith)

-- there are twenty-one columns
pub column_low : (number : ℕ) → listed columns number ≡ 1 → column_place number ≤ 20
unfolding columns
column_low number e =
    let h = listed_low columns 25 number tt e in
    leb→le (column_place number) 20 (every_from (λ n. leb (column_place n) 20) 0 26 tt number (omega arith) (omega arith))

pub cell_low : (kind number : ℕ) → is_column number ≡ true → cell_of kind number < 273
unfolding cell_of is_column
cell_low kind number e = let r = row_low kind in let c = column_low number (eqb-true (listed columns number) 1 e) in omega arith
