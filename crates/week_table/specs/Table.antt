-- The table of a binder's report (document 02, 2.1): where the count of a kind and a number stands in it.
use Rattle.std.specs.Prelude.{ℕ, ◌+◌, ◌-◌, ◌*◌, cond, ltb}
use Rattle.request.specs.Input.{within}

-- the row of a kind, counted from 0: that of kinds 1 to 12, and the last for all others
abbrev pub row_place : ℕ → ℕ
row_place kind = cond (within 1 12 kind) (kind - 1) 12

-- the column of a number, counted from 0
abbrev pub column_place : ℕ → ℕ
column_place number = cond (ltb number 10) number (number - 5)

-- where the count of a kind and a number stands in the table, row by row
unfoldable pub cell_of : ℕ → ℕ → ℕ
cell_of kind number = 21 * row_place kind + column_place number
