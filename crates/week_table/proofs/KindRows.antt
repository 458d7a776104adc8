-- The rows of the table, and one request by its kind. Assumes nothing.
use mathlib.Core.Path.{◌≡◌, refl}
use mathlib.Core.Bool.{Bool, true, false, cond, ◌&&◌}
use Prim.Native.Nat.{ℕ, ◌-◌, ◌≤◌}
use native.Mathlib.Omega.{arith}
use lib.Dec.{eqb}
use Rattle.request.specs.Input.{within}
use Rattle.request.proofs.InputTests.{within_high}
use Rattle.playing.specs.Log.{of_kinds}
use Rattle.week_table.specs.Table.{row_place}

-- 1 or 0 is no more than 1
pub one_low : (b : Bool) → cond b 1 0 ≤ 1
one_low true = omega arith
one_low false = omega arith

-- nor is one request by its kind
pub of_few : (kinds : ℕ → Bool) (kind number : ℕ) → of_kinds kinds kind number ≤ 1
of_few kinds kind number = one_low (eqb number 0 && kinds kind)

-- there are thirteen rows
pub row_low : (kind : ℕ) → row_place kind ≤ 12
row_low kind = go (within 1 12 kind) refl
  where
    go : (b : Bool) → within 1 12 kind ≡ b → cond b (kind - 1) 12 ≤ 12
    go true e = let h = within_high 1 12 kind e in omega arith
    go false e = omega arith
