-- `questions::find::place_of` meets its contract. The loops' invariants: what is sought was in no zone and at no place that was passed.
use mathlib.Core.Path.{◌≡◌}
use mathlib.Core.List.{List}
use Prim.Native.Nat.{ℕ, ◌+◌, ◌-◌, ◌≤◌, ◌<◌}
use lib.ListN.{drop}
use Rattle.field.specs.declared.Aircraft.{Aircraft}
use Rattle.field.specs.declared.Field.{Field}
use Rattle.questions.specs.declared.Place.{Place}
use Rattle.field.specs.Airspace.{zones_from, in_zone}
use Rattle.questions.specs.Find.{nowhere, place_from, find_in, place_of}
use Rattle.questions.proofs.find.place_of.Given as goal

-- Assumes nothing.
-- nobody was found in the first i zones: what is sought is found in those behind them
pub record Passed (f : Field) (number : ℕ) (found : Place) (i : ℕ) : Type 0 where
  pub high : i ≤ 13
  pub none : found ≡ nowhere
  pub rest : place_of f number ≡ find_in f number (zones_from (i + 1) (13 - i))

-- nor at the first k places of the next zone, whose queue is xs
pub record Looking (f : Field) (number : ℕ) (found : Place) (i : ℕ) (xs : List Aircraft) (k : ℕ) : Type 0 where
  pub passed : Passed f number found i
  pub zone : i < 13
  pub this : xs ≡ in_zone f (i + 1)
  pub rest : place_from 1 number xs ≡ place_from (k + 1) number (drop k xs)

abbrev pub invariant-loop-k : goal.invariant-loop-k
invariant-loop-k l = Looking l.fn.f l.number l.found l.i l.a-items l.k

abbrev pub invariant-zones : goal.invariant-zones
invariant-zones l = Passed l.fn.f l.number l.found l.i
