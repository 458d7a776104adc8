-- Document 01, "The bounds", a to f, each a test of any field, with what document 02 adds to e, and all seven; `fits` has g.
use Rattle.std.specs.Prelude.{Bool, true, ◌&&◌, ◌||◌, List, [], ◌∷◌, ◌++◌, map, ℕ, eqb, leb, length, drop}
use Rattle.std.specs.Float.Ieee.{eq}
use Rattle.leg.specs.Progress.{whole}
use Rattle.field.specs.declared.Aircraft.{Aircraft}
use Rattle.field.specs.declared.Zone.{Zone}
use Rattle.field.specs.declared.Sequence.{Sequence}
use Rattle.field.specs.declared.Field.{Field}
use Rattle.field.specs.Airspace.{right, left, opposite, at3000, at2000, lateral, missed, final_approach_zone, runway, zones_from, everywhere, zone_of, order_of}
use Rattle.field.specs.Lists.{every}
use Rattle.questions.specs.Counts.{how_many, is_empty, in_operation, in_area, per_fix}
use Rattle.questions.specs.Find.{aircraft_at, fix_of, is_first}
use Rattle.numbers.specs.Numbers.{numbers_differ, sequence_exact}
use Rattle.fits.specs.Fits.{is_waiting, bound_g}

-- ---- a. no more than four are in zones 1 to 12, and no more than one is on the runway
unfoldable pub bound_a : Field → Bool
bound_a f = leb (in_operation f) 4 && leb (how_many f runway) 1

-- ---- b. no more than two are in the area of either side
unfoldable pub bound_b : Field → Bool
bound_b f = leb (in_area f right) 2 && leb (in_area f left) 2

-- ---- c

-- where somebody is in a side's lateral zone, the rest of its area is empty
unfoldable pub lateral_rule : Field → ℕ → Bool
lateral_rule f side = is_empty f (lateral side) || (is_empty f (at3000 side) && is_empty f (at2000 side) && is_empty f (missed side))

-- no holding and no lateral zone has more than one, and both sides keep that rule
unfoldable pub bound_c : Field → Bool
bound_c f = every (λ z. leb (how_many f z) 1) (zones_from 1 6) && lateral_rule f right && lateral_rule f left

-- ---- d. no more than two in zones 1 to 12 have the same fix
unfoldable pub bound_d : Field → Bool
bound_d f = leb (per_fix f right) 2 && leb (per_fix f left) 2

-- ---- e. `numbers` has the tests of the numbers

-- whoever is at the head of final is first in the landing sequence
unfoldable pub final_first : Field → Bool
final_first f = is_empty f final_approach_zone || is_first f.sequence (aircraft_at f final_approach_zone 1).number

-- nobody, as a place past a length has it: waiting, and every number is 0, the desk (02, 2.10) too. Of the miles waited and the own leg (02, 2.7) it is enough
-- that they compare equal to 0, as -0 does (02, 2.2)
unfoldable pub is_nobody : Aircraft → Bool
is_nobody a = eqb a.number 0 && eqb a.fix 0 && eqb a.speed 0 && eqb a.desk 0 && eq a.waited (whole 0) && eq a.leg (whole 0) && is_waiting a.progress

-- a zone is no longer than its four places, and past its length there is nobody
unfoldable pub zone_kept : Zone → Bool
zone_kept q = leb q.length 4 && every is_nobody (drop q.length q.aircraft)

-- so is the sequence, with no number past its length
unfoldable pub sequence_kept : Sequence → Bool
sequence_kept s = leb s.length 4 && every (λ n. eqb n 0) (drop s.length s.numbers)

-- e: the numbers, the sequence, the head of final, and the places of every zone and of the sequence
unfoldable pub bound_e : Field → Bool
bound_e f =
    numbers_differ f && sequence_exact f && final_first f && every (λ z. zone_kept (zone_of f z)) everywhere && sequence_kept f.sequence

-- ---- f

-- each fix of a list is the opposite of the one before it
abbrev pub alternate : List ℕ → Bool
alternate [] = true
alternate (s ∷ []) = true
alternate (s ∷ t ∷ ts) = eqb t (opposite s) && alternate (t ∷ ts)

-- f: so are the fixes in sequence order, with the next fix behind them; of an empty sequence it says nothing
unfoldable pub bound_f : Field → Bool
bound_f f = alternate (map (fix_of f) (order_of f.sequence) ++ (f.next ∷ []))

-- ---- all seven bounds; `fits` has g
unfoldable pub within_bounds : Field → Bool
within_bounds f = bound_a f && bound_b f && bound_c f && bound_d f && bound_e f && bound_f f && bound_g f
