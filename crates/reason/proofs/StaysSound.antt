-- One request on a field that an orderly line stands for: the field after it has its places, the bounds and the reason, and neither 10 nor
-- 25 is answered. Assumes nothing.
use mathlib.Core.Path.{◌≡◌, sym, subst}
use mathlib.Core.Bool.{true, not, ◌&&◌}
use mathlib.Core.List.{List, [], ◌∷◌, ◌++◌}
use Prim.Native.Nat.{◌-◌, ◌≤◌}
use native.Mathlib.Nat.{le_trans}
use native.Mathlib.Omega.{arith}
use lib.Dec.{T, eqb}
use lib.ListN.{length, replicate, length-append, length-replicate}
use lib.Ieee.Fits.{and_i, and_l}
use borrow.Author.Tests.{eq-eqb}
use Rattle.request.specs.declared.Request.{Request}
use Rattle.field.specs.declared.Aircraft.{Aircraft}
use Rattle.field.specs.declared.Zone.{Zone}
use Rattle.field.specs.declared.Legs.{Legs}
use Rattle.field.specs.declared.Field.{Field}
use Rattle.field.specs.Airspace.{everywhere, nobody, zone_of}
use Rattle.field.specs.Lists.{every}
use Rattle.order.specs.Model.{Side}
use Rattle.order.proofs.Facts.{okay_length}
use Rattle.rules.specs.Step.{step_of}
use Rattle.rules.specs.Reason.{has_places, Sound, KeptBy}
use Rattle.field.proofs.TestLaws.{pass}
use Rattle.line.proofs.Line.{zone_for, sequence_for, Placed, zones_in, numbers_of, inside, field_of}
use Rattle.line.proofs.CountedOnLine.{zone_of_line, zone_of_runway}
use Rattle.line.proofs.Located.{zone_split}
use Rattle.line.proofs.Orderly.{Orderly, every_zone, length_zones, length_numbers, inside_le}
use Rattle.line.proofs.LineWithin.{within_bounds_lem}
use Rattle.demand.proofs.Runs.{runs}
use Rattle.reason.proofs.AlongLine.{orderly_reason}

-- an array of four places, filled up with d
pub four_places : {A : Type 0} (xs : List A) (d : A) → length xs ≤ 4 → length (xs ++ replicate (4 - length xs) d) ≡ 4
four_places xs d h = let a = length-append xs (replicate (4 - length xs) d) in let b = length-replicate (4 - length xs) d in omega arith

module _ (f : Side) (line : List Placed) (runway : List Aircraft) (legs : Legs) (o : Orderly f line runway legs) where
  abbrev F : Field
  F = field_of f line runway legs

  four : length line ≤ 4
  four = let a = okay_length f (zones_in line) o.okay_line in let b = length_zones line in omega arith

  zones_places : T (every (λ z. eqb (length (zone_of F z).aircraft) 4) everywhere)
  zones_places =
      every_zone (λ z. eqb (length (zone_of F z).aircraft) 4) everywhere tt
      (zone_split {P = λ z. T (eqb (length (zone_of F z).aircraft) 4)}
      (subst (λ (q : Zone). T (eqb (length q.aircraft) 4)) (sym (zone_of_runway f line runway legs))
      (pass (eq-eqb (length (zone_for runway).aircraft) 4 (four_places runway nobody (let a = o.one_landed in omega arith)))))
      (λ z t. subst (λ (q : Zone). T (eqb (length q.aircraft) 4)) (sym (zone_of_line f line runway legs z t))
      (pass (eq-eqb (length (zone_for (inside z line)).aircraft) 4 (four_places (inside z line) nobody (le_trans (inside_le z line) four))))))

  numbers_places : length (sequence_for (numbers_of line)).numbers ≡ 4
  numbers_places = four_places (numbers_of line) 0 (let a = length_numbers line in let b = four in omega arith)

  places_kept : T (has_places F)
  unfolding has_places field_of
  places_kept =
      let z = eqb (length F.zones) 13 in
      let a = every (λ z. eqb (length (zone_of F z).aircraft) 4) everywhere in
      let n = eqb (length F.sequence.numbers) 4 in
      and_i (z && a) n (and_i z a tt zones_places) (pass (eq-eqb (length F.sequence.numbers) 4 numbers_places))

  pub orderly_sound : Sound F
  orderly_sound = record { places = places_kept; bounds = within_bounds_lem f line runway legs o; reason = orderly_reason f line runway legs o }

-- one request is a list of one
pub orderly_kept : (f : Side) (line : List Placed) (runway : List Aircraft) (legs : Legs) → Orderly f line runway legs → (r : Request) → KeptBy (field_of f line runway legs) r
orderly_kept f line runway legs o r =
    let g = field_of f line runway legs in
    let run = runs legs (r ∷ []) f line runway o in
    record {
      sound = subst Sound (sym run.stands) (orderly_sound run.first_then run.line_then run.runway_then legs run.orderly);
      not_10 = and_l (not (eqb (step_of g r).answer.number 10)) true run.no_10;
      not_25 = and_l (not (eqb (step_of g r).answer.number 25)) true run.no_25;
    }
