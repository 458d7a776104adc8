-- Kind 12, the tick (01, "The requests"; 02, 2.2 and 2.7): what an accepted tick does to an aircraft, to a zone and to the field.
use Rattle.std.specs.Prelude.{cond, List, [], ◌∷◌, map, ℕ, suc}
use Rattle.leg.specs.Progress.{progress_after, waited_with}
use Rattle.field.specs.declared.Aircraft.{Aircraft}
use Rattle.field.specs.declared.Zone.{Zone}
use Rattle.field.specs.declared.Field.{Field}
use Rattle.field.specs.Airspace.{is_flying_zone}

-- an aircraft after a tick: its miles, up to its own leg (02, 2.7), and the miles waited with those past the end added (02, 2.2)
unfoldable pub ticked_aircraft : ℕ → Aircraft → Aircraft
ticked_aircraft amount a =
    record {
      number = a.number;
      fix = a.fix;
      speed = a.speed;
      progress = progress_after a.progress a.speed amount a.leg;
      waited = waited_with a.progress a.waited a.speed amount a.leg;
      leg = a.leg;
      desk = a.desk;
    }

-- a zone that is flown in after a tick
unfoldable pub ticked_zone : ℕ → Zone → Zone
ticked_zone amount q = record { aircraft = map (ticked_aircraft amount) q.aircraft; length = q.length }

-- the zones after a tick, the first of them zone z: those that are flown in, and the others as they were
abbrev pub ticked_from : ℕ → ℕ → List Zone → List Zone
ticked_from amount z [] = []
ticked_from amount z (q ∷ qs) = cond (is_flying_zone z) (ticked_zone amount q) q ∷ ticked_from amount (suc z) qs

-- the field after a tick of the amount
unfoldable pub ticked : Field → ℕ → Field
ticked f amount =
    record { zones = ticked_from amount 1 f.zones; sequence = f.sequence; next = f.next; legs = f.legs }
