-- What a field loses as a classroom list and back (02, 2.12): these parts are set to what a field built from a list has, and all else stays.
-- Kept fields (02, 2.13) stand beside a field and are in no list, so they are lost too: a field built from a list has none kept.
-- Definitions only.
use Rattle.std.specs.Prelude.{cond, ◌++◌, map, ℕ, eqb, drop}
use Rattle.leg.specs.Progress.{whole}
use Rattle.field.specs.declared.Aircraft.{Aircraft}
use Rattle.field.specs.declared.Zone.{Zone}
use Rattle.field.specs.declared.Legs.{Legs}
use Rattle.field.specs.declared.Field.{Field}
use Rattle.field.specs.Airspace.{right, queue_of, order_length}
use Rattle.finder.specs.declared.Indexed.{Indexed}

-- one present: it gets the caller's speed, no miles waited, desk 1, and plus 0 for its own leg, which compares equal to 0 while it waits (02, 2.7)
unfoldable pub settled : ℕ → Aircraft → Aircraft
settled speed a = record { number = a.number; fix = a.fix; speed = speed; progress = a.progress; waited = whole 0; leg = whole 0; desk = 1 }

-- a place past a length: its floats are plus 0
unfoldable pub plain_zeros : Aircraft → Aircraft
plain_zeros a = record { number = a.number; fix = a.fix; speed = a.speed; progress = a.progress; waited = whole 0; leg = whole 0; desk = a.desk }

-- a zone: those in it, and the places past its length
unfoldable pub settled_zone : ℕ → Zone → Zone
settled_zone speed q = record { aircraft = map (settled speed) (queue_of q) ++ map plain_zeros (drop q.length q.aircraft); length = q.length }

-- the field: its zones, the caller's legs, and right as the next fix where the sequence is empty
unfoldable pub settled_field : Legs → ℕ → Field → Field
settled_field legs speed f =
    record {
      zones = map (settled_zone speed) f.zones;
      sequence = f.sequence;
      next = cond (eqb (order_length f.sequence) 0) right f.next;
      legs = legs;
    }

-- the field with its index, which stays (02, 2.9)
unfoldable pub settled_indexed : Legs → ℕ → Indexed → Indexed
settled_indexed legs speed x = record { field = settled_field legs speed x.field; index = x.index }
