-- Document 01, "Any list of requests": the fields that a list of requests may start from. Definitions only.
use Rattle.std.specs.Prelude.{Bool, ◌&&◌, T, eqb, length, replicate}
use Rattle.std.specs.Float.Ieee.{neg}
use Rattle.leg.specs.Progress.{whole}
use Rattle.leg.specs.declared.Progress.TheVariants.{Waiting}
use Rattle.field.specs.declared.Aircraft.{Aircraft}
use Rattle.field.specs.declared.Legs.{Legs}
use Rattle.field.specs.declared.Zone.{Zone}
use Rattle.field.specs.declared.Sequence.{Sequence}
use Rattle.field.specs.declared.Field.{Field}
use Rattle.field.specs.Airspace.{right, empty_field}
use Rattle.field.specs.Lists.{every}
use Rattle.bounds.specs.Bounds.{is_nobody}
use Rattle.fits.specs.Fits.{legal_legs}

-- a zone at length 0, with four places, all zero and waiting. As bound e does, it takes for a zero what compares equal to 0, so that the miles waited and the own
-- leg of a place may be -0 (02, 2.2)
abbrev pub zone_at_start : Zone → Bool
zone_at_start q = eqb q.length 0 && eqb (length q.aircraft) 4 && every is_nobody q.aircraft

-- the sequence at length 0, with four places, all zero
abbrev pub sequence_at_start : Sequence → Bool
sequence_at_start s = eqb s.length 0 && eqb (length s.numbers) 4 && every (λ n. eqb n 0) s.numbers

-- an empty field to start from: the thirteen zones and the sequence so, the next fix right, and four legs that bound g allows
unfoldable pub empty_start : Field → Bool
empty_start f = eqb (length f.zones) 13 && every zone_at_start f.zones && sequence_at_start f.sequence && eqb f.next right && legal_legs f.legs

-- ---- fields that pass

-- the empty field, as the program makes it
abbrev pub EmptyStarts : Type 0
EmptyStarts = (legs : Legs) → T (legal_legs legs) → T (empty_start (empty_field legs))

-- a place with -0 for its miles waited and its own leg
abbrev pub minus_nobody : Aircraft
minus_nobody = record { number = 0; fix = 0; speed = 0; progress = Waiting; waited = neg (whole 0); leg = neg (whole 0); desk = 0 }

-- the empty field with such places, which a host can lend
abbrev pub minus_zeros : Legs → Field
minus_zeros legs =
    record {
      zones = replicate 13 (record { aircraft = replicate 4 minus_nobody; length = 0 });
      sequence = record { numbers = replicate 4 0; length = 0 };
      next = right;
      legs = legs;
    }

-- that field
abbrev pub MinusZerosStart : Type 0
MinusZerosStart = (legs : Legs) → T (legal_legs legs) → T (empty_start (minus_zeros legs))
