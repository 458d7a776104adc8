-- What an accepted tick gives to each aircraft by itself (02, 2.4). Definitions only.
use Rattle.std.specs.Prelude.{◌≡◌, Bool, false, ◌&&◌, ℕ, ◌<◌, T, ltb, get_or}
use Rattle.field.specs.declared.Aircraft.{Aircraft}
use Rattle.field.specs.declared.Field.{Field}
use Rattle.field.specs.Airspace.{is_flying_zone, nobody, zone_of}
use Rattle.tick.specs.Tick.{ticked_aircraft}

-- what stands in a place of zone z, counted from 0
abbrev pub at_place : Field → ℕ → ℕ → Aircraft
at_place f z place = get_or (zone_of f z).aircraft place nobody

-- whether the place is within the length of a zone that is flown in
abbrev pub is_flying : Field → ℕ → ℕ → Bool
is_flying f z place = is_flying_zone z && ltb place (zone_of f z).length

-- from f to g each who flies is given its own advance, and nothing else changes (02, 2.4)
pub record OwnAdvance (f : Field) (amount : ℕ) (g : Field) : Type 0 where
  -- who flies: the advance of that aircraft, on its own leg (02, 2.7), by the amount; whatever the others are
  pub flying : (z place : ℕ) → T (is_flying_zone z) → place < (zone_of f z).length → at_place g z place ≡ ticked_aircraft amount (at_place f z place)
  -- every other place
  pub others : (z place : ℕ) → is_flying f z place ≡ false → at_place g z place ≡ at_place f z place
  pub lengths : (z : ℕ) → (zone_of g z).length ≡ (zone_of f z).length
  -- all else
  pub sequence : g.sequence ≡ f.sequence
  pub next : g.next ≡ f.next
  pub legs : g.legs ≡ f.legs
