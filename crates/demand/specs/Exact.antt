-- Exactness, of demand 2 (01, "The requests"): with legs in whole 64ths of a mile, the miles of everyone who flies are a whole number of 4096ths, which its
-- speed, its leg and the ticks since that began tell. So are the miles waited (02, 2.2) and an aircraft's own leg (02, 2.7).
use Rattle.std.specs.Prelude.{◌≡◌, cond, ◌&&◌, ◌||◌, List, [], ◌∷◌, ℕ, ◌+◌, ◌-◌, ◌*◌, min, T, eqb}
use Rattle.limits.specs.Limits.{longest_leg, most_waited}
use Rattle.leg.specs.Ticks.{Between, Exactly, FlownExactly}
use Rattle.request.specs.Input.{within, is_entry, is_tick}
use Rattle.request.specs.declared.Request.{Request}
use Rattle.field.specs.declared.Aircraft.{Aircraft}
use Rattle.field.specs.declared.Legs.{Legs}
use Rattle.field.specs.declared.Field.{Field}
use Rattle.field.specs.Airspace.{missed, base, intermediate, right, left, is_flying_zone, in_zone, legs_in64ths}
use Rattle.field.specs.Lists.{Each}
use Rattle.rules.specs.declared.Answer.{Answer}
use Rattle.rules.specs.Start.{empty_start}
use Rattle.rules.specs.Play.{field_after, played, is_accepted}

-- four legs in whole 64ths of a mile, 1 to 4096 each
pub record WholeLegs : Type 0 where
  pub missed_leg : ℕ
  pub base_leg : ℕ
  pub intermediate_leg : ℕ
  pub final_leg : ℕ
  pub missed_fits : Between 1 longest_leg missed_leg
  pub base_fits : Between 1 longest_leg base_leg
  pub intermediate_fits : Between 1 longest_leg intermediate_leg
  pub final_fits : Between 1 longest_leg final_leg

-- those legs in miles
abbrev pub in_miles : WholeLegs → Legs
in_miles w = legs_in64ths w.missed_leg w.base_leg w.intermediate_leg w.final_leg

-- the leg of zone z, one of 7 to 12, in 64ths
abbrev pub zone_leg_in64ths : WholeLegs → ℕ → ℕ
zone_leg_in64ths w z =
    cond (eqb z (missed right) || eqb z (missed left)) w.missed_leg
    (cond (eqb z (base right) || eqb z (base left)) w.base_leg
    (cond (eqb z intermediate) w.intermediate_leg w.final_leg))

-- the same in 4096ths; 0 where no leg is flown
abbrev pub zone_leg_in4096ths : WholeLegs → ℕ → ℕ
zone_leg_in4096ths w z = cond (is_flying_zone z) (64 * zone_leg_in64ths w z) 0

-- what the miles flown in zone z exceed the leg by, all in 4096ths; 0 where no leg is flown
abbrev pub past_in : ℕ → ℕ → ℕ → ℕ
past_in z leg flown = cond (is_flying_zone z) (flown - leg) 0

-- the most miles waited, in 4096ths (02, 2.2)
abbrev pub most_in4096ths : ℕ
most_in4096ths = 4096 * most_waited

-- what the requests and answers tell of an aircraft: its speed, the zone that it is in, its own leg there in 4096ths (02, 2.7), the tick amounts since
-- the leg began, and what it flew past the ends of its legs before that, in 4096ths
pub record Flight : Type 0 where
  pub speed : ℕ
  pub zone : ℕ
  pub leg : ℕ
  pub ticks : ℕ
  pub before : ℕ

-- of a number that has not entered
abbrev pub no_flight : Flight
no_flight = record { speed = 0; zone = 0; leg = 0; ticks = 0; before = 0 }

-- an accepted tick adds its amount
abbrev pub ticking : Flight → ℕ → Flight
ticking s amount = record { speed = s.speed; zone = s.zone; leg = s.leg; ticks = s.ticks + amount; before = s.before }

-- an entry: nothing is flown yet, and nothing past the end of a leg (02, 2.2)
abbrev pub entry : ℕ → ℕ → Flight
entry speed zone = record { speed = speed; zone = zone; leg = 0; ticks = 0; before = 0 }

-- what it has flown past the ends of its legs, this one included
abbrev pub past_so_far : Flight → ℕ
past_so_far s = s.before + past_in s.zone s.leg (s.speed * s.ticks)

-- another leg, or none, in another zone
abbrev pub onward : WholeLegs → Flight → ℕ → Flight
onward w s zone = record { speed = s.speed; zone = zone; leg = zone_leg_in4096ths w zone; ticks = 0; before = past_so_far s }

-- a miss: 64 times the missed leg, and what was left of final (02, 2.7)
abbrev pub after_miss : WholeLegs → Flight → ℕ → Flight
after_miss w s zone = record { speed = s.speed; zone = zone; leg = 64 * w.missed_leg + (s.leg - s.speed * s.ticks); ticks = 0; before = past_so_far s }

-- the flight of a number after a request and its answer: with an accepted request for the aircraft a leg of its begins or ends
abbrev pub flight_with : WholeLegs → ℕ → Flight → Request × Answer → Flight
flight_with w number s p =
    cond (is_accepted is_tick p) (ticking s p.0.amount)
    (cond (eqb p.1.number 0 && eqb p.0.number number)
    (cond (is_entry p.0.kind) (entry p.0.amount p.1.zone)
    (cond (eqb p.0.kind 10) (after_miss w s p.1.zone) (onward w s p.1.zone)))
    s)

-- and after a list of requests
abbrev pub flight_after : WholeLegs → ℕ → Flight → List (Request × Answer) → Flight
flight_after w number s [] = s
flight_after w number s (p ∷ ps) = flight_after w number (flight_with w number s p) ps

-- what is exact of an aircraft in zone z with this flight
pub record Account (s : Flight) (z : ℕ) (a : Aircraft) : Type 0 where
  -- its speed is that of its flight, the amount of the entry that let it in
  pub speed : a.speed ≡ s.speed
  -- in every zone its own leg is that of its flight, in 4096ths (02, 2.7)
  pub leg : Exactly a.leg s.leg
  -- where it flies, its miles in 4096ths are its speed times its ticks, or that leg where it is shorter
  pub miles : T (is_flying_zone z) → FlownExactly a.progress (min s.leg (a.speed * s.ticks))
  -- in every zone its miles waited, in 4096ths, are what it flew past the ends of its legs, this one included, and no more than 4096 miles (02, 2.2)
  pub waited : Exactly a.waited (min most_in4096ths (s.before + past_in z s.leg (a.speed * s.ticks)))

-- that is so of everyone on the field f after a list of requests with these answers
abbrev pub ExactOf : WholeLegs → List (Request × Answer) → Field → Type 0
ExactOf w answers f =
    (zone : ℕ) → T (within 1 13 zone)
    → Each (λ a. Account (flight_after w a.number no_flight answers) zone a) (in_zone f zone)

-- exactness: that is so after every list of requests, from every empty field that a list may start from whose legs are whole 64ths
abbrev pub Exact : Type 0
Exact = (w : WholeLegs) (f : Field) → T (empty_start f) → f.legs ≡ in_miles w → (rs : List Request) → ExactOf w (played f rs) (field_after f rs)
