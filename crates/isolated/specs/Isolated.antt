-- Two desks (02, 2.10): the numbers of the other desk's aircraft renamed, and the claim that this changes no answer to this desk. Definitions only.
use Rattle.std.specs.Prelude.{◌≡◌, cond, List, map, ℕ, T, eqb, length}
use Rattle.request.specs.Input.{within}
use Rattle.request.specs.declared.Request.{Request}
use Rattle.field.specs.declared.Aircraft.{Aircraft}
use Rattle.field.specs.declared.Zone.{Zone}
use Rattle.field.specs.declared.Field.{Field}
use Rattle.field.specs.Airspace.{in_zone}
use Rattle.field.specs.Lists.{Each}
use Rattle.bounds.specs.Bounds.{within_bounds}
use Rattle.rules.specs.Play.{played, of_desk}
use Rattle.renaming.specs.Renaming.{Renaming, renamed_aircraft, renamed_sequence, renamed_request}

-- ---- the other desk's numbers renamed; this desk is d

-- an aircraft of the other desk has its new number, one of desk d its own (02, 2.10)
abbrev pub renamed_other : ℕ → (ℕ → ℕ) → Aircraft → Aircraft
renamed_other d π a = cond (eqb a.desk d) a (renamed_aircraft π a)

-- a zone, every place of it
abbrev pub renamed_others_in : ℕ → (ℕ → ℕ) → Zone → Zone
renamed_others_in d π q = record { aircraft = map (renamed_other d π) q.aircraft; length = q.length }

-- the field: the aircraft of the other desk, and the sequence with all its numbers (02, 2.10); the next fix and the legs stay
abbrev pub renamed_others : ℕ → (ℕ → ℕ) → Field → Field
renamed_others d π f = record { zones = map (renamed_others_in d π) f.zones; sequence = renamed_sequence π f.sequence; next = f.next; legs = f.legs }

-- a request of the other desk, accepted or refused, names the new number; one of desk d stays (02, 2.10)
abbrev pub renamed_other_request : ℕ → (ℕ → ℕ) → Request → Request
renamed_other_request d π r = cond (eqb r.desk d) r (renamed_request π r)

-- a list of requests of both desks
abbrev pub renamed_other_requests : ℕ → (ℕ → ℕ) → List Request → List Request
renamed_other_requests d π rs = map (renamed_other_request d π) rs

-- ---- the numbers that stay

-- the number that a request of desk d names
abbrev pub KeepsRequest : ℕ → (ℕ → ℕ) → Request → Type 0
KeepsRequest d π r = r.desk ≡ d → π r.number ≡ r.number

-- each number that desk d names in the list, also where it is refused (02, 2.10)
abbrev pub KeepsRequests : ℕ → (ℕ → ℕ) → List Request → Type 0
KeepsRequests d π rs = Each (KeepsRequest d π) rs

-- the number that an aircraft of desk d carries
abbrev pub KeepsNumber : ℕ → (ℕ → ℕ) → Aircraft → Type 0
KeepsNumber d π a = a.desk ≡ d → π a.number ≡ a.number

-- each number that an aircraft of desk d carries on the field; those that it lets in later are named by its requests (02, 2.10)
abbrev pub KeepsAircraft : ℕ → (ℕ → ℕ) → Field → Type 0
KeepsAircraft d π f = (z : ℕ) → T (within 1 13 z) → Each (KeepsNumber d π) (in_zone f z)

-- what is asked of the new numbers
pub record KeepsOwn (d : ℕ) (π : ℕ → ℕ) (f : Field) (rs : List Request) : Type 0 where
  -- no two numbers become one, and 0 stays 0
  pub renaming : Renaming π
  pub requests : KeepsRequests d π rs
  pub aircraft : KeepsAircraft d π f

-- ---- the claim

-- From any field within the bounds, with its thirteen zones as every field of the program has them, for any desk, any list of requests of both desks and
-- any new numbers that keep this desk's own: this desk's requests and answers are the same, one by one, when the other desk's numbers are renamed on the
-- field and in the list (02, 2.10).
abbrev pub Isolation : Type 0
Isolation =
    (f : Field) → length f.zones ≡ 13 → T (within_bounds f) → (d : ℕ) (rs : List Request) (π : ℕ → ℕ) → KeepsOwn d π f rs
    → of_desk d (played (renamed_others d π f) (renamed_other_requests d π rs)) ≡ of_desk d (played f rs)
