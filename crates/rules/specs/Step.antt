-- Document 01, "The requests" and "Turned away by the field": the step of any request on any field.
use Rattle.std.specs.Prelude.{◌≡◌, Bool, cond, List, [], ◌∷◌, ◌++◌, ℕ, eqb}
use Rattle.request.specs.Input.{first_refused, input_number}
use Rattle.request.specs.declared.Request.{Request}
use Rattle.field.specs.declared.Field.{Field}
use Rattle.field.specs.Airspace.{side_of, lateral, intermediate, final_approach_zone, runway}
use Rattle.questions.specs.declared.Place.{Place}
use Rattle.questions.specs.Find.{place_of, aircraft_at, leader_of}
use Rattle.bounds.specs.Bounds.{within_bounds}
use Rattle.tick.specs.Tick.{ticked}
use Rattle.rules.specs.declared.Answer.{Answer}
use Rattle.rules.specs.declared.Stepped.{Stepped}
use Rattle.rules.specs.Kinds.{place_before, zone_before, zone_ahead, presence_checks, vertical_needs, lateral_needs, descend_needs, approach_needs, merge_needs}
use Rattle.rules.specs.Kinds.{flown_out_needs, land_needs, exit_needs, moved, descended, head_gone, entered, entered_above, approached}
use Rattle.rules.specs.Kinds.{landed, exited, missed_approach, held, belongs_to, shown_to, shown_at3000}

-- the entry of the twelve, for kinds 1 to 12, that belongs to the kind; the last for any other number
abbrev pub by_kind {ℓ} : {A : Type ℓ} → ℕ → A → A → A → A → A → A → A → A → A → A → A → A → A
by_kind kind k1 k2 k3 k4 k5 k6 k7 k8 k9 k10 k11 k12 =
    cond (eqb kind 1) k1 (cond (eqb kind 2) k2 (cond (eqb kind 3) k3 (cond (eqb kind 4) k4 (cond (eqb kind 5) k5 (cond (eqb kind 6) k6
    (cond (eqb kind 7) k7 (cond (eqb kind 8) k8 (cond (eqb kind 9) k9 (cond (eqb kind 10) k10 (cond (eqb kind 11) k11 k12))))))))))

-- what each kind needs of the field besides, in order, of a request whose aircraft is at the place and its leader in zone `ahead`
abbrev pub needs_for : ℕ → Field → Request → Place → ℕ → List (ℕ × Bool)
needs_for kind f r at ahead =
    by_kind kind
    (vertical_needs f r.side)
    (lateral_needs f r.side)
    (descend_needs f at.zone)
    (approach_needs f r.number at.zone ahead)
    (merge_needs f r.number at.zone ahead)
    (flown_out_needs f at.zone)
    (land_needs f at.zone)
    []
    (exit_needs f r.number at.zone)
    []
    (flown_out_needs f at.zone)
    []

-- all that a kind needs of the field, in order
abbrev pub checks_for : ℕ → Field → Request → Place → ℕ → List (ℕ × Bool)
checks_for kind f r at ahead = presence_checks kind at (belongs_to f at r.desk) ++ needs_for kind f r at ahead

-- what each kind does to the field, of a request whose aircraft is in zone z and its leader in zone `ahead`
abbrev pub effect_for : ℕ → Field → Request → ℕ → ℕ → Field
effect_for kind f r z ahead =
    by_kind kind
    (entered_above f r)
    (entered f r (lateral r.side))
    (descended f z)
    (approached f r.number z ahead)
    (moved f z intermediate)
    (moved f intermediate final_approach_zone)
    (landed f r)
    (head_gone f runway)
    (exited f r)
    (missed_approach f r)
    (held f z)
    (ticked f r.amount)

-- all that a request needs of a field, its aircraft and its leader where they are there
unfoldable pub checks_of : Field → Request → List (ℕ × Bool)
checks_of f r = checks_for r.kind f r (place_before f r) (zone_ahead f r)

-- what a request does to a field, its aircraft and its leader where they are there
unfoldable pub effect_of : Field → Request → Field
effect_of f r = effect_for r.kind f r (zone_before f r) (zone_ahead f r)

-- the number of a request on a field: first the input rules; then 10 where the field breaks a bound, the needs of the kind in order, and 25 where the field
-- after the step would; 0 where it is accepted (01, "Turned away by the field")
unfoldable pub number_of : Field → Request → ℕ
number_of f r =
    cond (eqb (input_number r) 0)
    (first_refused ((10, within_bounds f) ∷ checks_of f r ++ ((25, within_bounds (effect_of f r)) ∷ [])))
    (input_number r)

-- an answer with a number and nothing else: that of every refusal, and with 0 that of a tick
unfoldable pub number_and_zeros : ℕ → Answer
number_and_zeros number = record { number = number; aircraft = 0; zone = 0; fix = 0; leader = 0; along = 0 }

-- the answer to an accepted entry or move, by the field after the step: of an aircraft that is at the place, with its leader at the place `ahead`, and with
-- the other one that was moved; one that is gone has zone, fix and leader 0, and a leader that is another desk's is not shown (02, 2.10)
unfoldable pub acceptance : Field → Place → Place → Request → ℕ → Answer
acceptance f at ahead r along =
    record {
      number = 0;
      aircraft = r.number;
      zone = at.zone;
      fix = (aircraft_at f at.zone at.place).fix;
      leader = shown_to r.desk (aircraft_at f ahead.zone ahead.place);
      along = along;
    }

-- the other aircraft that a request moves, as its desk is shown it, of a request whose aircraft was in zone z: by an entry (02, 2.5) or a hold; 0
-- for every other kind
abbrev pub along_for : ℕ → Field → Request → ℕ → ℕ
along_for kind f r z = cond (eqb kind 1) (shown_at3000 f r.desk r.side) (cond (eqb kind 11) (shown_at3000 f r.desk (side_of z)) 0)

-- `acceptance` of a request, its aircraft and its leader where they are on the field g after the step
abbrev pub acceptance_on : Field → Request → ℕ → Answer
acceptance_on g r along = acceptance g (place_of g r.number) (place_of g (leader_of g.sequence r.number)) r along

-- the answer to an accepted request: zeros to a tick, and `acceptance_on` the field after the step to every other kind
unfoldable pub answer_of : Field → Request → Answer
answer_of f r =
    cond (eqb r.kind 12) (number_and_zeros 0)
    (acceptance_on (effect_of f r) r (along_for r.kind f r (zone_before f r)))

-- the step of any request on any field: where it is refused, the field stays as it is
unfoldable pub step_of : Field → Request → Stepped
step_of f r =
    cond (eqb (number_of f r) 0)
    (record { answer = answer_of f r; field = effect_of f r })
    (record { answer = number_and_zeros (number_of f r); field = f })

-- what a refusal is to leave (demand 1): its number and zeros, and the field handed in
pub record Unchanged (f : Field) (r : Request) : Type 0 where
  pub same_field : (step_of f r).field ≡ f
  pub zeros : (step_of f r).answer ≡ number_and_zeros (step_of f r).answer.number
