-- What `track` prints, in whole numbers alone: the report of a file with no `f64` in it, so that the miles waited (02, 2.2) are printed whole. Definitions only.
use Rattle.std.specs.Prelude.{◌≡◌, List, [], ◌∷◌, ◌++◌, ℕ, suc, ◌+◌, ◌*◌, min}
use Rattle.request.specs.declared.Request.{Request}
use Rattle.practice.specs.File.{legs_of, legs_body, requests_body, file_number}
use Rattle.practice.specs.Requests.{requests_of}
use Rattle.field.specs.declared.Aircraft.{Aircraft}
use Rattle.field.specs.declared.Field.{Field}
use Rattle.field.specs.Airspace.{everywhere, in_zone, empty_field}
use Rattle.rules.specs.declared.Answer.{Answer}
use Rattle.rules.specs.Step.{step_of}
use Rattle.demand.specs.Exact.{WholeLegs, in_miles, past_in, most_in4096ths, no_flight, flight_after}
use Rattle.text.specs.Text.{decimal, space, newline}
use Rattle.miles.specs.Miles.{fraction}
use Rattle.playing.specs.Playing.{legs_in_miles}
use Rattle.positions.specs.Positions.{another, sequence_text, positions_of}

-- the miles waited of one with this number in zone z, in 4096ths, as the requests and answers up to then tell them: what its speed times its ticks exceeds its
-- legs by, and no more than 4,096 miles
unfoldable pub waited_in4096ths : WholeLegs → List (Request × Answer) → ℕ → ℕ → ℕ
waited_in4096ths w answers z number =
    let s = flight_after w number no_flight answers in
    min most_in4096ths (s.before + past_in z s.leg (s.speed * s.ticks))

-- one in a zone: as `position_text`, with that
unfoldable pub whole_position : WholeLegs → List (Request × Answer) → ℕ → Aircraft → List ℕ
whole_position w answers zone a = another zone ++ (another a.number ++ (space ∷ fraction (waited_in4096ths w answers zone a.number)))

-- those of a queue, and those in zones
abbrev pub whole_queue : WholeLegs → List (Request × Answer) → ℕ → List Aircraft → List ℕ
whole_queue w answers zone [] = []
whole_queue w answers zone (a ∷ rest) = whole_position w answers zone a ++ whole_queue w answers zone rest

abbrev pub whole_zones : WholeLegs → List (Request × Answer) → Field → List ℕ → List ℕ
whole_zones w answers f [] = []
whole_zones w answers f (z ∷ zs) = whole_queue w answers z (in_zone f z) ++ whole_zones w answers f zs

-- the line of a field after these answers
unfoldable pub whole_line : WholeLegs → List (Request × Answer) → ℕ → Field → List ℕ
whole_line w answers index f = decimal index ++ (another f.next ++ (sequence_text f.sequence ++ (whole_zones w answers f everywhere ++ (newline ∷ []))))

-- a line for each request, after those answered before
abbrev pub whole_lines_from : WholeLegs → List (Request × Answer) → ℕ → Field → List Request → List ℕ
whole_lines_from w before index f [] = []
whole_lines_from w before index f (r ∷ rs) =
    let answers = before ++ ((r, (step_of f r).answer) ∷ []) in
    whole_line w answers index (step_of f r).field ++ whole_lines_from w answers (suc index) (step_of f r).field rs

-- of a file: its legs are whole 64ths, and its report is the one in whole numbers
pub record PrintedWholeOf (file : List ℕ) : Type 0 where
  pub legs : WholeLegs
  pub same_legs : in_miles legs ≡ legs_in_miles (legs_of (legs_body file))
  pub report : positions_of file ≡ whole_lines_from legs [] 1 (empty_field (in_miles legs)) (requests_of (requests_body file))

-- that is so of every file that plays
abbrev pub PrintedWhole : Type 0
PrintedWhole = (file : List ℕ) → file_number file ≡ 0 → PrintedWholeOf file
