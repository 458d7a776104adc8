-- The report of every file that plays is the one in whole numbers: nothing that `track` prints was rounded. Assumes nothing.
use mathlib.Core.Path.{◌≡◌, refl, sym, ap, ◌∙◌, subst}
use mathlib.Core.Bool.{Bool, true, ◌||◌, or-true}
use mathlib.Core.List.{List, [], ◌∷◌, ◌++◌, append_assoc, append-nil}
use Prim.Native.Nat.{ℕ, suc, ◌+◌, ◌*◌, min}
use native.Mathlib.Omega.{arith}
use lib.Dec.{T, eqb}
use Rattle.leg.specs.Ticks.{Exactly}
use Rattle.request.specs.Input.{within}
use Rattle.request.specs.declared.Request.{Request}
use Rattle.practice.specs.File.{legs_of, legs_body, file_number}
use Rattle.field.specs.declared.Aircraft.{Aircraft}
use Rattle.field.specs.declared.Legs.{Legs}
use Rattle.field.specs.declared.Field.{Field}
use Rattle.field.specs.Airspace.{everywhere, in_zone, empty_field}
use Rattle.field.specs.Lists.{is_in, Each}
use Rattle.field.proofs.NumberLists.{every_listed}
use Rattle.field.proofs.TestLaws.{same}
use Rattle.rules.specs.declared.Answer.{Answer}
use Rattle.rules.specs.Step.{step_of}
use Rattle.rules.specs.Play.{field_after, played}
use Rattle.rules.proofs.Starts.{empty_starts}
use Rattle.demand.specs.Exact.{WholeLegs, in_miles, past_in, most_in4096ths, no_flight, flight_after, Account, ExactOf}
use Rattle.demand.proofs.Flights.{legs_legal}
use Rattle.demand.proofs.Exact.{exactness}
use Rattle.text.specs.Text.{decimal, space, newline}
use Rattle.miles.specs.Miles.{fraction, miles_text}
use Rattle.miles.proofs.ExactMiles.{miles_exact}
use Rattle.playing.specs.Playing.{legs_in_miles}
use Rattle.playing.proofs.PlayedFiles.{requests_inside, practice_holds}
use Rattle.spaced.proofs.Printed.{file_legs}
use Rattle.positions.specs.Positions.{another, position_text, queue_text, zones_text, sequence_text, field_line, lines_from, practice_positions, positions_of}
use Rattle.positions.specs.Printed.{waited_in4096ths, whole_position, whole_queue, whole_zones, whole_line, whole_lines_from, PrintedWhole}

-- ---- a line
module _ (w : WholeLegs) (answers : List (Request × Answer)) where
  abbrev AccountIn : ℕ → Aircraft → Type 0
  AccountIn z a = Account (flight_after w a.number no_flight answers) z a

  waited_whole : (z : ℕ) (a : Aircraft) → AccountIn z a → miles_text a.waited ≡ fraction (waited_in4096ths w answers z a.number)
  unfolding waited_in4096ths
  waited_whole z a k =
      let s = flight_after w a.number no_flight answers in
      let n = min most_in4096ths (s.before + past_in z s.leg (s.speed * s.ticks)) in
      let exact : Exactly a.waited n = subst (λ (v : ℕ). Exactly a.waited (min most_in4096ths (s.before + past_in z s.leg (v * s.ticks)))) k.speed k.waited in
      miles_exact a.waited n exact (omega arith)

  queue_whole : (z : ℕ) (l : List Aircraft) → Each (AccountIn z) l → queue_text z l ≡ whole_queue w answers z l
  unfolding position_text whole_position
  queue_whole z [] h = refl
  queue_whole z (a ∷ l) h =
      let here = waited_whole z a h.0 in
      let rest = queue_whole z l h.1 in
      λ i. another z ++ (another a.number ++ (space ∷ here i)) ++ rest i

  zones_whole : (f : Field) (zs : List ℕ) → ((z : ℕ) → is_in z zs ≡ true → T (within 1 13 z)) → ExactOf w answers f → zones_text f zs ≡ whole_zones w answers f zs
  zones_whole f [] h e = refl
  zones_whole f (z ∷ zs) h e =
      let here = queue_whole z (in_zone f z) (e z (h z (ap (λ (b : Bool). b || is_in z zs) (same z)))) in
      let rest = zones_whole f zs (λ y i. h y (ap (λ (b : Bool). eqb z y || b) i ∙ or-true (eqb z y))) e in
      λ i. here i ++ rest i

  line_whole : (index : ℕ) (f : Field) → ExactOf w answers f → field_line index f ≡ whole_line w answers index f
  unfolding field_line whole_line
  line_whole index f e =
      ap (λ (l : List ℕ). decimal index ++ (another f.next ++ (sequence_text f.sequence ++ (l ++ (newline ∷ [])))))
      (zones_whole f everywhere (λ z i. every_listed (within 1 13) everywhere z tt i) e)

-- ---- the lines of a list: whatever is asked next, distances are exact
abbrev ExactFrom : WholeLegs → List (Request × Answer) → Field → Type 0
ExactFrom w before f = (more : List Request) → ExactOf w (before ++ played f more) (field_after f more)

lines_whole : (w : WholeLegs) (rs : List Request) (before : List (Request × Answer)) (index : ℕ) (f : Field) → ExactFrom w before f → lines_from index f rs ≡ whole_lines_from w before index f rs
lines_whole w [] before index f h = refl
lines_whole w (r ∷ rs) before index f h =
    let g = (step_of f r).field in
    let one : List (Request × Answer) = (r, (step_of f r).answer) ∷ [] in
    let answers = before ++ one in
    let next : ExactFrom w answers g =
    λ more. subst (λ (ps : List (Request × Answer)). ExactOf w ps (field_after g more)) (sym (append_assoc before one (played g more))) (h (r ∷ more)) in
    let here : ExactOf w answers g = subst (λ (ps : List (Request × Answer)). ExactOf w ps g) (append-nil answers) (next []) in
    let first = line_whole w answers index g here in
    let rest = lines_whole w rs answers (suc index) g next in
    λ i. first i ++ rest i

-- ---- the report of a file
as_begun : (w : WholeLegs) → (empty_field (in_miles w)).legs ≡ in_miles w
unfolding empty_field
as_begun w = refl

legs_are : (file : List ℕ) (number : file_number file ≡ 0) → in_miles (file_legs file number) ≡ legs_in_miles (legs_of (legs_body file))
unfolding file_legs
legs_are file number = refl

pub printed_whole : PrintedWhole
unfolding positions_of
printed_whole file number =
    let w = file_legs file number in
    let f = empty_field (in_miles w) in
    record {
      legs = w;
      same_legs = legs_are file number;
      report =
          ap practice_positions (practice_holds file number)
          ∙ ap (λ (legs : Legs). lines_from 1 (empty_field legs) (requests_inside file)) (sym (legs_are file number))
          ∙ lines_whole w (requests_inside file) [] 1 f (exactness w f (empty_starts (in_miles w) (legs_legal w)) (as_begun w));
    }
