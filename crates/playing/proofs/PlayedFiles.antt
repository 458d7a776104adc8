-- A file that is refused and one that holds a session: what is played of it, and that its legs are legal. Assumes nothing.
use mathlib.Core.Path.{◌≡◌, refl, sym, ap, ◌∙◌}
use mathlib.Core.Bool.{Bool, true, false, cond}
use mathlib.Core.List.{List, []}
use Prim.Native.Nat.{ℕ, ◌≤◌}
use native.Mathlib.Omega.{arith}
use lib.Dec.{T, eqb}
use lib.ListN.{length}
use borrow.Author.Tests.{eq-eqb, ne_eqb, eqb-true, eqb-false}
use Rattle.limits.specs.Limits.{longest_leg, most_requests}
use Rattle.leg.specs.Ticks.{Between}
use Rattle.request.specs.declared.Request.{Request}
use Rattle.practice.specs.declared.FileLegs.{FileLegs}
use Rattle.practice.specs.File.{legs_of, legs_body, requests_body, legs_allowed, file_number}
use Rattle.practice.specs.Requests.{requests_of}
use Rattle.practice.specs.Practice.{Practice, refused, holds, practice_of}
use Rattle.practice.proofs.AcceptedFile.{LegKnown, legs_known}
use Rattle.practice.proofs.Meaning.{held}
use Rattle.field.specs.declared.Legs.{Legs}
use Rattle.field.specs.Airspace.{empty_field}
use Rattle.fits.specs.Fits.{legal_legs}
use Rattle.demand.proofs.Flights.{legs_legal}
use Rattle.playing.specs.declared.Played.{Played}
use Rattle.playing.specs.Playing.{legs_in_miles, no_legs, answers_from, present_from, field_from, requests_of_file, answers_of, field_of_file, played_of}
use Rattle.playing.specs.Playing.{requests_of_practice, answers_of_practice, present_of_practice, field_of_practice}
use Rattle.playing.proofs.Playing.{length_answers}

module _ (file : List ℕ) where
  abbrev practice_by : Bool → Practice
  practice_by t = cond t (holds (legs_of (legs_body file)) (requests_of (requests_body file))) (refused (file_number file))

  -- the legs of the file, and its requests
  abbrev pub legs_held : Legs
  legs_held = legs_in_miles (legs_of (legs_body file))

  abbrev pub requests_inside : List Request
  requests_inside = requests_of (requests_body file)

  abbrev played_by : Practice → Played
  played_by p = record { number = file_number file; requests = length (requests_of_practice p); present = present_of_practice p; field = field_of_practice p }

  module _ (e : file_number file ≡ 0) where
    pub practice_holds : practice_of file ≡ holds (legs_of (legs_body file)) requests_inside
    unfolding practice_of
    practice_holds = ap practice_by (eq-eqb (file_number file) 0 e)

    pub answers_held : answers_of file ≡ answers_from legs_held requests_inside
    unfolding answers_of
    answers_held = ap answers_of_practice practice_holds

    pub played_held : played_of file ≡ record { number = 0; requests = length requests_inside; present = present_from legs_held requests_inside; field = field_from legs_held requests_inside }
    unfolding played_of requests_of_file field_of_file
    played_held =
        ap played_by practice_holds ∙ ap (λ (n : ℕ). record { number = n; requests = length requests_inside; present = present_from legs_held requests_inside; field = field_from legs_held requests_inside }) e

  module _ (n : file_number file ≡ 0 → ⊥) where
    pub practice_refused : practice_of file ≡ refused (file_number file)
    unfolding practice_of
    practice_refused = ap practice_by (ne_eqb (file_number file) 0 n)

    pub answers_none : answers_of file ≡ []
    unfolding answers_of
    answers_none = ap answers_of_practice practice_refused

    pub played_none : played_of file ≡ record { number = file_number file; requests = 0; present = 0; field = empty_field (legs_in_miles no_legs) }
    unfolding played_of requests_of_file field_of_file
    played_none = ap played_by practice_refused

-- the legs of an accepted file, whole 64ths as the file says them, are legal
pub file_legs_legal : (legs : FileLegs) → legs_allowed legs ≡ true → T (legal_legs (legs_in_miles legs))
file_legs_legal legs e =
    let k = legs_known legs e in
    legs_legal
    (record {
      missed_leg = legs.missed;
      base_leg = legs.base;
      intermediate_leg = legs.intermediate;
      final_leg = legs.final_approach;
      missed_fits = fits legs.missed k.missed;
      base_fits = fits legs.base k.base;
      intermediate_fits = fits legs.intermediate k.intermediate;
      final_fits = fits legs.final_approach k.final_leg;
    })
  where
    fits : (n : ℕ) → LegKnown n → Between 1 longest_leg n
    fits n k = record { least = k.low; most = k.high }

-- ---- of every file

pub answers_count : (file : List ℕ) → (played_of file).requests ≡ length (answers_of file)
unfolding played_of requests_of_file answers_of
answers_count file = by (practice_of file)
  where
    by : (p : Practice) → length (requests_of_practice p) ≡ length (answers_of_practice p)
    by (refused n) = refl
    by (holds legs requests) = sym (length_answers (legs_in_miles legs) requests)

pub requests_few : (file : List ℕ) → (played_of file).requests ≤ most_requests
requests_few file = go (eqb (file_number file) 0) refl
  where
    go : (b : Bool) → eqb (file_number file) 0 ≡ b → (played_of file).requests ≤ most_requests
    go true e =
        let z = eqb-true (file_number file) 0 e in
        let n = ap (λ (p : Played). p.requests) (played_held file z) in
        let h = held file (legs_of (legs_body file)) (requests_inside file) (practice_holds file z) in
        omega (arith, h.few)
    go false e = let n = ap (λ (p : Played). p.requests) (played_none file (eqb-false (file_number file) 0 e)) in omega arith
