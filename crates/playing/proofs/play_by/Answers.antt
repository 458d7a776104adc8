-- `playing::play_by` meets its contract: nothing of a refused file, or the session that the file holds. Assumes nothing.
use mathlib.Core.Path.{◌≡◌, sym, ap, ◌∙◌, subst⁻¹}
use mathlib.Core.List.{List, ◌++◌}
use Prim.Native.Nat.{ℕ, ◌*◌, ◌-◌}
use native.Mathlib.Omega.{arith}
use lib.Dec.{T}
use lib.ListN.{length, take, drop}
use lib.Seq.{sets}
use borrow.Author.Rules.{part_to_end}
use borrow.Author.Rules.{rules}
use Rattle.refusals.proofs.Outcomes.{number_some}
use Rattle.request.specs.declared.Request.{Request}
use Rattle.practice.specs.File.{legs_of, legs_body, file_number}
use Rattle.practice.specs.Requests.{requests_of}
use Rattle.practice.proofs.Meaning.{Held, held}
use Rattle.field.specs.declared.Legs.{Legs}
use Rattle.field.specs.Airspace.{empty_field}
use Rattle.fits.specs.Fits.{legal_legs}
use Rattle.playing.specs.declared.Played.{Played}
use Rattle.playing.specs.Playing.{legs_in_miles, no_legs, answers_from, present_from, field_from}
use Rattle.playing.specs.Log.{log_of}
use Rattle.playing.proofs.PlayedFiles.{legs_held, requests_inside, practice_holds, answers_held, played_held, answers_none, played_none, file_legs_legal}
use Rattle.playing.proofs.Logs.{log_written}
use Rattle.playing.proofs.Playing.{length_answers}
use Rattle.playing.proofs.play_by.Goals.{After-legs_in_miles, In_default, In-Err}
use Rattle.playing.proofs.play_by.Given.{Over}
use Rattle.playing.proofs.play_by.Goals as goal

requests-read : (file : List ℕ) → requests_of (take (length file - 34) (drop 34 file)) ≡ requests_inside file
requests-read file = ap requests_of (part_to_end file 34)

refused : (g : Over) (c : In-Err g) → file_number (c.args.file.now) ≡ 0 → ⊥
refused g c e = number_some _ (c.in-Err.ensures ∙ e)

accepted : (g : Over) (c : In_default g) → file_number (c.args.file.now) ≡ 0
accepted g c = sym c.in_default.ensures

holding : (g : Over) (c : In_default g) → Held (c.args.file.now) (legs_of (legs_body (c.args.file.now))) (requests_inside (c.args.file.now))
holding g c =
    let file = c.args.file.now in
    held file (legs_of (legs_body file)) (requests_inside file) (practice_holds file (accepted g c))

accepted_10 : (g : Over) (c : After-legs_in_miles g) → file_number (c.args.file.now) ≡ 0
accepted_10 g c = sym c.in_default.ensures

holding_10 : (g : Over) (c : After-legs_in_miles g) → Held (c.args.file.now) (legs_of (legs_body (c.args.file.now))) (requests_inside (c.args.file.now))
holding_10 g c =
    let file = c.args.file.now in
    held file (legs_of (legs_body file)) (requests_inside file) (practice_holds file (accepted_10 g c))

legs_read : (g : Over) (c : After-legs_in_miles g) → c.legs_in_miles.result ≡ legs_held (c.args.file.now)
legs_read g c = c.legs_in_miles.ensures ∙ ap legs_in_miles (c.file_legs.ensures ∙ (holding_10 g c).legs_read)

pub returns-in-Err : goal.returns-in-Err
returns-in-Err g c =
    let file = c.args.file.now in
    let n = c.number.ensures ∙ c.in-Err.ensures in
    let log = c.args.log.now in
    let told = c.nothing_played.ensures ∙ ap (λ (m : ℕ). record { number = m; requests = 0; present = 0; field = empty_field (legs_in_miles no_legs) }) n in
    let none : c.nothing_played.result.requests ≡ 0 = ap (λ (p : Played). p.requests) told in record { value = told ∙ sym (played_none file (refused g (goal.at.returns-in-Err g c).In-Err)); log_after = sym (ap (λ ps. log_of ps ++ drop (7 * c.nothing_played.result.requests) log) (answers_none file (refused g (goal.at.returns-in-Err g c).In-Err)) ∙ ap (λ (m : ℕ). drop (7 * m) log) none) }

pub slice_bounds-play_body-count : goal.slice_bounds-play_body-count
slice_bounds-play_body-count g c = (holding g (goal.at.slice_bounds-play_body-count g c).In_default).long

pub slice_bounds-play_body-start : goal.slice_bounds-play_body-start
slice_bounds-play_body-start g c = (holding g (goal.at.slice_bounds-play_body-start g c).In_default).long

pub play_body-requires : goal.play_body-requires
play_body-requires g c =
    let file = c.args.file.now in
    let n = ap length (requests-read file) in record { body_len_bound = (omega (arith, (holding g (goal.at.play_body-requires g c).In_default).few), search rules); t = subst⁻¹ (λ (l : Legs). T (legal_legs l)) (legs_read g (goal.at.play_body-requires g c).After-legs_in_miles) (file_legs_legal (legs_of (legs_body file)) (holding g (goal.at.play_body-requires g c).In_default).legs_legal); callable = c.requires.callable; steps = c.requires.steps }

pub returns : goal.returns
returns g c =
    let file = c.args.file.now in
    let legs = legs_read g (goal.at.returns g c).After-legs_in_miles in
    let rs = requests-read file in
    let log = c.args.log.now in
    let answers = answers_from (legs_held file) (requests_inside file) in
    let count : c.play_body.result.requests ≡ length answers =
    ap (λ (p : Played). p.requests) c.play_body.ensures.value ∙ ap length rs ∙ sym (length_answers (legs_held file) (requests_inside file)) in
    let n = length_answers (legs_held file) (requests_inside file) in record {
      value = c.play_body.ensures.value
          ∙ ap (λ (l : Legs). record {
            number = 0;
            requests = length (requests_of (take (length file - 34) (drop 34 file)));
            present = present_from l (requests_of (take (length file - 34) (drop 34 file)));
            field = field_from l (requests_of (take (length file - 34) (drop 34 file)));
          }) legs
          ∙ ap (λ (r : List Request). record { number = 0; requests = length r; present = present_from (legs_held file) r; field = field_from (legs_held file) r }) rs
          ∙ sym (played_held file (accepted g (goal.at.returns g c).In_default));
      log_after = c.play_body.ensures.log_after
          ∙ ap (λ (l : Legs). sets log 0 (log_of (answers_from l (requests_of (take (length file - 34) (drop 34 file)))))) legs
          ∙ ap (λ (r : List Request). sets log 0 (log_of (answers_from (legs_held file) r))) rs
          ∙ log_written log answers c.play_body.result.requests count (omega (arith, count, n, (holding g (goal.at.returns g c).In_default).few))
          ∙ sym (ap (λ ps. log_of ps ++ drop (7 * c.play_body.result.requests) log) (answers_held file (accepted g (goal.at.returns g c).In_default)));
    }
