-- `positions::positions` meets its contract: the refusal of the file, or the lines of the requests that it holds. Assumes nothing.
use mathlib.Core.Path.{◌≡◌, sym, ap, ◌∙◌, subst}
use mathlib.Core.List.{List, ◌++◌}
use Prim.Native.Nat.{ℕ, ◌-◌, ◌≤◌}
use native.Mathlib.Omega.{arith}
use lib.ListN.{length, take, drop}
use borrow.Author.Rules.{part_to_end}
use Rattle.refusals.proofs.Outcomes.{number_some}
use Rattle.practice.specs.File.{legs_of, legs_body, file_number}
use Rattle.practice.specs.Requests.{requests_of}
use Rattle.practice.proofs.Meaning.{Held, held}
use Rattle.field.specs.Airspace.{empty_field}
use Rattle.text.specs.Buffer.{Put}
use Rattle.text.proofs.Texts.{put_whole}
use Rattle.playing.specs.Playing.{legs_in_miles}
use Rattle.playing.proofs.PlayedFiles.{legs_held, requests_inside, practice_holds, practice_refused}
use Rattle.session.specs.Report.{refused_report}
use Rattle.positions.specs.Positions.{lines_from, practice_positions, positions_of, positions_room, AreBytes}
use Rattle.positions.proofs.Fields.{ends_within}
use Rattle.positions.proofs.LineSizes.{positions_fit}
use Rattle.positions.proofs.positions.Goals.{After-check_file, In_default}
use Rattle.positions.proofs.positions.Goals as goal

-- what is put is the report, where these are the same bytes, and it fits the buffer
ends : {before after bytes report : List ℕ} {n : ℕ} → Put before 0 bytes after n → bytes ≡ report → length before ≡ positions_room → length report ≤ positions_room
    → (n ≡ length report) × ((after ≡ report ++ drop n before) × (n ≤ length after))
ends {before} {after} {n = n} p e l h =
    let w = put_whole positions_room (subst (λ (b : List ℕ). Put before 0 b after n) e p) l h in
    (w.0, (w.1.0, ends_within p))

-- the report of a file that is refused, and of one that holds a session
report_refused : (file : List ℕ) → (file_number file ≡ 0 → ⊥) → refused_report (file_number file) ≡ positions_of file
unfolding positions_of
report_refused file h = sym (ap practice_positions (practice_refused file h))

report-held : (file : List ℕ) → file_number file ≡ 0 → lines_from 1 (empty_field (legs_held file)) (requests_inside file) ≡ positions_of file
unfolding positions_of
report-held file h = sym (ap practice_positions (practice_holds file h))

requests-read : (file : List ℕ) → requests_of (take (length file - 34) (drop 34 file)) ≡ requests_inside file
requests-read file = ap requests_of (part_to_end file 34)

room-known : (c : After-check_file) → length c.args.out.now ≡ positions_room
room-known c = c.bytes-1.given.0.1

bytes-known : (c : After-check_file) → AreBytes (c.args.file.now)
bytes-known c i = omega (arith, c.shared_slice_known-1.given i)

accepted : (c : In_default) → file_number (c.args.file.now) ≡ 0
accepted c = sym c.in_default.ensures

holding : (c : In_default) → Held (c.args.file.now) (legs_of (legs_body (c.args.file.now))) (requests_inside (c.args.file.now))
holding c =
    let file = c.args.file.now in
    held file (legs_of (legs_body file)) (requests_inside file) (practice_holds file (accepted c))

pub returns-in-Err : goal.returns-in-Err
returns-in-Err c =
    let n = c.number.ensures ∙ c.in-Err.ensures in
    let file = c.args.file.now in let told = ends c.put_refused.ensures (ap refused_report n ∙ report_refused file (λ e. number_some _ (c.in-Err.ensures ∙ e))) (room-known (goal.at.returns-in-Err c).After-check_file) (positions_fit file (bytes-known (goal.at.returns-in-Err c).After-check_file)) in
    record { value = told.0; out_after = told.1.0; upper_bound = told.1.1 }

pub slice_bounds-put_body-count : goal.slice_bounds-put_body-count
slice_bounds-put_body-count c = (holding (goal.at.slice_bounds-put_body-count c).In_default).long

pub slice_bounds-put_body-start : goal.slice_bounds-put_body-start
slice_bounds-put_body-start c = (holding (goal.at.slice_bounds-put_body-start c).In_default).long

pub put_body-requires : goal.put_body-requires
put_body-requires c =
    let n = ap length (requests-read (c.args.file.now)) in
    omega (arith, (holding (goal.at.put_body-requires c).In_default).few)

pub returns : goal.returns
returns c =
    let file = c.args.file.now in
    let legs = c.legs_in_miles.ensures ∙ ap legs_in_miles (c.file_legs.ensures ∙ (holding (goal.at.returns c).In_default).legs_read) in
    let rs = requests-read file in let told = ends c.put_body.ensures ((λ i. lines_from 1 (empty_field (legs i)) (rs i)) ∙ report-held file (accepted (goal.at.returns c).In_default)) (room-known (goal.at.returns c).After-check_file) (positions_fit file (bytes-known (goal.at.returns c).After-check_file)) in
    record { value = told.0; out_after = told.1.0; upper_bound = told.1.1 }
