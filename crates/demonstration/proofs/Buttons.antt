-- The report of the button after a file that is refused, and after one that holds a session; and how long it is. Assumes nothing.
use mathlib.Core.Path.{◌≡◌, sym, ap, ◌∙◌, subst}
use mathlib.Core.List.{List, [], ◌∷◌}
use Prim.Native.Nat.{ℕ, ◌^◌, ◌≤◌, ◌<◌}
use native.Mathlib.Omega.{arith}
use lib.ListN.{length, length-append}
use Rattle.limits.specs.Limits.{most_moves}
use Rattle.practice.specs.File.{legs_of, legs_body, file_number}
use Rattle.practice.proofs.Meaning.{held}
use Rattle.field.specs.declared.Field.{Field}
use Rattle.field.specs.Airspace.{empty_field}
use Rattle.rules.specs.Play.{played, moves}
use Rattle.rules.proofs.Starts.{empty_starts}
use Rattle.text.specs.Text.{line_of}
use Rattle.text.proofs.Texts.{line_length}
use Rattle.playing.specs.declared.Played.{Played}
use Rattle.playing.specs.Playing.{field_from, played_of}
use Rattle.playing.proofs.PlayedFiles.{legs_held, requests_inside, practice_holds, practice_refused, played_held, file_legs_legal}
use Rattle.press.specs.declared.Ending.{Ending}
use Rattle.press.specs.declared.Ending.TheVariants.{Refused, None, Spent}
use Rattle.press.specs.HeldDown.{held_requests}
use Rattle.emptied.proofs.Emptying.{emptied}
use Rattle.session.specs.Report.{refused_report}
use Rattle.demonstration.specs.Demonstration.{end_word, ending_line, button_report, practice_button, button_of}

module _ (file : List ℕ) where
  pub button_refused : (file_number file ≡ 0 → ⊥) → button_of file ≡ refused_report (file_number file)
  unfolding button_of
  button_refused n = ap practice_button (practice_refused file n)

  module _ (e : file_number file ≡ 0) where
    -- by the field after the file's last request
    pub button_holds : button_of file ≡ button_report (played_of file).field
    unfolding button_of
    button_holds = ap practice_button (practice_holds file e) ∙ sym (ap (λ (p : Played). button_report p.field) (played_held file e))

    -- it makes no more moves than any list without an entry or a miss
    pub button_moves : moves (played (played_of file).field (held_requests (played_of file).field)) ≤ most_moves
    unfolding field_from
    button_moves =
        let h = held file (legs_of (legs_body file)) (requests_inside file) (practice_holds file e) in
        let legal = file_legs_legal (legs_of (legs_body file)) h.legs_legal in
        subst (λ (f : Field). moves (played f (held_requests f)) ≤ most_moves) (sym (ap (λ (p : Played). p.field) (played_held file e)))
        (emptied (empty_field (legs_held file)) (empty_starts (legs_held file) legal) (requests_inside file)).few_moves

-- the last line, with a count of 64 bits
word_length : (e : Ending) → length (end_word e) ≤ 8
word_length Refused = omega arith
word_length None = omega arith
word_length Spent = omega arith

pub end_length : (e : Ending) (n : ℕ) → n < 2 ^ 64 → length (ending_line e n) ≤ 29
end_length e n h =
    let w = word_length e in
    let l = line_length n [] 19 (omega arith) in
    let a = length-append (end_word e) (line_of (n ∷ [])) in
    omega arith
