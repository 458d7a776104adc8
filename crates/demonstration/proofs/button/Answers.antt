-- `demonstration::button` meets its contract: the report of a refused file, or of the button held down on the field after the file. Assumes nothing.
use mathlib.Core.Path.{◌≡◌, sym, ap, ◌∙◌, subst}
use mathlib.Core.List.{List, ◌++◌}
use Prim.Native.Nat.{ℕ, ◌*◌, ◌≤◌}
use native.Mathlib.Omega.{arith}
use lib.ListN.{length, length-append}
use Rattle.practice.specs.File.{file_number}
use Rattle.field.specs.declared.Field.{Field}
use Rattle.rules.specs.Play.{played, moves}
use Rattle.playing.specs.declared.Played.{Played}
use Rattle.playing.specs.Playing.{played_of}
use Rattle.press.specs.declared.Held.{Held}
use Rattle.press.specs.HeldDown.{held_requests, held_of, held_lines}
use Rattle.text.specs.Buffer.{room, Written}
use Rattle.text.proofs.Texts.{put_more, written, stated}
use Rattle.session.specs.Report.{refused_report}
use Rattle.session.proofs.LogLines.{refused_length}
use Rattle.demonstration.specs.Demonstration.{ending_line, button_report}
use Rattle.demonstration.proofs.Buttons.{button_refused, button_holds, button_moves, end_length}
use Rattle.demonstration.proofs.button.Goals.{After-play-p}
use Rattle.demonstration.proofs.button.Goals as goal

number_told : (c : After-play-p) → c.play-p.result.number ≡ file_number (c.args.file.now)
unfolding played_of
number_told c = ap (λ (p : Played). p.number) c.play-p.ensures.value

field_told : (c : After-play-p) → c.play-p.result.field ≡ (played_of (c.args.file.now)).field
field_told c = ap (λ (p : Played). p.field) c.play-p.ensures.value

pub returns-then-p-ne0 : goal.returns-then-p-ne0
returns-then-p-ne0 c =
    let file = c.args.file.now in
    let n = number_told (goal.at.returns-then-p-ne0 c).After-play-p in let told = let refused : file_number file ≡ 0 → ⊥ = λ e. c.if-p-ne0.true (n ∙ e) in
    let bytes = ap refused_report n ∙ sym (button_refused file refused) in
    let short = refused_length c.play-p.result.number (omega (arith, c.play-p.type_inv)) in
    let room = written c.put_refused.ensures c.told-out (omega arith) in
    stated (subst (λ (b : List ℕ). Written b c.args.out.now c.put_refused.result c.put_refused.new.out) bytes room) in
    record { value = told.0; out_after = told.1.0; upper_bound = told.1.1 }

pub returns : goal.returns
unfolding button_report
returns c =
    let file = c.args.file.now in
    let accepted : file_number file ≡ 0 = sym (number_told (goal.at.returns c).After-play-p) ∙ c.if-p-ne0.false in
    let f = (played_of file).field in
    let held = c.hold_down-h.result.held in
    let field = field_told (goal.at.returns c).After-play-p in
    let is : held ≡ held_of f = c.hold_down-h.ensures.held_value ∙ ap held_of field in
    let lines = ap held_lines field in
    let bytes = ap (λ (l : List ℕ). l ++ ending_line held.ending held.played) lines
    ∙ ap (λ (x : Held). held_lines f ++ ending_line x.ending x.played) is
    ∙ sym (button_holds file accepted) in
    let few = button_moves file accepted in
    let short = subst (λ (g : Field). length (held_lines g) ≤ 147 * moves (played g (held_requests g))) field c.hold_down-h.ensures.f_len_bound in
    let last = end_length held.ending held.played (omega (arith, c.hold_down-h.type_inv)) in
    let same = ap length lines in
    let both = length-append (held_lines c.play-p.result.field) (ending_line held.ending held.played) in
    let room = written (put_more c.hold_down-h.ensures.put c.put_end.ensures) c.told-out (omega arith) in let told = stated (subst (λ (b : List ℕ). Written b c.args.out.now c.put_end.result c.put_end.new.out) bytes room) in
    record { value = told.0; out_after = told.1.0; upper_bound = told.1.1 }
