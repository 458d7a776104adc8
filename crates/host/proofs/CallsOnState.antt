-- A start, a step, the button and the field of a list, on the history that the bytes are read as, and the state after each. Assumes nothing.
use mathlib.Core.Path.{◌≡◌, refl, sym, ap, ◌∙◌}
use mathlib.Core.Bool.{Bool, true, false, cond}
use mathlib.Core.List.{List}
use Prim.Native.Nat.{ℕ}
use lib.Dec.{eqb}
use Rattle.field.proofs.TestLaws.{if_true, if_false}
use Rattle.request.specs.declared.Request.{Request}
use Rattle.history.specs.declared.History.{History}
use Rattle.history.specs.declared.SteppedHistory.{SteppedHistory}
use Rattle.history.specs.History.{start_with, start_of, step_history, step_back}
use Rattle.practice.specs.declared.FileLegs.{FileLegs}
use Rattle.practice.specs.File.{legs_allowed}
use Rattle.playing.specs.Playing.{legs_in_miles}
use Rattle.dialect_field.specs.declared.Built.{Built}
use Rattle.press_kept.specs.declared.PressedKept.{PressedKept}
use Rattle.press_kept.specs.declared.HeldKept.{HeldKept}
use Rattle.press_kept.specs.PressKept.{press_kept, held_kept}
use Rattle.host.specs.Calls.{start, start_number, left_as_bytes}
use Rattle.layout.specs.Read.{read_history}
use Rattle.layout.specs.Written.{history_bytes, state_after}
use Rattle.press.specs.HeldDown.{ending_number}

-- ---- a call on the history that the bytes are read as
pub asked : (state : List ℕ) (r : Request) {h : History} {s : SteppedHistory} → s ≡ step_history h r → h ≡ read_history state → s ≡ step_history (read_history state) r
asked state r e g = e ∙ ap (λ (x : History). step_history x r) g

pub stepped_back : (state : List ℕ) (desk : ℕ) {h : History} {s : SteppedHistory} → s ≡ step_back h desk → h ≡ read_history state → s ≡ step_back (read_history state) desk
stepped_back state desk e g = e ∙ ap (λ (x : History). step_back x desk) g

-- the state after a step that is known
pub after_step : (state : List ℕ) {s t : SteppedHistory} → s ≡ t → state_after state s.answer.number s.after ≡ state_after state t.answer.number t.after
after_step state e = ap (λ (x : SteppedHistory). state_after state x.answer.number x.after) e

-- ---- the start
pub start_refused : (state : List ℕ) (legs : FileLegs) → legs_allowed legs ≡ false → (7 ≡ start_number legs) × (state ≡ left_as_bytes state (start legs))
start_refused state legs h =
    let e : start_number legs ≡ 7 = if_false _ _ h in
    (sym e, sym (ap (λ (n : ℕ). state_after state n (cond (eqb n 0) (start_of (legs_in_miles legs)) (read_history state))) e))

pub start_stored : (state : List ℕ) (legs : FileLegs) → legs_allowed legs ≡ true → (0 ≡ start_number legs) × (history_bytes (start_of (legs_in_miles legs)) ≡ left_as_bytes state (start legs))
start_stored state legs h =
    let e : start_number legs ≡ 0 = if_true _ _ h in
    (sym e, sym (ap (λ (n : ℕ). state_after state n (cond (eqb n 0) (start_of (legs_in_miles legs)) (read_history state))) e))

-- ---- the field of a list

-- what begins anew is written where the number is 0, and else nothing
pub built_stored : (state : List ℕ) {h : History} {b t : Built} → h ≡ start_with b.after → b ≡ t
    → state_after state b.number h ≡ state_after state t.number (cond (eqb t.number 0) (start_with t.after) (read_history state))
built_stored state {b = b} {t = t} e g =
    ap (state_after state b.number) e ∙ ap (λ (x : Built). state_after state x.number (start_with x.after)) g ∙ by_test (eqb t.number 0) (start_with t.after)
  where
    by_test : (test : Bool) (h : History) → cond test (history_bytes h) state ≡ cond test (history_bytes (cond test h (read_history state))) state
    by_test true h = refl
    by_test false h = refl

-- ---- the button on the history that the bytes are read as
pub pressed : (state : List ℕ) {h : History} {p : PressedKept} → p ≡ press_kept h → h ≡ read_history state → p ≡ press_kept (read_history state)
pressed state e g = e ∙ ap press_kept g

pub held : (state : List ℕ) {h : History} {r : HeldKept} → r ≡ held_kept h → h ≡ read_history state → r ≡ held_kept (read_history state)
held state e g = e ∙ ap held_kept g

-- the state after the button held down, by what it reports
pub after_held : (state : List ℕ) {n : ℕ} {r t : HeldKept} → n ≡ ending_number r.ending → r ≡ t → state_after state n r.after ≡ state_after state (ending_number t.ending) t.after
after_held state {r = r} e g = ap (λ (k : ℕ). state_after state k r.after) e ∙ ap (λ (x : HeldKept). state_after state (ending_number x.ending) x.after) g
