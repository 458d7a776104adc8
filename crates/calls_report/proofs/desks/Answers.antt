-- `calls_report::desks` meets its contract: the line that refuses the input, or the report of its calls. Assumes nothing.
use mathlib.Core.Path.{◌≡◌, sym, ap, ◌∙◌, subst}
use mathlib.Core.List.{List, ◌++◌}
use Prim.Native.Nat.{ℕ, ◌^◌, ◌≤◌, ◌<◌}
use native.Mathlib.Omega.{arith}
use lib.ListN.{length, drop}
use Rattle.refusals.proofs.Outcomes.{number_some}
use Rattle.text.specs.Buffer.{Put, room, Written}
use Rattle.text.proofs.Texts.{written, stated}
use Rattle.playing.specs.Playing.{legs_in_miles}
use Rattle.history.specs.History.{start_of}
use Rattle.field.specs.declared.Legs.{Legs}
use Rattle.authored.specs.Authored.{refused_line}
use Rattle.authored.proofs.Outputs.{refused_short}
use Rattle.calls_report.specs.CallsReport.{calls_in, report_from, desks_number}
use Rattle.calls_report.proofs.CallLines.{printed_refused, printed_report, accepted_input}
use Rattle.calls_report.proofs.desks.Goals.{In_default}
use Rattle.calls_report.proofs.desks.Goals as goal

-- what is put is written, where it is what is printed and there is room for it
ends : {before after bytes printed : List ℕ} {n : ℕ} → Put before 0 bytes after n → length before ≡ room → length bytes ≤ room → bytes ≡ printed
    → (n ≡ length printed) × ((after ≡ printed ++ drop n before) × (n ≤ room))
ends {before} {after} {n = n} p l h e = stated (subst (λ (b : List ℕ). Written b before n after) e (written p l h))

-- the line of a refusal has room
refusal_fits : (n : ℕ) → n < 2 ^ 64 → length (refused_line n) ≤ room
refusal_fits n h = let short = refused_short n h in omega arith

accepted : (c : In_default) → desks_number c.args.input.now ≡ 0
accepted c = sym c.in_default.ensures

pub returns-in-Err : goal.returns-in-Err
returns-in-Err c =
    let n = c.number.ensures ∙ c.in-Err.ensures in
    let told = ends c.put_refused.ensures c.bytes-1.given.0.1 (refusal_fits _ (omega (arith, c.number.type_inv))) (ap refused_line n ∙ printed_refused _ (λ e. number_some _ (c.in-Err.ensures ∙ e))) in
    record { value = told.0; out_after = told.1.0; upper_bound = told.1.1 }

pub put_calls-requires : goal.put_calls-requires
put_calls-requires c =
    let a = accepted_input _ (accepted (goal.at.put_calls-requires c).In_default) in
    (a.long, a.few)

pub returns : goal.returns
returns c =
    let input = c.args.input.now in
    let legs = c.legs_in_miles.ensures ∙ ap legs_in_miles c.legs_of.ensures in
    let told = ends c.put_calls.ensures.put c.bytes-1.given.0.1 c.put_calls.ensures.input_len_bound
    (ap (λ (x : Legs). report_from 0 (start_of x) (calls_in input)) legs ∙ printed_report input (accepted (goal.at.returns c).In_default)) in
    record { value = told.0; out_after = told.1.0; upper_bound = told.1.1 }
