-- The calls of an input, one after the other: the lines that are put, and those that are left. Assumes nothing.
use mathlib.Core.Path.{◌≡◌, refl, sym, ap, subst, ◌∙◌}
use mathlib.Core.Bool.{Bool, cond}
use mathlib.Core.List.{List, [], ◌∷◌, ◌++◌, append_assoc}
use Prim.Native.Nat.{ℕ, suc, ◌+◌, ◌*◌, ◌-◌, ◌/◌, ◌%◌, ◌≤◌, ◌<◌}
use native.Mathlib.Numerals.{add-one}
use native.Mathlib.Omega.{arith}
use lib.Dec.{eqb, leb}
use lib.ListN.{length, get_or, length-append}
use borrow.Author.Tests.{leb-true, eq-eqb, ne_eqb}
use Rattle.limits.specs.Limits.{most_requests}
use Rattle.request.specs.declared.Request.{Request}
use Rattle.request.proofs.InputTests.{passed}
use Rattle.practice.specs.File.{number16, legs_of, legs_allowed}
use Rattle.field.proofs.TestLaws.{if_true, if_false}
use Rattle.text.specs.Buffer.{put, Put, room}
use Rattle.text.proofs.Texts.{Left, left_all, left_more}
use Rattle.playing.specs.Playing.{legs_in_miles}
use Rattle.playing.proofs.AnswerSizes.{Short}
use Rattle.session.specs.Report.{answer_line}
use Rattle.session.proofs.LogLines.{answer_length}
use Rattle.history.specs.declared.History.{History}
use Rattle.history.specs.declared.SteppedHistory.{SteppedHistory}
use Rattle.history.specs.History.{start_of}
use Rattle.taken_back.specs.Calls.{Call, request, back, called, played_calls, after_calls}
use Rattle.authored.specs.Authored.{refused_line}
use Rattle.calls_report.specs.CallsReport.{call_at, calls_from, call_bytes, calls_in, desks_number, call_lines, last_line, report_from, desks_of}
use Rattle.calls_report.proofs.CallLineSizes.{call_short}

-- ---- one call
abbrev asked : List ℕ → ℕ → ℕ → ℕ → Request
asked input at number amount = record {
  kind = get_or input (at + 2) 0;
  side = get_or input (at + 3) 0;
  number = number;
  amount = amount;
  desk = get_or input (at + 1) 0;
}

pub call_back : (input : List ℕ) (at : ℕ) → (get_or input at 0 ≡ 0 → ⊥) → back (get_or input (at + 1) 0) ≡ call_at input at
unfolding call_at
call_back input at n = sym (ap (λ (t : Bool). cond t (request (asked input at (number16 input (at + 4)) (number16 input (at + 6)))) (back (get_or input (at + 1) 0))) (ne_eqb (get_or input at 0) 0 n))

pub call_request : (input : List ℕ) (at : ℕ) {number amount : ℕ} → get_or input at 0 ≡ 0 → number ≡ number16 input (at + 4) → amount ≡ number16 input (at + 6)
    → request (record {
      kind = get_or input (at + 2) 0;
      side = get_or input (at + 3) 0;
      number = number;
      amount = amount;
      desk = get_or input (at + 1) 0;
    }) ≡ call_at input at
unfolding call_at
call_request input at z n a =
    (λ i. request (asked input at (n i) (a i)))
    ∙ sym (ap (λ (t : Bool). cond t (request (asked input at (number16 input (at + 4)) (number16 input (at + 6)))) (back (get_or input (at + 1) 0))) (eq-eqb (get_or input at 0) 0 z))

-- ---- the report, a call at a time
report_more : (i : ℕ) (h : History) (c : Call) (cs : List Call) → report_from i h (c ∷ cs) ≡ answer_line i (called h c).answer ++ report_from (suc i) (called h c).after cs
unfolding report_from
report_more i h c cs = append_assoc (answer_line i (called h c).answer) (call_lines (suc i) (played_calls (called h c).after cs)) (last_line (after_calls (called h c).after cs))

-- what holds before call i, counted from 0, on the field h with its kept ones that is reached
pub record Answered (input : List ℕ) (first : History) (before out : List ℕ) (h : History) (next i : ℕ) : Type 0 where
  pub few : i ≤ call_bytes input / 8
  pub left : Left before 0 (report_from 0 first (calls_in input)) out next (report_from i h (calls_from input (8 + 8 * i) (call_bytes input / 8 - i)))
  -- a line has 31 bytes at the most
  pub size : length (report_from 0 first (calls_in input)) ≤ 31 * i + length (report_from i h (calls_from input (8 + 8 * i) (call_bytes input / 8 - i)))

pub answered_none : (input : List ℕ) (h : History) (before : List ℕ) → Answered input h before before h 0 0
unfolding calls_in
answered_none input h before =
    let all = report_from 0 h (calls_from input 8 (call_bytes input / 8)) in
    let n : call_bytes input / 8 ≡ call_bytes input / 8 - 0 = omega arith in
    record {
      few = omega arith;
      left = subst (λ (k : ℕ). Left before 0 all before 0 (report_from 0 h (calls_from input 8 k))) n (left_all before 0 all);
      size = subst (λ (k : ℕ). length all ≤ 31 * 0 + length (report_from 0 h (calls_from input 8 k))) n (omega arith);
    }

pub answered_more : (input : List ℕ) {first h : History} {before m n : List ℕ} {next e i : ℕ} (s : SteppedHistory) → Answered input first before m h next i → i < call_bytes input / 8
    → call_bytes input / 8 ≤ most_requests → s ≡ called h (call_at input (8 + 8 * i)) → s.answer.aircraft < 65536 → s.answer.leader < 65536 → s.answer.along < 65536
    → Put m next (answer_line i s.answer) n e → Answered input first before n s.after e (i + 1)
answered_more input {h = h} {i = i} s w l most q wa wl wm p =
    let xs = answer_line i s.answer in
    let ys = report_from (i + 1) s.after (calls_from input (8 + 8 * (i + 1)) (call_bytes input / 8 - (i + 1))) in
    let one = answer_length i s.answer (omega arith) (subst (λ (t : SteppedHistory). Short t.answer) (sym q) (call_short h (call_at input (8 + 8 * i)))) wa wl wm in
    let both = ap length here ∙ length-append xs ys in
    record { few = omega arith; left = left_more xs ys w.left here p; size = omega (arith, w.size, one, both) }
  where
    rest : ℕ
    rest = call_bytes input / 8 - (i + 1)

    here : report_from i h (calls_from input (8 + 8 * i) (call_bytes input / 8 - i)) ≡ answer_line i s.answer ++ report_from (i + 1) s.after (calls_from input (8 + 8 * (i + 1)) rest)
    here =
        let d : call_bytes input / 8 - i ≡ suc rest = omega arith in
        let k : 8 + 8 * i + 8 ≡ 8 + 8 * (i + 1) = omega arith in
        ap (λ (j : ℕ). report_from i h (calls_from input (8 + 8 * i) j)) d
        ∙ report_more i h (call_at input (8 + 8 * i)) (calls_from input (8 + 8 * i + 8) rest)
        ∙ ap (λ (t : SteppedHistory). answer_line i t.answer ++ report_from (suc i) t.after (calls_from input (8 + 8 * i + 8) rest)) (sym q)
        ∙ ap (λ (j : ℕ). answer_line i s.answer ++ report_from (suc i) s.after (calls_from input j rest)) k
        ∙ ap (λ (j : ℕ). answer_line i s.answer ++ report_from j s.after (calls_from input (8 + 8 * (i + 1)) rest)) (sym (add-one i))

-- the last line, where no call is left
report_none : (i : ℕ) (h : History) → report_from i h [] ≡ last_line h
unfolding report_from
report_none i h = refl

pub answered_all : (input : List ℕ) {first h : History} {before m n : List ℕ} {next e i : ℕ} → Answered input first before m h next i → call_bytes input / 8 ≤ i → Put m next (last_line h) n e
    → Put before 0 (report_from 0 first (calls_in input)) n e
answered_all input {h = h} {m = m} {next = next} {i = i} w l p =
    let d : call_bytes input / 8 - i ≡ 0 = omega arith in
    let rest = ap (λ (j : ℕ). report_from i h (calls_from input (8 + 8 * i) j)) d ∙ report_none i h in
    let all = ap (put m next) (sym rest) ∙ w.left.whole in
    record { buffer = p.buffer ∙ ap (λ (q : List ℕ × ℕ). q.0) all; next = p.next ∙ ap (λ (q : List ℕ × ℕ). q.1) all }

pub answered_fits : (input : List ℕ) {first h : History} {before m : List ℕ} {next i : ℕ} → Answered input first before m h next i → call_bytes input / 8 ≤ i → call_bytes input / 8 ≤ most_requests
    → length (last_line h) ≤ 46 → length (report_from 0 first (calls_in input)) ≤ room
answered_fits input {h = h} {i = i} w l most k =
    let d : call_bytes input / 8 - i ≡ 0 = omega arith in
    let rest = ap length (ap (λ (j : ℕ). report_from i h (calls_from input (8 + 8 * i) j)) d ∙ report_none i h) in
    omega (arith, w.size, w.few, rest)

-- ---- an input that is refused, and one that is accepted
pub printed_refused : (input : List ℕ) → (desks_number input ≡ 0 → ⊥) → refused_line (desks_number input) ≡ desks_of input
unfolding desks_of
printed_refused input n = sym (if_false _ _ (ne_eqb (desks_number input) 0 n))

pub printed_report : (input : List ℕ) → desks_number input ≡ 0 → report_from 0 (start_of (legs_in_miles (legs_of input))) (calls_in input) ≡ desks_of input
unfolding desks_of
printed_report input e = sym (if_true _ _ (eq-eqb (desks_number input) 0 e))

pub record AcceptedCalls (input : List ℕ) : Type 0 where
  pub long : 8 ≤ length input
  pub few : call_bytes input / 8 ≤ most_requests

pub accepted_input : (input : List ℕ) → desks_number input ≡ 0 → AcceptedCalls input
unfolding desks_number
accepted_input input e =
    let tests : List (ℕ × Bool) = (7, leb 8 (length input)) ∷ (7, legs_allowed (legs_of input)) ∷ (5, eqb (call_bytes input % 8) 0) ∷ (5, leb (call_bytes input / 8) most_requests) ∷ [] in
    let p = passed tests (tt, (tt, (tt, (tt, tt)))) e in
    record { long = leb-true 8 (length input) p.0; few = leb-true (call_bytes input / 8) most_requests p.1.1.1.0 }
