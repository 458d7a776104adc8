-- How long the lines of calls are. Assumes nothing.
use mathlib.Core.Bool.{Bool, true, false}
use mathlib.Core.List.{List, [], ◌∷◌}
use Prim.Native.Nat.{ℕ, ◌^◌, ◌≤◌, ◌<◌}
use native.Mathlib.Omega.{arith}
use lib.Dec.{T, eqb, leb, ltb, leb→le}
use lib.ListN.{length}
use mir.Val.{Val}
use denote.Laws.{Is}
use lib.Ieee.Fits.{and_l, and_r}
use Rattle.request.specs.declared.Request.{Request}
use Rattle.request.specs.Input.{within, first_refused, desk_allowed, kind_allowed, side_allowed, number_allowed, amount_allowed, input_number}
use Rattle.field.specs.Lists.{every}
use Rattle.field.proofs.TestLaws.{either_way}
use Rattle.questions.specs.Counts.{present_on}
use Rattle.rules.specs.Step.{number_of, number_and_zeros, step_of}
use Rattle.rules.proofs.StepLaws.{number_is}
use Rattle.text.proofs.Texts.{line_length}
use Rattle.playing.proofs.AnswerSizes.{Short, short_step}
use Rattle.indexed.specs.Indexed.{with_index}
use Rattle.history.specs.declared.History.{History}
use Rattle.history.specs.contracts.History as history
use Rattle.history.specs.declared.SteppedHistory.{SteppedHistory}
use Rattle.history.specs.History.{within_bounds_history, keeping, number_history, step_history, number_back, field_given_back, step_back}
use Rattle.taken_back.specs.Calls.{Call, request, back, called}
use Rattle.calls_report.specs.CallsReport.{last_line}

-- ---- the number of a call is at most 31
abbrev at_most : ℕ → List (ℕ × Bool) → Bool
at_most k tests = every (λ p. leb p.0 k) tests

first_low : (k : ℕ) (tests : List (ℕ × Bool)) → T (at_most k tests) → first_refused tests ≤ k
first_low k [] t = omega arith
first_low k ((n, true) ∷ rest) t = first_low k rest (and_r (leb n k) (at_most k rest) t)
first_low k ((n, false) ∷ rest) t = leb→le n k (and_l (leb n k) (at_most k rest) t)

input_low : (r : Request) → input_number r ≤ 31
unfolding input_number
input_low r = first_low 31 ((31, desk_allowed r) ∷ (1, kind_allowed r) ∷ (2, side_allowed r) ∷ (3, number_allowed r) ∷ (4, amount_allowed r) ∷ []) tt

back_low : (h : History) (desk : ℕ) → number_back h desk ≤ 31
unfolding number_back
back_low h desk = first_low 31 ((31, within 1 2 desk) ∷ (10, within_bounds_history h) ∷ (27, ltb 0 h.count) ∷ []) tt

request_low : (h : History) (r : Request) → number_history h r ≤ 31
unfolding number_history
request_low h r =
    let s = short_step h.now.field r in
    let n = number_is h.now.field r in
    either_way (λ (k : ℕ). k ≤ 31) (eqb (input_number r) 0) _ (input_number r)
    (λ e. either_way (λ (k : ℕ). k ≤ 31) (within_bounds_history h) (number_of h.now.field r) 10 (λ w. omega (arith, s.number, n)) (λ w. omega arith))
    (λ e. input_low r)

-- ---- its answer
zeros_short : (n : ℕ) → n ≤ 31 → Short (number_and_zeros n)
unfolding number_and_zeros
zeros_short n h = record { number = h; zone = omega arith; fix = omega arith }

pub call_short : (h : History) (c : Call) → Short (called h c).answer
unfolding step_history step_back
call_short h (request r) =
    either_way (λ (s : SteppedHistory). Short s.answer) (eqb (number_history h r) 0)
    (record { answer = (step_of h.now.field r).answer; after = keeping h (with_index (step_of h.now.field r).field) })
    (record { answer = number_and_zeros (number_history h r); after = h })
    (λ e. short_step h.now.field r)
    (λ e. zeros_short (number_history h r) (request_low h r))
call_short h (back desk) =
    either_way (λ (s : SteppedHistory). Short s.answer) (eqb (number_back h desk) 0)
    (record { answer = number_and_zeros 0; after = field_given_back h })
    (record { answer = number_and_zeros (number_back h desk); after = h })
    (λ e. zeros_short 0 (omega arith))
    (λ e. zeros_short (number_back h desk) (back_low h desk))

-- ---- the last line, with counts of 64 bits
pub last_length : (h : History) → present_on h.now.field < 2 ^ 64 → h.count < 2 ^ 64 → length (last_line h) ≤ 46
unfolding last_line
last_length h p c =
    let l2 = line_length h.count [] 19 (omega arith) in
    let l1 = line_length (present_on h.now.field) (h.count ∷ []) 19 (omega arith) in
    omega arith

-- the count of a history that is a parameter
pub count_known : (h : History) {vs : List Val} → Is history.the_row h vs → h.count < 2 ^ 64
count_known h p = omega (arith, p.1.1.1.1.0)
