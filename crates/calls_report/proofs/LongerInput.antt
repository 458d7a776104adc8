-- An input that is longer than any that plays: one byte more than the longest is enough to read. Assumes nothing.
use mathlib.Core.Path.{◌≡◌, refl, sym, ap, ◌∙◌}
use mathlib.Core.Bool.{Bool, true, false, cond, false≢true}
use mathlib.Core.List.{List, [], ◌∷◌}
use Prim.Native.Nat.{ℕ, ◌/◌, ◌%◌, ◌<◌}
use native.Mathlib.Omega.{arith}
use lib.Dec.{eqb, leb}
use lib.ListN.{length, take}
use lib.Seq.{length-take-le}
use borrow.Author.Tests.{le-leb, leb-true, eqb-true}
use Rattle.limits.specs.Limits.{most_requests}
use Rattle.request.specs.Input.{first_refused}
use Rattle.practice.specs.declared.FileLegs.{FileLegs}
use Rattle.practice.specs.File.{legs_of, legs_allowed}
use Rattle.authored.specs.Authored.{refused_line}
use Rattle.authored.proofs.PrintedRead.{legs_part}
use Rattle.calls_report.specs.CallsReport.{call_bytes, desks_number, desks_of}
use Rattle.calls_report.proofs.CallLines.{printed_refused}

-- where the legs are there, and the last two tests do not both hold
refused_over : (long legs eights few : Bool) → long ≡ true → (eights ≡ true → few ≡ true → ⊥) → first_refused ((7, long) ∷ (7, legs) ∷ (5, eights) ∷ (5, few) ∷ []) ≡ cond legs 5 7
refused_over false legs eights few l n = absurd (false≢true l)
refused_over true false eights few l n = refl
refused_over true true false few l n = refl
refused_over true true true false l n = refl
refused_over true true true true l n = absurd (n refl refl)

number_over : (input : List ℕ) → 32776 < length input → desks_number input ≡ cond (legs_allowed (legs_of input)) 5 7
unfolding desks_number
number_over input h =
    refused_over (leb 8 (length input)) (legs_allowed (legs_of input)) (eqb (call_bytes input % 8) 0) (leb (call_bytes input / 8) most_requests) (le-leb 8 (length input) (omega arith))
    (λ e f. let z = eqb-true (call_bytes input % 8) 0 e in let most = leb-true (call_bytes input / 8) most_requests f in omega arith)

over_printed : (input : List ℕ) → 32776 < length input → desks_of input ≡ refused_line (cond (legs_allowed (legs_of input)) 5 7)
over_printed input h =
    let n = number_over input h in
    sym (printed_refused input (λ z. not_zero (legs_allowed (legs_of input)) (sym n ∙ z))) ∙ ap refused_line n
  where
    not_zero : (t : Bool) → ◌≡◌ {A = ℕ} (cond t 5 7) 0 → ⊥
    not_zero true e = omega arith
    not_zero false e = omega arith

pub desks_longer_input : (input : List ℕ) → 32776 < length input → desks_of (take 32777 input) ≡ desks_of input
desks_longer_input input h =
    let l = length-take-le 32777 input (omega arith) in
    over_printed (take 32777 input) (omega arith)
    ∙ ap (λ (legs : FileLegs). refused_line (cond (legs_allowed legs) 5 7)) (legs_part 32777 input (omega arith))
    ∙ sym (over_printed input h)
