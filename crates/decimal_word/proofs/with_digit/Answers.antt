-- `decimal_word::with_digit` meets its contract, by its three tests. Assumes nothing.
use mathlib.Core.Path.{◌≡◌, ◌∙◌, subst}
use native.Mathlib.Omega.{arith}
use Prim.Native.Nat.{ℕ, ◌+◌, ◌-◌, ◌*◌, ◌<◌}
use Rattle.std.specs.Option.{SomeIff}
use Rattle.decimal_word.proofs.Said.{no_digit_byte, too_large, added}
use Rattle.decimal_word.proofs.with_digit.Goals as goal

pub returns-then-not-is_ascii_digit : goal.returns-then-not-is_ascii_digit
returns-then-not-is_ascii_digit c = no_digit_byte c.args.n c.args.byte c.if-not-is_ascii_digit.ensures.cases

pub returns-in_err-checked_mul : goal.returns-in_err-checked_mul
returns-in_err-checked_mul c =
    c.from_residual.ensures ∙ too_large c.args.n c.args.byte c.if-not-is_ascii_digit.ensures.cases (omega (arith, c.in_err-checked_mul.ensures))

pub returns : goal.returns
returns c =
    let sum : c.in_ok-checked_mul.field-0 + c.from.result ≡ c.args.n * 10 + (c.args.byte - 48) = omega (arith, c.in_ok-checked_mul.ensures) in
    added c.args.n c.args.byte c.checked_add.result c.if-not-is_ascii_digit.ensures.cases
    (subst (λ (k : ℕ). SomeIff c.checked_add.result (k < 65536) k) sum c.checked_add.ensures)
