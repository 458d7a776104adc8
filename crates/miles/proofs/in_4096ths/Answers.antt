-- `miles::in_4096ths` meets its contract: each way returns what the definition picks where the two tests are as it found them. Assumes nothing.
use Rattle.std.proofs.Common.{◌≡◌, Bool, cond, ◌&&◌, T, sym, refl, ◌∙◌, subst}
use lib.Ieee.{Float, binary64, mul, neg, lt, to_unsigned, of_bits, of_int}
use Rattle.miles.specs.Miles.{in4096ths}
use Rattle.miles.proofs.in_4096ths.Goals.{else-n-via-then-n+else-n-2, else-n-via-else-n}
use Rattle.miles.proofs.in_4096ths.Goals as goal

-- 4096 times the miles, with 4096.0 by its bit pattern
abbrev times : Float → Float
times miles = mul binary64 miles (of_bits binary64 0x40B0_0000_0000_0000)

-- `in4096ths` by what the tests gave, the numbers by their bit patterns
known : (miles : Float) {a b : Bool} → lt (neg (of_bits binary64 0x3FF0_0000_0000_0000)) (times miles) ≡ a → lt (times miles) (of_bits binary64 0x43F0_0000_0000_0000) ≡ b
    → in4096ths miles ≡ cond (a && b) (to_unsigned 64 (times miles)) 0
unfolding in4096ths of_bits of_int
known miles e f = λ i. cond (e i && f i) (to_unsigned 64 (times miles)) 0

pub returns-then-n-2 : goal.returns-then-n-2
returns-then-n-2 c = c.truncating_f64_to_u64.ensures ∙ sym (known c.args.miles c.if-n.true c.if-n-2.true)

pub returns : goal.returns
returns c =
    elim c.else-n.branch [
      | else-n-via-then-n+else-n-2 w ↦ sym (known c.args.miles w.if-n.true w.if-n-2.false)
      | else-n-via-else-n w ↦ sym (known c.args.miles w.if-n.false refl)
    ]

pub truncating_f64_to_u64-requires-clause-lower_bound : goal.truncating_f64_to_u64-requires-clause-lower_bound
unfolding of_bits neg
truncating_f64_to_u64-requires-clause-lower_bound c = subst T (sym c.if-n.true) tt

pub truncating_f64_to_u64-requires-clause-upper_bound : goal.truncating_f64_to_u64-requires-clause-upper_bound
unfolding of_bits neg
truncating_f64_to_u64-requires-clause-upper_bound c = subst T (sym c.if-n-2.true) tt
