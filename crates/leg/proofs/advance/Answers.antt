-- `leg::advance` meets its contract, by those of `up_to` and `beyond`. Assumes nothing.
use mathlib.Core.Path.{◌≡◌}
use Prim.Native.Nat.{ℕ}
use lib.IntN.{pos}
use lib.Ieee.{Float, binary64, add, mul, div, of_int, of_bits}
use Rattle.leg.specs.Progress.{up_to, beyond, advanced, past_end, advancing}
use Rattle.leg.specs.declared.Advanced.{Advanced}
use Rattle.leg.proofs.advance.Goals as goal

-- the sum as MIR has it, with 64.0 by its bit pattern
abbrev written : Float → ℕ → ℕ → Float
written miles speed amount =
    add binary64 miles
    (mul binary64 (div binary64 (of_int binary64 (pos speed)) (of_bits binary64 0x4050_0000_0000_0000)) (div binary64 (of_int binary64 (pos amount)) (of_bits binary64 0x4050_0000_0000_0000)))

as_written : (miles : Float) (speed amount : ℕ) (leg : Float) {m p : Float} → m ≡ up_to leg (written miles speed amount) → p ≡ beyond leg (written miles speed amount)
    → ◌≡◌ {A = Advanced} (record { miles = m; past = p }) (advancing miles speed amount leg)
unfolding advancing advanced past_end of_bits of_int
as_written miles speed amount leg e f = λ i. record { miles = e i; past = f i }

pub returns : goal.returns
returns c =
    let a = c.args in
    as_written a.miles a.speed a.amount a.leg c.up_to.ensures c.beyond.ensures
