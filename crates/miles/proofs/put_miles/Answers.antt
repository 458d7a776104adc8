-- `miles::put_miles` meets its contract: a minus where the miles are below 0, and their size. Assumes nothing.
use mathlib.Core.Path.{subst⁻¹}
use Rattle.std.proofs.Common.{ℕ, List}
use Rattle.text.specs.Buffer.{Put}
use Rattle.text.proofs.Texts.{put_more}
use Rattle.miles.proofs.Decimals.{miles_below, miles_above}
use Rattle.miles.proofs.put_miles.Goals as goal

pub returns-then-miles : goal.returns-then-miles
returns-then-miles c =
    subst⁻¹ (λ (bytes : List ℕ). Put c.args.out.now c.args.at bytes c.put_fraction.new.out c.put_fraction.result)
    (miles_below c.args.miles c.if-miles.true c.in_4096ths.ensures)
    (put_more c.put_byte-next.ensures c.put_fraction.ensures)

pub returns : goal.returns
returns c =
    subst⁻¹ (λ (bytes : List ℕ). Put c.args.out.now c.args.at bytes c.put_fraction-2.new.out c.put_fraction-2.result)
    (miles_above c.args.miles c.if-miles.false c.in_4096ths-2.ensures) c.put_fraction-2.ensures
