-- `text::put_number` meets its contract: the digits of n / 10, and one more. Assumes nothing.
use mathlib.Core.Path.{subst⁻¹}
use mathlib.Core.List.{List}
use Prim.Native.Nat.{ℕ}
use Rattle.text.specs.Buffer.{Put}
use Rattle.text.proofs.Texts.{decimal_one, decimal_more, put_more}
use Rattle.text.proofs.+put_number.Goals as goal

pub returns-then-n-lt10 : goal.returns-then-n-lt10
returns-then-n-lt10 t c =
    subst⁻¹ (λ (bytes : List ℕ). Put c.args.out.now c.args.at bytes c.put_byte.new.out c.put_byte.result) (decimal_one c.args.n c.if-n-lt10.true) c.put_byte.ensures

pub returns : goal.returns
returns t c =
    subst⁻¹ (λ (bytes : List ℕ). Put c.args.out.now c.args.at bytes c.put_byte-2.new.out c.put_byte-2.result)
    (decimal_more c.args.n c.if-n-lt10.false) (put_more c.put_number-next.ensures c.put_byte-2.ensures)
