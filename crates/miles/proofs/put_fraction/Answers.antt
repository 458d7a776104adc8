-- `miles::put_fraction` meets its contract: the whole miles, and where a part is left the point and its digits. Assumes nothing.
use mathlib.Core.Path.{subst⁻¹}
use Rattle.std.proofs.Common.{ℕ, List}
use Rattle.text.specs.Buffer.{Put}
use Rattle.text.proofs.Texts.{put_more}
use Rattle.miles.proofs.Decimals.{fraction_whole, fraction_part}
use Rattle.miles.proofs.put_fraction.Goals as goal

pub returns-then-part-eq0 : goal.returns-then-part-eq0
returns-then-part-eq0 c =
    subst⁻¹ (λ (bytes : List ℕ). Put c.args.out.now c.args.at bytes c.put_number-next.new.out c.put_number-next.result) (fraction_whole c.args.n c.if-part-eq0.true) c.put_number-next.ensures

pub returns : goal.returns
returns c =
    subst⁻¹ (λ (bytes : List ℕ). Put c.args.out.now c.args.at bytes c.put_decimals.new.out c.put_decimals.result) (fraction_part c.args.n c.if-part-eq0.false)
    (put_more c.put_number-next.ensures (put_more c.put_byte-after.ensures c.put_decimals.ensures))
