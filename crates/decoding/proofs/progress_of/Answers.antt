-- `decoding::progress_of` meets its contract: all bits set, or miles. Assumes nothing.
use mathlib.Core.Path.{sym, ap, ◌∙◌}
use borrow.Author.Tests.{eq-eqb, ne_eqb}
use Rattle.leg.specs.declared.Progress.TheVariants.{Flying}
use Rattle.layout.specs.Read.{waiting}
use Rattle.field.proofs.TestLaws.{if_true, if_false}
use Rattle.decoding.proofs.progress_of.Goals as goal

pub returns-then-bits-eq18446744073709551615 : goal.returns-then-bits-eq18446744073709551615
returns-then-bits-eq18446744073709551615 c = sym (if_true _ _ (eq-eqb _ waiting c.if-bits-eq18446744073709551615.true))

pub returns : goal.returns
returns c = ap Flying c.miles_of.ensures ∙ sym (if_false _ _ (ne_eqb _ waiting c.if-bits-eq18446744073709551615.false))
