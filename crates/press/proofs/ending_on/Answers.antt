-- `press::ending_on` meets its contract. Assumes nothing.
use mathlib.Core.Path.{sym}
use Rattle.field.proofs.TestParts.{is, is_not}
use Rattle.field.proofs.TestLaws.{if_true, if_false}
use Rattle.press.proofs.ending_on.Goals as goal

pub returns-then-present_on-eq0 : goal.returns-then-present_on-eq0
returns-then-present_on-eq0 c = sym (if_true _ _ (is c.present_on.ensures c.if-present_on-eq0.true))

pub returns : goal.returns
returns c = sym (if_false _ _ (is_not c.present_on.ensures c.if-present_on-eq0.false))
