-- `questions::counts::counted_in` meets its contract: each arm returns what the definition gives where the test is as the arm found it. Assumes nothing.
use Rattle.std.proofs.Common.{◌∙◌, sym, ap, length}
use Rattle.field.specs.Airspace.{queue_length}
use Rattle.field.proofs.TestParts.{cond_then}
use Rattle.questions.proofs.counts.counted_in.Goals as goal

pub returns-then-is_in_area : goal.returns-then-is_in_area
unfolding queue_length
returns-then-is_in_area c = sym (cond_then _ (sym c.is_in_area.ensures ∙ c.if-is_in_area.true) (ap length (sym c.queue.ensures)))
