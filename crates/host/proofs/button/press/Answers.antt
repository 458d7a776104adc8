-- `host::button::press` meets its contract: what a press does on the history that the bytes are read as. Assumes nothing.
use mathlib.Core.Path.{ap, ◌∙◌}
use Rattle.press_kept.specs.declared.PressedKept.{PressedKept}
use Rattle.replies.specs.Replies.{answer_numbers, request_numbers}
use Rattle.layout.specs.Written.{state_after}
use Rattle.host.proofs.CallsOnState.{pressed}
use Rattle.host.proofs.button.press.Goals as goal

pub returns : goal.returns
returns c =
    let state = c.args.state.now in
    let e = pressed state c.press_kept-p.ensures c.read_history.ensures in record { value = ap (λ (p : PressedKept). p.stepped.answer.number) e; request_after = c.request_numbers.ensures ∙ ap (λ (p : PressedKept). request_numbers p.proposal) e; answer_after = c.answer_numbers.ensures ∙ ap (λ (p : PressedKept). answer_numbers p.stepped.answer) e; state_after = c.store_after.ensures ∙ ap (λ (p : PressedKept). state_after state p.stepped.answer.number p.stepped.after) e }
