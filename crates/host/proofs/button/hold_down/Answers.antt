-- `host::button::hold_down` meets its contract: what the button reports on the history that the bytes are read as. Assumes nothing.
use mathlib.Core.Path.{ap, ◌∙◌}
use Rattle.press_kept.specs.declared.HeldKept.{HeldKept}
use Rattle.replies.specs.Replies.{held_numbers}
use Rattle.host.proofs.CallsOnState.{held, after_held}
use Rattle.press.specs.HeldDown.{ending_number}
use Rattle.host.proofs.button.hold_down.Goals as goal

pub returns : goal.returns
returns c =
    let state = c.args.state.now in
    let e = held state c.hold_kept-h.ensures.value c.read_history.ensures in record { value = c.end_number-number.ensures ∙ ap (λ (h : HeldKept). ending_number h.ending) e; report_after = c.held_numbers.ensures ∙ ap (λ (h : HeldKept). held_numbers h.played h.ending) e; state_after = c.store_after.ensures ∙ after_held state c.end_number-number.ensures e }
