-- `press_kept::press_kept` meets its contract: in each arm what is played by the proposal that the arm was told of. Assumes nothing.
use Rattle.std.proofs.Common.{sym, ap, ◌∙◌}
use Rattle.press.specs.declared.Proposal.TheVariants.{Play}
use Rattle.press_kept.specs.PressKept.{played_kept}
use Rattle.press_kept.proofs.PressingKept.{pressed_is}
use Rattle.press_kept.proofs.press_kept.Goals as goal

pub returns-in-Refused : goal.returns-in-Refused
returns-in-Refused c =
    pressed_is _ _ c.propose_kept-proposal.ensures (c.turned_away-stepped.ensures ∙ ap (played_kept c.args.h) (sym c.in-Refused.is))

pub returns-in-None : goal.returns-in-None
returns-in-None c =
    pressed_is _ _ c.propose_kept-proposal.ensures (c.turned_away-stepped-in-None.ensures ∙ ap (played_kept c.args.h) (sym c.in-None.is))

pub returns-in-Play : goal.returns-in-Play
returns-in-Play c =
    pressed_is _ (Play c.in-Play.r) (sym c.in-Play.is ∙ c.propose_kept-proposal.ensures) c.step_history-stepped.ensures
