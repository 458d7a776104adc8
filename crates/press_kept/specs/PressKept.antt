-- The button (02, 2.6) on a field with its kept ones (02, 2.13): each request that it plays is asked as any other, so the field before it is kept.
-- Definitions only.
use Rattle.std.specs.Prelude.{Bool, cond, List, [], ◌∷◌, ℕ, zero, suc, length}
use Rattle.limits.specs.Limits.{most_presses}
use Rattle.request.specs.Input.{first_refused}
use Rattle.request.specs.declared.Request.{Request}
use Rattle.field.specs.declared.Field.{Field}
use Rattle.rules.specs.Step.{number_and_zeros}
use Rattle.history.specs.declared.History.{History}
use Rattle.history.specs.declared.SteppedHistory.{SteppedHistory}
use Rattle.history.specs.History.{within_bounds_history, step_history}
use Rattle.press.specs.declared.Proposal.{Proposal}
use Rattle.press.specs.declared.Proposal.TheVariants.{Refused, None, Play}
use Rattle.press.specs.declared.Ending.{Ending}
use Rattle.press.specs.declared.Ending.TheVariants as ending
use Rattle.press.specs.Press.{proposal_of}
use Rattle.press.specs.HeldDown.{then_pressed, ending_on}
use Rattle.press_kept.specs.declared.PressedKept.{PressedKept}
use Rattle.press_kept.specs.declared.HeldKept.{HeldKept}

-- ---- one press

-- what is proposed: that of the field; 10 is answered before anything is proposed, also where a kept field breaks a bound
unfoldable pub proposal_kept : History → Proposal
proposal_kept h = cond (within_bounds_history h) (proposal_of h.now.field) Refused

-- what a press does by its proposal: a refusal answers 10 and zeros, one that says none answers zeros, and both leave everything as it is; any other is
-- the step of the request that it proposes
abbrev pub played_kept : History → Proposal → SteppedHistory
played_kept h Refused = record { answer = number_and_zeros 10; after = h }
played_kept h None = record { answer = number_and_zeros 0; after = h }
played_kept h (Play r) = step_history h r

-- one press: the proposal, and what is played of it
unfoldable pub press_kept : History → PressedKept
press_kept h = record { proposal = proposal_kept h; stepped = played_kept h (proposal_kept h) }

-- ---- the button held down

-- the requests of the presses, one after the other, n of them at the most
unfoldable pub presses_kept : ℕ → History → List Request
presses_kept zero h = []
presses_kept (suc n) h = then_pressed (proposal_kept h) (λ r. presses_kept n (step_history h r).after)

-- a list of requests asked one after the other: what the last returned
unfoldable pub after_asked : History → List Request → History
after_asked h [] = h
after_asked h (r ∷ rs) = after_asked (step_history h r).after rs

-- the number of the button held down: 10 where a bound is broken, also of a kept field, else 0
abbrev pub number_held_kept : History → ℕ
number_held_kept h = first_refused ((10, within_bounds_history h) ∷ [])

-- how it ends on a field: refused where a bound was broken at the start, else none if nobody is on the field, else spent
abbrev pub ending_kept : Bool → Field → Ending
ending_kept within f = cond within (ending_on f) ending.Refused

-- how it ends, how many requests were played, and the field with its kept ones; one that breaks a bound is refused and stays as it is
unfoldable pub held_kept : History → HeldKept
held_kept h =
    let rs = presses_kept most_presses h in
    record {
      ending = ending_kept (within_bounds_history h) (after_asked h rs).now.field;
      played = length rs;
      after = after_asked h rs;
    }
