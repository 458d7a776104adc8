-- What holds of the button (02, 2.6): of a press on any field within the bounds, of the button held down, and of a field on which it ends spent.
use Rattle.std.specs.Prelude.{◌≡◌, cond, List, [], ◌∷◌, ℕ, suc, ◌≤◌, T, ltb}
use Rattle.limits.specs.Limits.{most_moves, most_ticks, most_presses}
use Rattle.request.specs.Input.{is_tick}
use Rattle.request.specs.declared.Request.{Request}
use Rattle.field.specs.declared.Field.{Field}
use Rattle.questions.specs.Counts.{present_on}
use Rattle.bounds.specs.Bounds.{within_bounds}
use Rattle.rules.specs.Step.{step_of}
use Rattle.rules.specs.Start.{empty_start}
use Rattle.rules.specs.Play.{field_after, played, moves}
use Rattle.demand.specs.Demand.{moves_on}
use Rattle.press.specs.declared.Proposal.TheVariants.{None, Play}
use Rattle.press.specs.declared.Ending.TheVariants as ending
use Rattle.press.specs.Press.{long_tick, proposal_of, press_of}
use Rattle.press.specs.HeldDown.{held_requests, held_of}

-- a press on a field within the bounds
pub record PressedOn (f : Field) : Type 0 where
  -- it says none where nobody is present, and nowhere else
  pub none_then_nobody : proposal_of f ≡ None → present_on f ≡ 0
  pub nobody_then_none : present_on f ≡ 0 → proposal_of f ≡ None
  -- a request that it proposes is accepted, and the press is its step
  pub accepted : (r : Request) → proposal_of f ≡ Play r → (step_of f r).answer.number ≡ 0
  pub is_step : (r : Request) → proposal_of f ≡ Play r → (press_of f).stepped ≡ step_of f r
  -- it ticks only where no request of kinds 3 to 8 and 11 is accepted
  pub no_move : proposal_of f ≡ Play long_tick → (r : Request) → T (moves_on r.kind) → (step_of f r).answer.number ≡ 0 → ⊥

-- how many ticks a list of requests begins with
abbrev pub leading_ticks : List Request → ℕ
leading_ticks [] = 0
leading_ticks (r ∷ rs) = cond (is_tick r.kind) (suc (leading_ticks rs)) 0

-- the most ticks that stand in a row in it
abbrev pub ticks_in_a_row : List Request → ℕ
ticks_in_a_row [] = 0
ticks_in_a_row (r ∷ rs) = cond (ltb (ticks_in_a_row rs) (leading_ticks (r ∷ rs))) (leading_ticks (r ∷ rs)) (ticks_in_a_row rs)

-- held down, the button empties the field, and says none, within its bound
pub record EmptiedOn (f : Field) : Type 0 where
  -- 'none' is said, and nobody is left: as many requests as it may play are enough
  pub ending : (held_of f).ending ≡ ending.None
  pub nobody : present_on (held_of f).field ≡ 0
  -- it plays no more than that, by its definition
  pub few : (held_of f).played ≤ most_presses
  -- its moves are as few as those of any list without an entry or a miss
  pub few_moves : moves (played f (held_requests f)) ≤ most_moves
  -- and each of them comes after so many ticks at the most (02, 2.6 and 2.7): no more stand in a row
  pub few_ticks : ticks_in_a_row (held_requests f) ≤ most_ticks

-- that is so after every list of requests, from every empty field that a list may start from
abbrev pub Emptied : Type 0
Emptied = (f : Field) → T (empty_start f) → (rs : List Request) → EmptiedOn (field_after f rs)

-- held down on a field within the bounds that no list of requests reaches, the button may end spent, after as many requests as its bound:
-- so it does on `stuck` of `rules`
pub record SpentOn (f : Field) : Type 0 where
  pub within_bounds_lem : T (within_bounds f)
  pub ending : (held_of f).ending ≡ ending.Spent
  pub all_presses : (held_of f).played ≡ most_presses
