-- Document 02, 2.13: what holds after every list of requests and steps back from an empty field, and what one step back gives.
use Rattle.std.specs.Prelude.{◌≡◌, Bool, cond, not, List, map, ℕ, ◌+◌, ◌-◌, ◌≤◌, ◌<◌, T, eqb, ltb, length, get_or, take, drop}
use Rattle.limits.specs.Limits.{most_kept}
use Rattle.request.specs.declared.Request.{Request}
use Rattle.field.specs.declared.Field.{Field}
use Rattle.field.specs.Lists.{every}
use Rattle.finder.specs.declared.Indexed.{Indexed}
use Rattle.rules.specs.declared.Answer.{Answer}
use Rattle.rules.specs.Step.{number_and_zeros}
use Rattle.rules.specs.Play.{field_after, played, all_accepted}
use Rattle.indexed.specs.Indexed.{with_index}
use Rattle.demand.specs.Demand.{Demand3Of}
use Rattle.demand.specs.Exact.{WholeLegs, in_miles, ExactOf}
use Rattle.history.specs.declared.History.{History}
use Rattle.history.specs.History.{history_at_start, counted, step_history, step_back}
use Rattle.taken_back.specs.Calls.{Call, request, called, played_calls, after_calls, history_of, longest_of}

-- no call is answered with the number
abbrev pub never_answered : ℕ → List (Call × Answer) → Bool
never_answered number ps = every (λ p. not (eqb p.1.number number)) ps

-- the field after the first n requests of a list from the field f, with its index
abbrev pub field_after_first : Field → List Request → ℕ → Indexed
field_after_first f rs n = with_index (field_after f (take n rs))

-- a field with its kept ones as a history of requests from the field f leaves them
pub record Follows (f : Field) (h : History) (rs : List Request) : Type 0 where
  -- every request of the history is accepted on the field after those before it
  pub accepted : T (all_accepted (played f rs))
  -- the field is the field after the history, index included
  pub now : h.now ≡ with_index (field_after f rs)
  -- at most eight count, and no more than the history has requests; there are eight places
  pub few : h.count ≤ most_kept
  pub before : h.count ≤ length rs
  pub places : length h.kept ≡ most_kept
  -- those that count are the fields before its last requests, oldest first: whatever is read past the array
  pub kept : (i : ℕ) (past : Indexed) → i < h.count → get_or h.kept i past ≡ field_after_first f rs (length rs - h.count + i)

-- what holds after a list of calls from a start
pub record TakenBackOf (start : History) (cs : List Call) : Type 0 where
  pub follows : Follows start.now.field (after_calls start cs) (history_of start cs)
  -- as many count as the history has requests, less those over eight when it was longest: a field that was dropped stays so (02, 2.13)
  pub count : (after_calls start cs).count ≡ length (history_of start cs) - (longest_of start cs - most_kept)
  -- refusals 10 and 25 never come
  pub no_10 : T (never_answered 10 (played_calls start cs))
  pub no_25 : T (never_answered 25 (played_calls start cs))
  -- demand 3, with its counts over the history
  pub demand : Demand3Of (played start.now.field (history_of start cs)) (field_after start.now.field (history_of start cs))

-- that holds of every list of calls, from every history that calls may start from
abbrev pub TakenBack : Type 0
TakenBack = (start : History) → T (history_at_start start) → (cs : List Call) → TakenBackOf start cs

-- exactness, of the history of every list of calls from every such start whose legs are whole 64ths
abbrev pub TakenBackExactly : Type 0
TakenBackExactly =
    (w : WholeLegs) (start : History) → T (history_at_start start) → start.now.field.legs ≡ in_miles w
    → (cs : List Call) → ExactOf w (played start.now.field (history_of start cs)) (after_calls start cs).now.field

-- a request as a call, with its answer
abbrev pub as_call : Request × Answer → Call × Answer
as_call p = (request p.0, p.1)

-- a list of requests with no step back is answered as on the field alone, and leaves the same field, index included
pub record NoneTakenBackOf (start : History) (rs : List Request) : Type 0 where
  pub answers : played_calls start (map request rs) ≡ map as_call (played start.now.field rs)
  pub now : (after_calls start (map request rs)).now ≡ with_index (field_after start.now.field rs)

-- that holds of every list of requests, from every history that calls may start from
abbrev pub NoneTakenBack : Type 0
NoneTakenBack = (start : History) → T (history_at_start start) → (rs : List Request) → NoneTakenBackOf start rs

-- a refused call leaves its number and zeros, and everything as it was, the places past the count too
pub record NothingChanged (h : History) (c : Call) : Type 0 where
  pub same : (called h c).after ≡ h
  pub zeros : (called h c).answer ≡ number_and_zeros (called h c).answer.number

-- one step back by a desk after an accepted request, on any history
pub record GivenBack (h : History) (r : Request) (desk : ℕ) : Type 0 where
  -- it answers zeros
  pub answer : (step_back (step_history h r).after desk).answer ≡ number_and_zeros 0
  -- the field is the one before the request, index included
  pub now : (step_back (step_history h r).after desk).after.now ≡ h.now
  -- those that count are the ones that counted before the request; where eight did, the oldest of them is gone for good
  pub kept : counted (step_back (step_history h r).after desk).after ≡ cond (ltb h.count most_kept) (counted h) (drop 1 (counted h))
