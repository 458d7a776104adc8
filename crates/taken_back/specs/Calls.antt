-- Document 02, 2.13: calls, each a request or a step back, one after the other, and their history.
use Rattle.std.specs.Prelude.{cond, List, [], ◌∷◌, ◌++◌, ℕ, ◌-◌, eqb, ltb, length, take}
use Rattle.request.specs.declared.Request.{Request}
use Rattle.rules.specs.declared.Answer.{Answer}
use Rattle.history.specs.declared.History.{History}
use Rattle.history.specs.declared.SteppedHistory.{SteppedHistory}
use Rattle.history.specs.History.{step_history, step_back}

-- what a desk may call: a request, or a step back, which no kind of request is (02, 2.13)
pub data Call : Type 0 where
  request : Request → Call
  back : ℕ → Call

-- what a call answers and leaves
abbrev pub called : History → Call → SteppedHistory
called h (request r) = step_history h r
called h (back desk) = step_back h desk

-- a list of calls, each on what the one before returned: each with its answer, ..
abbrev pub played_calls : History → List Call → List (Call × Answer)
played_calls h [] = []
played_calls h (c ∷ cs) = (c, (called h c).answer) ∷ played_calls (called h c).after cs

-- .. and what the last returned
abbrev pub after_calls : History → List Call → History
after_calls h [] = h
after_calls h (c ∷ cs) = after_calls (called h c).after cs

-- what a call and its answer do to the requests before it: an accepted request goes behind them, and an accepted step back takes the last away
abbrev pub with_call : List Request → Call × Answer → List Request
with_call rs (request r, a) = cond (eqb a.number 0) (rs ++ (r ∷ [])) rs
with_call rs (back desk, a) = cond (eqb a.number 0) (take (length rs - 1) rs) rs

-- and what a list of calls and their answers does to them
abbrev pub with_calls : List Request → List (Call × Answer) → List Request
with_calls rs [] = rs
with_calls rs (p ∷ ps) = with_calls (with_call rs p) ps

-- the history of calls from a start: what is left of the accepted requests, in order, when the steps back have taken theirs away (02, 2.13)
abbrev pub history_of : History → List Call → List Request
history_of start cs = with_calls [] (played_calls start cs)

-- how many requests the history has had at most, where it has had `most` before these calls: more only after a call that makes it longer
abbrev pub longest_from : ℕ → List Request → List (Call × Answer) → ℕ
longest_from most rs [] = most
longest_from most rs (p ∷ ps) = let next = with_call rs p in longest_from (cond (ltb most (length next)) (length next) most) next ps

-- the length of the history of calls when it was longest
abbrev pub longest_of : History → List Call → ℕ
longest_of start cs = longest_from 0 [] (played_calls start cs)
