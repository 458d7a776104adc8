-- Two desks with steps back (02, 2.10 and 2.13): the numbers of the other desk's aircraft renamed, on kept fields too, and the claim that this changes no
-- answer to this desk. Definitions only.
use Rattle.std.specs.Prelude.{◌≡◌, cond, List, [], ◌∷◌, ◌++◌, map, ℕ, T, eqb, length, drop}
use Rattle.limits.specs.Limits.{most_kept}
use Rattle.field.specs.Lists.{Each}
use Rattle.finder.specs.declared.Indexed.{Indexed}
use Rattle.rules.specs.declared.Answer.{Answer}
use Rattle.renaming.specs.Renaming.{Renaming}
use Rattle.indexed.specs.Indexed.{with_index}
use Rattle.isolated.specs.Isolated.{renamed_others, renamed_other_request, KeepsRequest, KeepsAircraft}
use Rattle.history.specs.declared.History.{History}
use Rattle.history.specs.History.{counted, within_bounds_history}
use Rattle.taken_back.specs.Calls.{Call, request, back, played_calls}

-- ---- the other desk's numbers renamed; this desk is d

-- a field with its index: the other desk's aircraft and the sequence are renamed, and the index is the renamed field's own (02, 2.10)
abbrev pub renamed_indexed : ℕ → (ℕ → ℕ) → Indexed → Indexed
renamed_indexed d π x = with_index (renamed_others d π x.field)

-- the field and each kept one that counts (02, 2.13); a place past the count keeps what it has
abbrev pub renamed_history : ℕ → (ℕ → ℕ) → History → History
renamed_history d π h =
    record { now = renamed_indexed d π h.now; kept = map (renamed_indexed d π) (counted h) ++ drop h.count h.kept; count = h.count }

-- a request of the other desk names the new number; a step back names none
abbrev pub renamed_other_call : ℕ → (ℕ → ℕ) → Call → Call
renamed_other_call d π (request r) = request (renamed_other_request d π r)
renamed_other_call d π (back desk) = back desk

-- ---- this desk's calls

-- the desk of a call: that of the request, or the one that steps back
abbrev pub call_desk : Call → ℕ
call_desk (request r) = r.desk
call_desk (back desk) = desk

-- the calls of one desk with their answers
abbrev pub calls_by_desk : ℕ → List (Call × Answer) → List (Call × Answer)
calls_by_desk desk [] = []
calls_by_desk desk (p ∷ ps) = cond (eqb (call_desk p.0) desk) (p ∷ calls_by_desk desk ps) (calls_by_desk desk ps)

-- ---- the numbers that stay

-- the number that a request of desk d names
abbrev pub KeepsCall : ℕ → (ℕ → ℕ) → Call → Type 0
KeepsCall d π (request r) = KeepsRequest d π r
KeepsCall d π (back desk) = Unit

-- what is asked of the new numbers
pub record KeepsOwnBack (d : ℕ) (π : ℕ → ℕ) (h : History) (cs : List Call) : Type 0 where
  -- no two numbers become one, and 0 stays 0
  pub renaming : Renaming π
  -- each number that desk d names stays, in refused requests too
  pub calls : Each (KeepsCall d π) cs
  -- each number that its aircraft carry on the field stays, ..
  pub aircraft : KeepsAircraft d π h.now.field
  -- .. and so does each that they carry on a kept field that counts (02, 2.13)
  pub kept : Each (λ (x : Indexed). KeepsAircraft d π x.field) (counted h)

-- ---- the claim

-- eight places, and thirteen zones on the field and on each kept one that counts, as every history of the program has them
pub record HistoryShaped (h : History) : Type 0 where
  pub places : length h.kept ≡ most_kept
  pub zones : length h.now.field.zones ≡ 13
  pub kept_zones : Each (λ (x : Indexed). length x.field.zones ≡ 13) (counted h)

-- From any field with its kept ones within the bounds, for any desk, any list of requests and steps back of both desks and any new numbers that keep this
-- desk's own: this desk's requests and steps back with their answers are the same, one by one, when the other desk's numbers are renamed on the field, on
-- the kept fields and in the list (02, 2.10 and 2.13).
abbrev pub IsolationBack : Type 0
IsolationBack =
    (h : History) → HistoryShaped h → T (within_bounds_history h) → (d : ℕ) (cs : List Call) (π : ℕ → ℕ) → KeepsOwnBack d π h cs
    → calls_by_desk d (played_calls (renamed_history d π h) (map (renamed_other_call d π) cs)) ≡ calls_by_desk d (played_calls h cs)
