-- Why kept fields have a part in the claim (02, 2.13): with any one of these left out it is false. Definitions only.
use Rattle.std.specs.Prelude.{◌≡◌, List, ◌++◌, map, ℕ, T, drop}
use Rattle.field.specs.Lists.{Each}
use Rattle.finder.specs.declared.Entry.{Entry}
use Rattle.finder.specs.declared.Indexed.{Indexed}
use Rattle.renaming.specs.Renaming.{Renaming}
use Rattle.isolated.specs.Isolated.{renamed_others, KeepsAircraft}
use Rattle.history.specs.declared.History.{History}
use Rattle.history.specs.History.{counted, within_bounds_history}
use Rattle.taken_back.specs.Calls.{Call, played_calls}
use Rattle.isolated_back.specs.IsolatedBack.{renamed_indexed, renamed_history, renamed_other_call, calls_by_desk, KeepsCall, KeepsOwnBack, HistoryShaped}

-- the claim, with this asked of the new numbers and this made of the field and its kept ones
abbrev pub ClaimBack : (ℕ → (ℕ → ℕ) → History → List Call → Type 0) → (ℕ → (ℕ → ℕ) → History → History) → Type 0
ClaimBack Asked made =
    (h : History) → HistoryShaped h → T (within_bounds_history h) → (d : ℕ) (cs : List Call) (π : ℕ → ℕ) → Asked d π h cs
    → calls_by_desk d (played_calls (made d π h) (map (renamed_other_call d π) cs)) ≡ calls_by_desk d (played_calls h cs)

-- the field renamed, and this made of each kept one that counts
abbrev pub with_kept : (ℕ → (ℕ → ℕ) → Indexed → Indexed) → ℕ → (ℕ → ℕ) → History → History
with_kept made d π h = record { now = renamed_indexed d π h.now; kept = map (made d π) (counted h) ++ drop h.count h.kept; count = h.count }

-- kept fields stay as they are
abbrev pub as_it_is : ℕ → (ℕ → ℕ) → Indexed → Indexed
as_it_is d π x = x

-- the index of a kept field has the new numbers where the old ones stood, and is not put in order again
abbrev pub not_in_order : ℕ → (ℕ → ℕ) → Indexed → Indexed
not_in_order d π x =
    record { field = renamed_others d π x.field; index = record { entries = map (λ (e : Entry). record { number = π e.number; zone = e.zone; place = e.place }) x.index.entries } }

-- nothing is asked of the numbers that this desk's aircraft have on kept fields
pub record OnlyOnField (d : ℕ) (π : ℕ → ℕ) (h : History) (cs : List Call) : Type 0 where
  pub renaming : Renaming π
  pub calls : Each (KeepsCall d π) cs
  pub aircraft : KeepsAircraft d π h.now.field

-- ---- none of these holds
pub record KeptNeeded : Type 0 where
  pub kept_too : ClaimBack KeepsOwnBack (with_kept as_it_is) → ⊥
  pub kept_in_order : ClaimBack KeepsOwnBack (with_kept not_in_order) → ⊥
  pub kept_own_too : ClaimBack OnlyOnField renamed_history → ⊥
