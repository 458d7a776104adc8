-- Why each condition of the claim is asked (02, 2.10): with any one of them left out the claim is false. Definitions only.
use Rattle.std.specs.Prelude.{◌≡◌, cond, List, map, ℕ, T, eqb, length}
use Rattle.request.specs.declared.Request.{Request}
use Rattle.field.specs.declared.Field.{Field}
use Rattle.field.specs.Lists.{Each}
use Rattle.questions.specs.Find.{leader_of}
use Rattle.bounds.specs.Bounds.{within_bounds}
use Rattle.finder.specs.declared.Indexed.{Indexed}
use Rattle.finder.specs.Finder.{within_bounds_indexed}
use Rattle.rules.specs.declared.Answer.{Answer}
use Rattle.rules.specs.Play.{field_after, played, of_desk}
use Rattle.renaming.specs.Renaming.{Renaming}
use Rattle.indexed.specs.Indexed.{played_indexed}
use Rattle.isolated.specs.Isolated.{renamed_others, renamed_other_request, renamed_other_requests, KeepsRequests, KeepsAircraft, KeepsOwn}

-- ---- something less is asked of the new numbers

-- the claim, with this asked of the new numbers
abbrev pub ClaimWhere : (ℕ → (ℕ → ℕ) → Field → List Request → Type 0) → Type 0
ClaimWhere Asked =
    (f : Field) → length f.zones ≡ 13 → T (within_bounds f) → (d : ℕ) (rs : List Request) (π : ℕ → ℕ) → Asked d π f rs
    → of_desk d (played (renamed_others d π f) (renamed_other_requests d π rs)) ≡ of_desk d (played f rs)

-- of the numbers that the desk names only those in accepted requests stay
pub record OnlyAccepted (d : ℕ) (π : ℕ → ℕ) (f : Field) (rs : List Request) : Type 0 where
  pub renaming : Renaming π
  pub accepted : Each (λ (p : Request × Answer). p.0.desk ≡ d → p.1.number ≡ 0 → π p.0.number ≡ p.0.number) (played f rs)
  pub aircraft : KeepsAircraft d π f

-- the numbers of the desk's aircraft on the field need not stay
pub record OnlyNamed (d : ℕ) (π : ℕ → ℕ) (f : Field) (rs : List Request) : Type 0 where
  pub renaming : Renaming π
  pub requests : KeepsRequests d π rs

-- two numbers may become one
pub record NotApart (d : ℕ) (π : ℕ → ℕ) (f : Field) (rs : List Request) : Type 0 where
  pub zero : π 0 ≡ 0
  pub requests : KeepsRequests d π rs
  pub aircraft : KeepsAircraft d π f

-- 0 may become another number
pub record ZeroToo (d : ℕ) (π : ℕ → ℕ) (f : Field) (rs : List Request) : Type 0 where
  pub apart : (m n : ℕ) → π m ≡ π n → m ≡ n
  pub requests : KeepsRequests d π rs
  pub aircraft : KeepsAircraft d π f

-- ---- something more is claimed

-- the other desk's requests that are refused keep their numbers
abbrev pub accepted_renamed : ℕ → (ℕ → ℕ) → Field → List Request → List Request
accepted_renamed d π f rs = map (λ (p : Request × Answer). cond (eqb p.1.number 0) (renamed_other_request d π p.0) p.0) (played f rs)

-- the claim, with that list
abbrev pub RefusedStay : Type 0
RefusedStay =
    (f : Field) → length f.zones ≡ 13 → T (within_bounds f) → (d : ℕ) (rs : List Request) (π : ℕ → ℕ) → KeepsOwn d π f rs
    → of_desk d (played (renamed_others d π f) (accepted_renamed d π f rs)) ≡ of_desk d (played f rs)

-- more than what answers show: `leader_of`, who is ahead in the sequence, stays the same for every number that stays, also where the leader is the other desk's
abbrev pub LeaderShown : Type 0
LeaderShown =
    (f : Field) → length f.zones ≡ 13 → T (within_bounds f) → (d : ℕ) (rs : List Request) (π : ℕ → ℕ) → KeepsOwn d π f rs
    → (n : ℕ) → π n ≡ n
    → leader_of (field_after (renamed_others d π f) (renamed_other_requests d π rs)).sequence n ≡ leader_of (field_after f rs).sequence n

-- the index beside the field stays as it is (02, 2.9)
abbrev pub IndexStays : Type 0
IndexStays =
    (x : Indexed) → length x.field.zones ≡ 13 → T (within_bounds_indexed x) → (d : ℕ) (rs : List Request) (π : ℕ → ℕ) → KeepsOwn d π x.field rs
    → of_desk d (played_indexed (record { field = renamed_others d π x.field; index = x.index }) (renamed_other_requests d π rs)) ≡ of_desk d (played_indexed x rs)

-- ---- none of these holds
pub record EachNeeded : Type 0 where
  pub refused_too : ClaimWhere OnlyAccepted → ⊥
  pub aircraft_too : ClaimWhere OnlyNamed → ⊥
  pub one_for_one : ClaimWhere NotApart → ⊥
  pub zero_stays : ClaimWhere ZeroToo → ⊥
  pub others_refused_too : RefusedStay → ⊥
  pub leader_hidden : LeaderShown → ⊥
  pub index_in_order : IndexStays → ⊥
