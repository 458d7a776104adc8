-- Two desks (02, 2.10): what holds of everyone on a field, and a list of requests that one desk asks. Definitions only.
use Rattle.std.specs.Prelude.{◌≡◌, List, ℕ}
use Rattle.request.specs.declared.Request.{Request}
use Rattle.field.specs.declared.Legs.{Legs}
use Rattle.field.specs.Airspace.{empty_field}
use Rattle.field.specs.Lists.{Each}
use Rattle.rules.specs.declared.Answer.{Answer}
use Rattle.rules.specs.Play.{played}

-- every request of the list is the desk's, as those of a practice file are desk 1's
abbrev pub AllAskedBy : ℕ → List Request → Type 0
AllAskedBy desk rs = Each (λ r. r.desk ≡ desk) rs

-- no answer refuses by a desk: neither 26, another desk's aircraft, nor 31, no desk
pub record NoDeskRefuses (p : Request × Answer) : Type 0 where
  pub not_26 : p.1.number ≡ 26 → ⊥
  pub not_31 : p.1.number ≡ 31 → ⊥

-- where desk 1 asks alone, from an empty field, nobody is refused by a desk
abbrev pub OneDesk : Legs → List Request → Type 0
OneDesk legs rs = AllAskedBy 1 rs → Each NoDeskRefuses (played (empty_field legs) rs)
