-- The numbers and gaps that a host's calls put into the memory that they are lent (include/baguymo.h). Definitions only.
use Rattle.std.specs.Prelude.{List, [], ◌∷◌, ℕ, Float}
use Rattle.rules.specs.declared.Answer.{Answer}
use Rattle.press.specs.declared.Proposal.{Proposal}
use Rattle.press.specs.declared.Proposal.TheVariants.{Refused, None, Play}
use Rattle.press.specs.declared.Ending.{Ending}
use Rattle.press.specs.declared.Ending.TheVariants as ending
use Rattle.gaps.specs.declared.Spacing.{Spacing}
use Rattle.gaps.specs.declared.Spacing.TheVariants.{Close, Clear}
use Rattle.gaps.specs.declared.Pair.{Pair}
use Rattle.gaps.specs.declared.Spacings.{Spacings}
use Rattle.dialect.specs.declared.ListEntry.{ListEntry}
use Rattle.dialect.specs.declared.Listing.{Listing}

-- ---- an answer

-- the six numbers of an answer, in the order of document 01's answer
abbrev pub answer_numbers : Answer → List ℕ
answer_numbers a = a.number ∷ a.aircraft ∷ a.zone ∷ a.fix ∷ a.leader ∷ a.along ∷ []

-- ---- the button (02, 2.6)

-- the five numbers of the request that a press plays: desk, kind, side, number and amount; zeros where it plays none
abbrev pub request_numbers : Proposal → List ℕ
request_numbers Refused = 0 ∷ 0 ∷ 0 ∷ 0 ∷ 0 ∷ []
request_numbers None = 0 ∷ 0 ∷ 0 ∷ 0 ∷ 0 ∷ []
request_numbers (Play r) = r.desk ∷ r.kind ∷ r.side ∷ r.number ∷ r.amount ∷ []

-- 1 where the presses are spent and somebody is still on the field, else 0
abbrev pub spent_mark : Ending → ℕ
spent_mark ending.Refused = 0
spent_mark ending.None = 0
spent_mark ending.Spent = 1

-- how many requests were played, and whether the presses are spent
abbrev pub held_numbers : ℕ → Ending → List ℕ
held_numbers played e = played ∷ spent_mark e ∷ []

-- ---- the spacing (02, 2.8)

-- 1 where a pair is close, else 0
abbrev pub close_mark : Spacing → ℕ
close_mark (Close gap) = 1
close_mark (Clear gap) = 0

-- the gap of a pair in miles
abbrev pub gap_miles : Spacing → Float
gap_miles (Close gap) = gap
gap_miles (Clear gap) = gap

-- of each pair the leader, the follower and whether it is close
abbrev pub pair_numbers : List Pair → List ℕ
pair_numbers [] = []
pair_numbers (p ∷ ps) = p.leader ∷ p.follower ∷ close_mark p.spacing ∷ pair_numbers ps

-- of each pair the gap
abbrev pub pair_gaps : List Pair → List Float
pair_gaps [] = []
pair_gaps (p ∷ ps) = gap_miles p.spacing ∷ pair_gaps ps

-- how many pairs, and their numbers
abbrev pub spacing_numbers : Spacings → List ℕ
spacing_numbers s = s.count ∷ pair_numbers s.pairs

-- ---- the classroom dialect (02, 2.12)

-- of each entry number, location, place and fix
abbrev pub entry_numbers : List ListEntry → List ℕ
entry_numbers [] = []
entry_numbers (e ∷ es) = e.number ∷ e.location ∷ e.place ∷ e.fix ∷ entry_numbers es

-- how many entries, and their numbers
abbrev pub listing_numbers : Listing → List ℕ
listing_numbers l = l.count ∷ entry_numbers l.entries
