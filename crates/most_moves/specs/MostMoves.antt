-- Twenty-seven moves (02, 2.14): on a field that requests reach from the empty one, there are no more from one entry or miss to the next, and no smaller
-- number would do.
use Rattle.std.specs.Prelude.{◌≡◌, List, ℕ, ◌≤◌, T}
use Rattle.limits.specs.Limits.{most_moves}
use Rattle.request.specs.declared.Request.{Request}
use Rattle.field.specs.declared.Legs.{Legs}
use Rattle.field.specs.declared.Field.{Field}
use Rattle.field.specs.Airspace.{empty_field}
use Rattle.fits.specs.Fits.{legal_legs}
use Rattle.rules.specs.Start.{empty_start}
use Rattle.rules.specs.Play.{field_after, played, accepted, adds_moves, moves}
use Rattle.demand.specs.Demand.{AtMostMoves}
use Rattle.most_moves.specs.Session.{session_legs, session_before, session_moves}

-- n is such a number on every field that requests reach from f
abbrev pub AtMostFrom : ℕ → Field → Type 0
AtMostFrom n f = (rs : List Request) → AtMostMoves n (field_after f rs)

-- the requests rs lead from the empty field with these legs, which are legal, to one from which `more` goes on with exactly n moves, and without an accepted
-- entry or miss
pub record Uses (legs : Legs) (rs more : List Request) (n : ℕ) : Type 0 where
  pub legal : T (legal_legs legs)
  pub none_added : accepted adds_moves (played (field_after (empty_field legs) rs) more) ≡ 0
  pub exactly : moves (played (field_after (empty_field legs) rs) more) ≡ n

-- the session uses all of them
abbrev pub AllUsed : Type 0
AllUsed = Uses session_legs session_before session_moves most_moves

-- 27 is the most: from no empty field that a list may start from are there more moves, the session has as many, and from the empty field with its legs a
-- smaller number would not do
pub record TwentySeven : Type 0 where
  pub at_most : (f : Field) → T (empty_start f) → AtMostFrom most_moves f
  pub reached : AllUsed
  pub no_smaller : (n : ℕ) → AtMostFrom n (empty_field session_legs) → most_moves ≤ n
