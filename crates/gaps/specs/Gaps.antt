-- Spacing along the path (02, 2.8): the way to the threshold, the gap of a pair, and the pairs of a field. Definitions only.
use Rattle.std.specs.Prelude.{Bool, cond, ◌&&◌, List, [], ◌∷◌, ◌++◌, ℕ, ◌-◌, eqb, leb, length, replicate, Float, Result, Ok, Err}
use Rattle.std.specs.Float.{binary64}
use Rattle.std.specs.Float.Ieee.{add, sub, lt}
use Rattle.leg.specs.Progress.{whole, sixty_fourths, remaining}
use Rattle.field.specs.declared.Legs.{Legs}
use Rattle.field.specs.declared.Field.{Field}
use Rattle.field.specs.Airspace.{intermediate, final_approach_zone, order_of}
use Rattle.questions.specs.Find.{place_of, aircraft_at}
use Rattle.bounds.specs.Bounds.{within_bounds}
use Rattle.refusals.specs.declared.Refusal.{Refusal}
use Rattle.refusals.specs.Refusals.{number_of}
use Rattle.gaps.specs.declared.Spacing.{Spacing}
use Rattle.gaps.specs.declared.Spacing.TheVariants.{Close, Clear}
use Rattle.gaps.specs.declared.Pair.{Pair}
use Rattle.gaps.specs.declared.Spacings.{Spacings}

-- ---- the way to the threshold

-- the way from zone z of the approach with so much of its leg left: from a base intermediate is added, and then final, from intermediate final alone, each
-- sum rounded once
unfoldable pub to_go : Legs → ℕ → Float → Float
to_go legs z left =
    cond (eqb z final_approach_zone) left
    (cond (eqb z intermediate) (add binary64 left legs.final_approach)
    (add binary64 (add binary64 left legs.intermediate) legs.final_approach))

-- the way of the one with this number, in miles: the rest of its own leg (02, 2.7), and the legs behind that
unfoldable pub way_of : Field → ℕ → Float
way_of f number =
    let at = place_of f number in
    let a = aircraft_at f at.zone at.place in
    to_go f.legs at.zone (remaining a.progress a.leg)

-- ---- a pair

-- how much longer the follower's way is than the leader's, rounded once; negative where it is shorter
unfoldable pub gap_of : Field → ℕ → ℕ → Float
gap_of f leader follower = sub binary64 (way_of f follower) (way_of f leader)

-- what is answered of a gap: close where it is below the spacing, which is in 64ths of a mile, else clear, both with the gap
unfoldable pub spacing_of : Float → ℕ → Spacing
spacing_of gap spacing = cond (lt gap (sixty_fourths spacing)) (Close gap) (Clear gap)

-- two neighbours by their numbers, with the answer of their gap
unfoldable pub pair_of : Field → ℕ → ℕ → ℕ → Pair
pair_of f spacing leader follower = record { leader = leader; follower = follower; spacing = spacing_of (gap_of f leader follower) spacing }

-- ---- the pairs of a field

-- whether the one with this number is on the approach, zones 9 to 12
unfoldable pub on_approach : Field → ℕ → Bool
on_approach f number = leb 9 (place_of f number).zone && leb (place_of f number).zone 12

-- two neighbours in the sequence as a pair; none where either is not on the approach
unfoldable pub pair_if_both : Field → ℕ → ℕ → ℕ → List Pair
pair_if_both f spacing leader follower = cond (on_approach f leader && on_approach f follower) (pair_of f spacing leader follower ∷ []) []

-- the pairs of the neighbours in a list, in its order
abbrev pub pairs_in : Field → ℕ → List ℕ → List Pair
pairs_in f spacing [] = []
pairs_in f spacing (n ∷ []) = []
pairs_in f spacing (n ∷ m ∷ ns) = pair_if_both f spacing n m ++ pairs_in f spacing (m ∷ ns)

-- ---- the answer

-- a place past the count: no numbers, and clear with a gap of 0
abbrev pub no_pair : Pair
no_pair = record { leader = 0; follower = 0; spacing = Clear (whole 0) }

-- an answer of at most three pairs
unfoldable pub pairs_listed : List Pair → Spacings
pairs_listed pairs = record { number = 0; count = length pairs; pairs = pairs ++ replicate (3 - length pairs) no_pair }

-- a refusal, with no pair
unfoldable pub spacing_refused : ℕ → Spacings
spacing_refused number = record { number = number; count = 0; pairs = replicate 3 no_pair }

-- the answer that a reason to refuse gives, by its number, or the pairs
abbrev pub answered : Result Spacings Refusal → Spacings
answered (Ok spacings) = spacings
answered (Err refusal) = spacing_refused (number_of refusal)

-- a spacing that is not refused: 1 to 512 64ths of a mile
abbrev pub legal_spacing : ℕ → Bool
legal_spacing spacing = leb 1 spacing && leb spacing 512

-- the pairs of a field, by its sequence; a spacing is refused by 4, and after that a field by 10
unfoldable pub gaps_of : Field → ℕ → Spacings
gaps_of f spacing =
    cond (legal_spacing spacing)
    (cond (within_bounds f) (pairs_listed (pairs_in f spacing (order_of f.sequence))) (spacing_refused 10))
    (spacing_refused 4)
