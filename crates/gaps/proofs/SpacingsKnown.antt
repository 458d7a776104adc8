-- What is known of an answer of `gaps` that is a parameter or that a callee returned: how many places it has, and that its numbers are of 16
-- bits. Assumes nothing.
use mathlib.Core.Path.{◌≡◌}
use mathlib.Core.List.{List, [], ◌∷◌}
use Prim.Native.Nat.{◌<◌}
use native.Mathlib.Omega.{arith}
use lib.ListN.{length}
use mir.Val.{Val}
use denote.Shadow.{shadow}
use denote.Laws.{Is}
use denote.Array.{each}
use Rattle.gaps.specs.declared.Pair.{Pair}
use Rattle.gaps.specs.declared.Spacings.{Spacings}
use Rattle.gaps.specs.contracts.Pair as pair
use Rattle.gaps.specs.contracts.Spacings as spacings

-- the numbers of each pair are of 16 bits
abbrev pub Small : List Pair → Type 0
Small [] = Unit
Small (p ∷ ps) = (p.leader < 65536) × (p.follower < 65536) × Small ps

pub record SpacingsKnown (s : Spacings) : Type 0 where
  pub places : length s.pairs ≡ 3
  pub number : s.number < 65536
  pub small : Small s.pairs

pairs_known : (ps : List Pair) (us : List Val) → shadow (each pair.the_row.Denot pair.the_row.own_val ps us) → Small ps
pairs_known [] us p = tt
pairs_known (q ∷ ps) [] p = absurd p
pairs_known (q ∷ ps) (u ∷ us) p = let h = p.0 in (omega (arith, h), omega (arith, h), pairs_known ps us p.1)

pub spacings_known : (s : Spacings) {vs : List Val} → Is spacings.the_row s vs → SpacingsKnown s
spacings_known s p = record {
  places = p.1.1.1.1.0.1.0.1;
  number = omega (arith, p);
  small = pairs_known s.pairs _ p.1.1.1.1.0.1.1;
}
