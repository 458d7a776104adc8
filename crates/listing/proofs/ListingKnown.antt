-- What is known of a list that is a parameter or that a callee returned: how many places it has, and that its numbers are of 16 bits. Assumes nothing.
use mathlib.Core.Path.{◌≡◌}
use mathlib.Core.List.{List, [], ◌∷◌}
use Prim.Native.Nat.{◌<◌}
use native.Mathlib.Omega.{arith}
use lib.ListN.{length}
use mir.Val.{Val}
use denote.Shadow.{shadow}
use denote.Laws.{Is}
use denote.Array.{each}
use Rattle.dialect.specs.declared.ListEntry.{ListEntry}
use Rattle.dialect.specs.declared.Listing.{Listing}
use Rattle.dialect.specs.contracts.ListEntry as entry
use Rattle.dialect.specs.contracts.Listing as listing

-- the numbers of each entry are of 16 bits
abbrev pub Small : List ListEntry → Type 0
Small [] = Unit
Small (e ∷ es) = (e.number < 65536) × (e.location < 65536) × (e.place < 65536) × (e.fix < 65536) × Small es

pub record ListingKnown (l : Listing) : Type 0 where
  pub places : length l.entries ≡ 5
  pub number : l.number < 65536
  pub small : Small l.entries

entries_known : (es : List ListEntry) (us : List Val) → shadow (each entry.the_row.Denot entry.the_row.own_val es us) → Small es
entries_known [] us p = tt
entries_known (e ∷ es) [] p = absurd p
entries_known (e ∷ es) (u ∷ us) p = let h = p.0 in (omega (arith, h), omega (arith, h), omega (arith, h), omega (arith, h), entries_known es us p.1)

pub listing_known : (l : Listing) {vs : List Val} → Is listing.the_row l vs → ListingKnown l
listing_known l p = record {
  places = p.1.1.1.1.0.1.0.1;
  number = omega (arith, p);
  small = entries_known l.entries _ p.1.1.1.1.0.1.1;
}
