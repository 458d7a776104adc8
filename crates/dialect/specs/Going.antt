-- The classroom dialect (02, 2.12), going: the list of a field, in sequence order. Definitions only.
use Rattle.std.specs.Prelude.{Bool, cond, List, [], ◌∷◌, ◌++◌, ℕ, suc, ◌-◌, length, replicate, Result, Ok, Err}
use Rattle.field.specs.declared.Field.{Field}
use Rattle.field.specs.Airspace.{right, left, lateral, intermediate, runway, order_of}
use Rattle.field.specs.Lists.{every}
use Rattle.questions.specs.Counts.{is_empty}
use Rattle.questions.specs.Find.{place_of, fix_of, aircraft_at}
use Rattle.refusals.specs.declared.Refusal.{Refusal}
use Rattle.refusals.specs.Refusals.{number_of}
use Rattle.finder.specs.declared.Indexed.{Indexed}
use Rattle.finder.specs.Finder.{within_bounds_indexed}
use Rattle.dialect.specs.declared.ListEntry.{ListEntry}
use Rattle.dialect.specs.declared.Listing.{Listing}

-- ---- one of the list

-- the entry of the one with this number, at this place of the list: its location is the zone where it is
unfoldable pub list_entry : Field → ℕ → ℕ → ListEntry
list_entry f number place = record { number = number; location = (place_of f number).zone; place = place; fix = fix_of f number }

-- ---- the list

-- numbers in order, the first at this place
abbrev pub list_entries : Field → ℕ → List ℕ → List ListEntry
list_entries f place [] = []
list_entries f place (n ∷ ns) = list_entry f n place ∷ list_entries f (suc place) ns

-- the entry of one on the runway, whose place is 0; none where nobody is there
unfoldable pub on_runway : Field → List ListEntry
on_runway f = cond (is_empty f runway) [] (list_entry f (aircraft_at f runway 1).number 0 ∷ [])

-- the list of a field: everyone in the sequence, with places from 1, and then one on the runway
unfoldable pub entries_of : Field → List ListEntry
entries_of f = list_entries f 1 (order_of f.sequence) ++ on_runway f

-- nobody is in a zone that the dialect lacks: a lateral one or the intermediate one
unfoldable pub in_dialect : Field → Bool
in_dialect f = every (is_empty f) (lateral right ∷ lateral left ∷ intermediate ∷ [])

-- ---- the answer

-- a place past the count: all zero
abbrev pub no_entry : ListEntry
no_entry = record { number = 0; location = 0; place = 0; fix = 0 }

-- an answer of at most five
unfoldable pub entries_listed : List ListEntry → Listing
entries_listed entries = record { number = 0; count = length entries; entries = entries ++ replicate (5 - length entries) no_entry }

-- a refusal, with nobody listed
unfoldable pub list_refused : ℕ → Listing
list_refused number = record { number = number; count = 0; entries = replicate 5 no_entry }

-- the answer that a reason to refuse gives, by its number, or the list
abbrev pub answered : Result Listing Refusal → Listing
answered (Ok listing) = listing
answered (Err refusal) = list_refused (number_of refusal)

-- the list of a field with an index beside it: refused by 10 where the bounds are broken, which an index that disagrees does too (02, 2.9), and then by 29
-- where somebody is in a zone that the dialect lacks
unfoldable pub list_of : Indexed → Listing
list_of x =
    cond (within_bounds_indexed x)
    (cond (in_dialect x.field) (entries_listed (entries_of x.field)) (list_refused 29))
    (list_refused 10)
