-- Document 02, 2.13: a field with the fields before the last accepted requests, and one step back.
use Rattle.std.specs.Prelude.{Bool, cond, ◌&&◌, List, [], ◌∷◌, ◌++◌, ℕ, ◌+◌, ◌-◌, eqb, leb, ltb, length, get_or, take, drop, set, replicate}
use Rattle.limits.specs.Limits.{desks, most_kept}
use Rattle.request.specs.Input.{within, first_refused, input_number}
use Rattle.request.specs.declared.Request.{Request}
use Rattle.field.specs.declared.Legs.{Legs}
use Rattle.field.specs.Airspace.{empty_field}
use Rattle.field.specs.Lists.{every}
use Rattle.finder.specs.declared.Indexed.{Indexed}
use Rattle.finder.specs.Finder.{index_of, same_index, within_bounds_indexed}
use Rattle.rules.specs.Step.{number_of, number_and_zeros, step_of}
use Rattle.rules.specs.Start.{empty_start}
use Rattle.indexed.specs.Indexed.{with_index}
use Rattle.history.specs.declared.History.{History}
use Rattle.history.specs.declared.SteppedHistory.{SteppedHistory}

-- ---- a field with kept ones

-- a field with its index, such as one that a classroom list gives (02, 2.12), with none kept before it; the eight places for kept ones all have the empty
-- field with its legs (02, 2.13)
unfoldable pub start_with : Indexed → History
start_with x = record { now = x; kept = replicate most_kept (with_index (empty_field x.field.legs)); count = 0 }

-- the start: so with the empty field with these legs
unfoldable pub start_of : Legs → History
start_of legs = start_with (with_index (empty_field legs))

-- whether calls may start from a history: its field is an empty one to start from (01, "Any list of requests") with its own index, and of its eight places for
-- kept fields none counts, whatever stands in them. The start with legal legs is one of these
unfoldable pub history_at_start : History → Bool
history_at_start h = empty_start h.now.field && same_index h.now.index (index_of h.now.field) && eqb (length h.kept) most_kept && eqb h.count 0

-- the kept fields that count, oldest first; the places behind them are not looked at
abbrev pub counted : History → List Indexed
counted h = take h.count h.kept

-- at most eight count, and each of them is within the bounds, its index included; they are not compared with each other
unfoldable pub kept_within_bounds : History → Bool
kept_within_bounds h = leb h.count most_kept && every within_bounds_indexed (counted h)

-- the bounds: those of the kept fields, and those of the field (02, 2.13)
unfoldable pub within_bounds_history : History → Bool
within_bounds_history h = kept_within_bounds h && within_bounds_indexed h.now

-- ---- a request

-- the field replaced by another and kept: behind those that count, or, where eight count, as the eighth, the oldest dropped and the others moved up by
-- a place. The places behind it keep what they had
unfoldable pub keeping : History → Indexed → History
keeping h next =
    cond (ltb h.count most_kept)
    (record { now = next; kept = set h.kept h.count h.now; count = h.count + 1 })
    (record { now = next; kept = drop 1 h.kept ++ (h.now ∷ []); count = h.count })

-- the number of a request: the input rules come first, as on a field (01); then 10 where the bounds are broken, those of the kept fields too; then what
-- the field says
unfoldable pub number_history : History → Request → ℕ
number_history h r =
    cond (eqb (input_number r) 0)
    (cond (within_bounds_history h) (number_of h.now.field r) 10)
    (input_number r)

-- the step: an accepted request, a tick too, is answered and takes effect as on the field, and the field before it is kept, one also where an entry moves
-- another down (02, 2.5). A refused request answers its number and zeros, and changes nothing
unfoldable pub step_history : History → Request → SteppedHistory
step_history h r =
    cond (eqb (number_history h r) 0)
    (record { answer = (step_of h.now.field r).answer; after = keeping h (with_index (step_of h.now.field r).field) })
    (record { answer = number_and_zeros (number_history h r); after = h })

-- ---- a step back

-- the number of a step back by a desk: 31 for a desk that is not 1 or 2, 10 where the bounds are broken, 27 where no field is kept, in this order
unfoldable pub number_back : History → ℕ → ℕ
number_back h desk = first_refused ((31, within 1 desks desk) ∷ (10, within_bounds_history h) ∷ (27, ltb 0 h.count) ∷ [])

-- the last kept field given back, with its index: one field less counts, and every place keeps what it had
unfoldable pub field_given_back : History → History
field_given_back h = record { now = get_or h.kept (h.count - 1) h.now; kept = h.kept; count = h.count - 1 }

-- the step back: the answer is zeros; a refused one answers its number and zeros, and changes nothing
unfoldable pub step_back : History → ℕ → SteppedHistory
step_back h desk =
    cond (eqb (number_back h desk) 0)
    (record { answer = number_and_zeros 0; after = field_given_back h })
    (record { answer = number_and_zeros (number_back h desk); after = h })
