-- Document 02, 2.9: a field with an index beside it, in one struct, and the step of any request on it.
use Rattle.std.specs.Prelude.{cond, List, [], ◌∷◌, ℕ, eqb}
use Rattle.request.specs.Input.{input_number}
use Rattle.request.specs.declared.Request.{Request}
use Rattle.field.specs.declared.Field.{Field}
use Rattle.finder.specs.declared.Indexed.{Indexed}
use Rattle.finder.specs.Finder.{index_of, within_bounds_indexed}
use Rattle.rules.specs.declared.Answer.{Answer}
use Rattle.rules.specs.Step.{number_of, number_and_zeros, step_of}
use Rattle.indexed.specs.declared.SteppedIndexed.{SteppedIndexed}

-- a field with its own index beside it
unfoldable pub with_index : Field → Indexed
with_index f = record { field = f; index = index_of f }

-- the number of a request on a field with an index beside it: the input rules come first, as on a field (01); then the bounds, which an index that
-- disagrees breaks too, and so is refused 10 (02, 2.9); then what the field says
unfoldable pub number_indexed : Indexed → Request → ℕ
number_indexed x r =
    cond (eqb (input_number r) 0)
    (cond (within_bounds_indexed x) (number_of x.field r) 10)
    (input_number r)

-- the step: an accepted request is answered and takes effect as on the field, and the field after it has its own index beside it (02, 2.9); a refused
-- one answers its number and zeros, and leaves the field and the index as they came
unfoldable pub step_indexed : Indexed → Request → SteppedIndexed
step_indexed x r =
    cond (eqb (number_indexed x r) 0)
    (record { answer = (step_of x.field r).answer; after = with_index (step_of x.field r).field })
    (record { answer = number_and_zeros (number_indexed x r); after = x })

-- a list of requests, each on what the one before returned: each with its answer, ..
abbrev pub played_indexed : Indexed → List Request → List (Request × Answer)
played_indexed x [] = []
played_indexed x (r ∷ rs) = (r, (step_indexed x r).answer) ∷ played_indexed (step_indexed x r).after rs

-- .. and the field with its index after the last
abbrev pub indexed_after : Indexed → List Request → Indexed
indexed_after x [] = x
indexed_after x (r ∷ rs) = indexed_after (step_indexed x r).after rs
