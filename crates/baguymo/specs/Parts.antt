-- A request as C hands it over: five numbers of any width. A request of the rules has an aircraft's number of 16 bits (01, "The requests"), so that
-- where a part is wider it is no request, and is refused by the number of that part. Definitions only.
use Rattle.std.specs.Prelude.{ℕ, cond, ◌&&◌, List, [], ◌∷◌, leb, eqb}
use Rattle.request.specs.declared.Request.{Request}
use Rattle.request.specs.Input.{first_refused, desk_allowed, kind_allowed, side_allowed, number_allowed, amount_allowed}
use Rattle.rules.specs.Step.{number_and_zeros}
use Rattle.replies.specs.Replies.{answer_numbers}
use Rattle.host.specs.Calls.{Reply, ask, reply_on, bytes_left}
use Rattle.baguymo.specs.Widths.{widest16}

-- the number that refuses the parts by themselves: the input rules in their order (01; 02, 2.10), of which 3 asks for a number of 16 bits, too; 0 where they
-- are kept. What is wider than any other part may be is over what its rule allows
unfoldable pub parts_number : Request → ℕ
parts_number r =
    first_refused
    ((31, desk_allowed r)
    ∷ (1, kind_allowed r)
    ∷ (2, side_allowed r)
    ∷ (3, number_allowed r && leb r.number widest16)
    ∷ (4, amount_allowed r)
    ∷ [])

-- what the parts are replied on a state: what the request that they are is replied; where they are none, the number and zeros
abbrev pub reply_to_parts : List ℕ → Request → Reply
reply_to_parts state r =
    cond (eqb (parts_number r) 0)
    (reply_on state (ask r))
    (record { number = parts_number r; request = []; numbers = answer_numbers (number_and_zeros (parts_number r)); gaps = [] })

-- the bytes after them: where they are no request, every byte as it was
abbrev pub left_by_parts : List ℕ → Request → List ℕ
left_by_parts state r = cond (eqb (parts_number r) 0) (bytes_left state (ask r)) state
