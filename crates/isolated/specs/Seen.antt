-- What a desk does see of the other (02, 2.10): that a zone is taken or a limit is reached, in short sessions. Definitions only.
use Rattle.std.specs.Prelude.{◌&&◌, List, [], ◌∷◌, ℕ}
use Rattle.request.specs.declared.Request.{Request}
use Rattle.request.specs.Input.{from_desk}
use Rattle.rules.specs.Step.{number_and_zeros}
use Rattle.rules.specs.Cases.{Case, ask, says, any_field, stands_in}
use Rattle.rules.specs.Examples.{head_is_of}

-- the other desk, desk 2, lets an aircraft in: the kind of entry, the side and the number
abbrev pub other_lets : ℕ → ℕ → ℕ → Request
other_lets kind side number = from_desk 2 (ask kind side number 64)

-- sessions in which the last answer to desk 1 shows that desk 2 has aircraft on the field
abbrev pub seen_sessions : List Case
seen_sessions =
    -- the lateral zone is taken by the other's 8: 19 for a vertical entry on that side, 16 for a lateral one
    record { leg = 64; requests = other_lets 2 1 8 ∷ ask 1 1 7 64 ∷ []; answer = number_and_zeros 19; after = any_field }
    ∷ record { leg = 64; requests = other_lets 2 1 8 ∷ ask 2 1 7 64 ∷ []; answer = number_and_zeros 16; after = any_field }
    -- the other's 8 and 9 are all that a side may hold: 16
    ∷ record { leg = 64; requests = other_lets 1 1 8 ∷ other_lets 1 1 9 ∷ ask 1 1 7 64 ∷ []; answer = number_and_zeros 16; after = any_field }
    -- the other's 8 is ahead of 7 in the sequence and waits: 22 for the approach of 7, whose leader is not shown
    ∷ record { leg = 64; requests = other_lets 1 2 8 ∷ ask 1 1 7 64 ∷ ask 3 0 7 0 ∷ []; answer = says 7 3 1 0 0; after = any_field }
    ∷ record { leg = 64; requests = other_lets 1 2 8 ∷ ask 1 1 7 64 ∷ ask 3 0 7 0 ∷ ask 4 0 7 0 ∷ []; answer = number_and_zeros 22; after = any_field }
    -- 7 is moved down by the entry of the other's 8, and stays desk 1's: 13 for its own descend, and its approach is accepted
    ∷ record { leg = 64; requests = ask 1 1 7 64 ∷ other_lets 1 1 8 ∷ ask 3 0 7 0 ∷ []; answer = number_and_zeros 13; after = λ f. stands_in 7 3 f && head_is_of 1 3 f }
    ∷ record { leg = 64; requests = ask 1 1 7 64 ∷ other_lets 1 1 8 ∷ ask 4 0 7 0 ∷ []; answer = says 7 9 1 0 0; after = stands_in 8 1 }
    -- a number that the desk names itself: 11 for an entry and 26 for a move where the other has it
    ∷ record { leg = 64; requests = other_lets 1 2 8 ∷ ask 1 1 8 64 ∷ []; answer = number_and_zeros 11; after = any_field }
    ∷ record { leg = 64; requests = other_lets 1 2 8 ∷ ask 3 0 8 0 ∷ []; answer = number_and_zeros 26; after = any_field }
    ∷ []
