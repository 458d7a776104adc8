-- The session `most-moves`, which uses all 27 moves that there can be (02, 2.14): the requests of the practice file of that name in `cases`.
-- The gate compares the two, request by request.
use Rattle.std.specs.Prelude.{List, [], ◌∷◌}
use Rattle.request.specs.declared.Request.{Request}
use Rattle.field.specs.declared.Legs.{Legs}
use Rattle.field.specs.Airspace.{legs_in64ths}
use Rattle.rules.specs.Cases.{ask}

-- missed, base, intermediate and final, in 64ths of a mile: at speed 512 one tick of 64 flies any of them out, and missed and final together
abbrev pub session_legs : Legs
session_legs = legs_in64ths 112 64 96 80

-- to the field with 5 at 3000 right, 4 at 3000 left, 3 and 2 in the missed zones right and left, and 1 on the runway
abbrev pub session_before : List Request
session_before =
    -- 1 and 2 enter; 1 lands
    ask 1 1 1 512 ∷ ask 1 1 2 512 ∷ ask 4 0 1 0 ∷ ask 12 0 0 64 ∷ ask 5 0 1 0 ∷ ask 12 0 0 64 ∷ ask 6 0 1 0 ∷ ask 12 0 0 64 ∷ ask 7 0 1 0 ∷
    -- 3, 4 and 5 enter; 2 and 3 come to base
    ask 1 1 3 512 ∷ ask 1 2 4 512 ∷ ask 4 0 2 0 ∷ ask 1 1 5 512 ∷ ask 4 0 3 0 ∷
    -- 2 and 3 come to final and miss
    ask 12 0 0 64 ∷ ask 5 0 2 0 ∷ ask 5 0 3 0 ∷ ask 12 0 0 64 ∷ ask 6 0 2 0 ∷ ask 6 0 3 0 ∷ ask 10 0 2 0 ∷ ask 10 0 3 0 ∷ []

-- from there 27 moves, with the ticks between them, and neither an entry nor a miss
abbrev pub session_moves : List Request
session_moves =
    -- move 1: 1 taxies off
    ask 8 0 1 0 ∷
    -- moves 2 to 8: 4 descends, 2 holds above it, 4 approaches, merges, comes to final, lands and taxies off
    ask 3 0 4 0 ∷ ask 12 0 0 64 ∷ ask 11 0 2 0 ∷ ask 4 0 4 0 ∷ ask 12 0 0 64 ∷ ask 5 0 4 0 ∷ ask 12 0 0 64 ∷ ask 6 0 4 0 ∷ ask 12 0 0 64 ∷ ask 7 0 4 0 ∷ ask 8 0 4 0 ∷
    -- moves 9 to 16: 2 descends, 5 descends, 3 holds above it, 5 approaches, merges, comes to final, lands and taxies off
    ask 3 0 2 0 ∷ ask 3 0 5 0 ∷ ask 11 0 3 0 ∷ ask 4 0 5 0 ∷ ask 12 0 0 64 ∷ ask 5 0 5 0 ∷ ask 12 0 0 64 ∷ ask 6 0 5 0 ∷ ask 12 0 0 64 ∷ ask 7 0 5 0 ∷ ask 8 0 5 0 ∷
    -- moves 17 to 21: 2 approaches, merges, comes to final, lands and taxies off
    ask 4 0 2 0 ∷ ask 12 0 0 64 ∷ ask 5 0 2 0 ∷ ask 12 0 0 64 ∷ ask 6 0 2 0 ∷ ask 12 0 0 64 ∷ ask 7 0 2 0 ∷ ask 8 0 2 0 ∷
    -- moves 22 to 27: 3 descends, approaches, merges, comes to final, lands and taxies off
    ask 3 0 3 0 ∷ ask 4 0 3 0 ∷ ask 12 0 0 64 ∷ ask 5 0 3 0 ∷ ask 12 0 0 64 ∷ ask 6 0 3 0 ∷ ask 12 0 0 64 ∷ ask 7 0 3 0 ∷ ask 8 0 3 0 ∷ []
