-- What a practice file means as a whole, and the bytes that a practice file of given legs and requests has (01, "The practice file"). Definitions only.
use Rattle.std.specs.Prelude.{ℕ, ◌*◌, ◌/◌, ◌%◌, List, [], ◌∷◌, ◌++◌, cond, eqb, length}
use Rattle.request.specs.declared.Request.{Request}
use Rattle.practice.specs.declared.FileLegs.{FileLegs}
use Rattle.practice.specs.File.{letters, legs_of, legs_body, requests_body, file_number}
use Rattle.practice.specs.Requests.{requests_of}

-- a file is refused by its number, or holds legs and requests
pub data Practice : Type 0 where
  refused : ℕ → Practice
  holds : FileLegs → List Request → Practice

-- what a file of these bytes means
unfoldable pub practice_of : List ℕ → Practice
practice_of file = cond (eqb (file_number file) 0) (holds (legs_of (legs_body file)) (requests_of (requests_body file))) (refused (file_number file))

-- ---- the bytes of a file

-- a number of 16 bits, the low byte first
abbrev pub bytes16 : ℕ → List ℕ
bytes16 n = n % 256 ∷ n / 256 ∷ []

-- a number of 32 bits, the low byte first
abbrev pub bytes32 : ℕ → List ℕ
bytes32 n = bytes16 (n % 65536) ++ bytes16 (n / 65536)

-- an entry of the contents: kind, offset and length
abbrev pub entry_bytes : ℕ → ℕ → ℕ → List ℕ
entry_bytes kind offset size = bytes16 kind ++ bytes32 offset ++ bytes32 size

-- body 1: the four legs
abbrev pub leg_bytes : FileLegs → List ℕ
leg_bytes legs = bytes16 legs.base ++ bytes16 legs.intermediate ++ bytes16 legs.final_approach ++ bytes16 legs.missed

-- body 2: the requests, six bytes for each; a file has no desk, and is read as one of desk 1 (02, 2.10 and 2.11)
abbrev pub request_bytes : List Request → List ℕ
request_bytes [] = []
request_bytes (r ∷ rest) = r.kind ∷ r.side ∷ bytes16 r.number ++ bytes16 r.amount ++ request_bytes rest

-- the whole file: the letters, how many entries the contents have, the two entries, and the two bodies
unfoldable pub encoded : FileLegs → List Request → List ℕ
encoded legs requests =
    letters ++ bytes16 2 ++ entry_bytes 1 26 8 ++ entry_bytes 2 34 (6 * length requests) ++ leg_bytes legs ++ request_bytes requests
