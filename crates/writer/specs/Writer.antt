-- Writing a practice file (02, 2.11): the number that refuses it, what is answered, and what the lent buffer holds after it. Definitions only.
use Rattle.std.specs.Prelude.{ℕ, ◌%◌, List, [], ◌∷◌, ◌++◌, Bool, cond, ◌&&◌, leb, eqb, length, drop}
use Rattle.limits.specs.Limits.{most_requests}
use Rattle.request.specs.declared.Request.{Request}
use Rattle.request.specs.Input.{first_refused, input_number}
use Rattle.practice.specs.declared.FileLegs.{FileLegs}
use Rattle.practice.specs.File.{legs_allowed}
use Rattle.practice.specs.Requests.{requests_of}
use Rattle.practice.specs.Practice.{encoded}
use Rattle.writer.specs.declared.Writing.{Writing}

-- the file of these legs and of the requests that the lent bytes hold, six for each
abbrev pub file_of : FileLegs → List ℕ → List ℕ
file_of legs bytes = encoded legs (requests_of bytes)

-- 5: the bytes are whole requests, and no more than a practice file may hold
abbrev pub requests_allowed : List ℕ → Bool
requests_allowed bytes = eqb (length bytes % 6) 0 && leb (length (requests_of bytes)) most_requests

-- 1 to 4: the number of the first request in the list that breaks the input rules; 0 where none does
abbrev pub first_offence : List Request → ℕ
first_offence [] = 0
first_offence (r ∷ rest) = cond (eqb (input_number r) 0) (first_offence rest) (input_number r)

-- 28: the file fits into a buffer of this many bytes
abbrev pub file_fits : FileLegs → List ℕ → ℕ → Bool
file_fits legs bytes room = leb (length (file_of legs bytes)) room

-- the number of a writing: 7, then 5, then the number of the first offender, then 28; 0 where the file is written
unfoldable pub writing_number : FileLegs → List ℕ → ℕ → ℕ
writing_number legs bytes room =
    first_refused
    ((7, legs_allowed legs)
    ∷ (5, requests_allowed bytes)
    ∷ (first_offence (requests_of bytes), eqb (first_offence (requests_of bytes)) 0)
    ∷ (28, file_fits legs bytes room)
    ∷ [])

-- the answer: the number, and the file's length, 0 where it is refused
abbrev pub writing_of : FileLegs → List ℕ → ℕ → Writing
writing_of legs bytes room =
    record {
      number = writing_number legs bytes room;
      length = cond (eqb (writing_number legs bytes room) 0) (length (file_of legs bytes)) 0;
    }

-- the buffer after it: the file, and past its end the bytes as lent; every byte as lent where it is refused
abbrev pub buffer_after : FileLegs → List ℕ → List ℕ → List ℕ
buffer_after legs bytes buffer = cond (eqb (writing_number legs bytes (length buffer)) 0) (file_of legs bytes ++ drop (length (file_of legs bytes)) buffer) buffer
