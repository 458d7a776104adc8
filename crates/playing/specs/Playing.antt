-- A practice file played from the empty field (01, "The practice file"): its requests, their answers, and the field at the end. A refused
-- file plays nothing. Definitions only.
use Rattle.std.specs.Prelude.{ℕ, List, [], length}
use Rattle.request.specs.declared.Request.{Request}
use Rattle.practice.specs.declared.FileLegs.{FileLegs}
use Rattle.practice.specs.File.{file_number}
use Rattle.practice.specs.Practice.{Practice, refused, holds, practice_of}
use Rattle.field.specs.declared.Legs.{Legs}
use Rattle.field.specs.declared.Field.{Field}
use Rattle.field.specs.Airspace.{legs_in64ths, empty_field}
use Rattle.questions.specs.Counts.{present_on}
use Rattle.rules.specs.declared.Answer.{Answer}
use Rattle.rules.specs.Play.{field_after, played}
use Rattle.playing.specs.declared.Played.{Played}

-- the legs of a file, which are in 64ths of a mile there, as the field holds them
abbrev pub legs_in_miles : FileLegs → Legs
legs_in_miles legs = legs_in64ths legs.missed legs.base legs.intermediate legs.final_approach

-- each request of a list with its answer, played from the empty field with these legs
unfoldable pub answers_from : Legs → List Request → List (Request × Answer)
answers_from legs requests = played (empty_field legs) requests

-- how many aircraft are present after the last of them
unfoldable pub present_from : Legs → List Request → ℕ
present_from legs requests = present_on (field_after (empty_field legs) requests)

-- the field after the last of them
unfoldable pub field_from : Legs → List Request → Field
field_from legs requests = field_after (empty_field legs) requests

-- the requests that a file plays
abbrev pub requests_of_practice : Practice → List Request
requests_of_practice (refused number) = []
requests_of_practice (holds legs requests) = requests

-- each of them with its answer
abbrev pub answers_of_practice : Practice → List (Request × Answer)
answers_of_practice (refused number) = []
answers_of_practice (holds legs requests) = answers_from (legs_in_miles legs) requests

-- how many aircraft are present at the end
abbrev pub present_of_practice : Practice → ℕ
present_of_practice (refused number) = 0
present_of_practice (holds legs requests) = present_from (legs_in_miles legs) requests

-- the legs of a refused file, all 0
abbrev pub no_legs : FileLegs
no_legs = record { missed = 0; base = 0; intermediate = 0; final_approach = 0 }

-- the field at the end; nobody is on the field of a refused file, which has no legs
abbrev pub field_of_practice : Practice → Field
field_of_practice (refused number) = empty_field (legs_in_miles no_legs)
field_of_practice (holds legs requests) = field_from (legs_in_miles legs) requests

-- the requests that a file of these bytes plays
unfoldable pub requests_of_file : List ℕ → List Request
requests_of_file file = requests_of_practice (practice_of file)

-- each of them with its answer
unfoldable pub answers_of : List ℕ → List (Request × Answer)
answers_of file = answers_of_practice (practice_of file)

-- the field after the last of them
unfoldable pub field_of_file : List ℕ → Field
field_of_file file = field_of_practice (practice_of file)

-- what playing a file tells beside its answers: its number, how many requests were played, how many aircraft are present at the end, and the
-- field at the end
unfoldable pub played_of : List ℕ → Played
played_of file =
    record { number = file_number file; requests = length (requests_of_file file); present = present_of_practice (practice_of file); field = field_of_file file }
