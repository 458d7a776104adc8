-- The number of a practice file: refusals 5 to 7 of document 01 ("Turned away by the request or the file"), in this order, and what they ask of its bytes
-- ("The practice file"). Definitions only.
use Rattle.std.specs.Prelude.{ℕ, ◌+◌, ◌*◌, ◌%◌, List, [], ◌∷◌, Bool, true, false, ◌&&◌, leb, eqb, length, get_or, take, drop}
use Rattle.limits.specs.Limits.{longest_leg, longest_body, longest_file}
use Rattle.request.specs.Input.{word, within, first_refused}
use Rattle.practice.specs.declared.FileLegs.{FileLegs}

-- the number of 16 bits at a place of the file, the low byte first
abbrev pub number16 : List ℕ → ℕ → ℕ
number16 file at = word (get_or file at 0) (get_or file (at + 1) 0)

-- the same of 32 bits
abbrev pub number32 : List ℕ → ℕ → ℕ
number32 file at = number16 file at + 65536 * number16 file (at + 2)

-- whether two lists of bytes are the same
abbrev pub are_the_same_bytes : List ℕ → List ℕ → Bool
are_the_same_bytes [] [] = true
are_the_same_bytes [] (y ∷ ys) = false
are_the_same_bytes (x ∷ xs) [] = false
are_the_same_bytes (x ∷ xs) (y ∷ ys) = eqb x y && are_the_same_bytes xs ys

-- SCAP, in ASCII
abbrev pub letters : List ℕ
letters = 83 ∷ 67 ∷ 65 ∷ 80 ∷ []

-- what 5 asks of a file: from 26 bytes to those of the longest, and those letters at its beginning
unfoldable pub opens : List ℕ → Bool
opens file = within 26 longest_file (length file) && are_the_same_bytes (take 4 file) letters

-- whether the entry at a place of the contents is this: two bytes for the kind, four for the offset and four for the length
abbrev pub entry_is : List ℕ → ℕ → ℕ → ℕ → ℕ → Bool
entry_is file at kind offset size = eqb (number16 file at) kind && eqb (number32 file (at + 2)) offset && eqb (number32 file (at + 6)) size

-- the n of the second entry, the length of body 2
abbrev pub body_length : List ℕ → ℕ
body_length file = number32 file 22

-- what 6 asks of the contents: they count two entries; body 1 is the eight bytes from 26 on, and body 2 the rest of the file from 34 on, whole requests of six
-- bytes, and no longer than `longest_body`; the third line compares the length in the second entry with itself, and the last three ask of it
unfoldable pub contents_allowed : List ℕ → Bool
contents_allowed file =
    eqb (number16 file 4) 2
    && entry_is file 6 1 26 8
    && entry_is file 16 2 34 (body_length file)
    && eqb (body_length file % 6) 0
    && leb (body_length file) longest_body
    && eqb (34 + body_length file) (length file)

-- the legs that body 1 holds, two bytes for each, in 64ths of a mile
abbrev pub legs_of : List ℕ → FileLegs
legs_of body = record {
  base = number16 body 0;
  intermediate = number16 body 2;
  final_approach = number16 body 4;
  missed = number16 body 6;
}

-- what 7 asks of the legs: each is from 1 to `longest_leg`
unfoldable pub legs_allowed : FileLegs → Bool
legs_allowed legs = within 1 longest_leg legs.base && within 1 longest_leg legs.intermediate && within 1 longest_leg legs.final_approach && within 1 longest_leg legs.missed

-- body 1, where its entry says it is
abbrev pub legs_body : List ℕ → List ℕ
legs_body file = take 8 (drop 26 file)

-- body 2, where its entry says it is: up to the end of the file
abbrev pub requests_body : List ℕ → List ℕ
requests_body file = drop 34 file

-- 0 where the file is played, else the first of 5 to 7 that refuses it
unfoldable pub file_number : List ℕ → ℕ
file_number file = first_refused ((5, opens file) ∷ (6, contents_allowed file) ∷ (7, legs_allowed (legs_of (legs_body file))) ∷ [])
