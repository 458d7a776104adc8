-- The sections of a practice file, as stretches of the lent bytes: where each is in memory, and what it holds (01, "The practice file"). Definitions only.
use Rattle.std.specs.Prelude.{ℕ, ◌+◌, ◌-◌, List, cond, eqb, length, take, drop}
use Rattle.std.specs.Borrow.{Bor}
use Rattle.practice.specs.declared.FileLegs.{FileLegs}
use Rattle.practice.specs.File.{legs_of, file_number}

-- the place in memory `offset` bytes past the first of a lent slice
abbrev pub place_at : Bor (List ℕ) → ℕ → ℕ × ℕ
place_at file offset = (file.ref_ptr.0, offset + file.ref_ptr.1)

-- the `size` bytes from `offset` on
abbrev pub stretch : List ℕ → ℕ → ℕ → List ℕ
stretch file offset size = take size (drop offset file)

-- a number of body 1 or of body 2, by the kind that is asked for; 0 for any other kind, and for a refused file
abbrev pub of_body : List ℕ → ℕ → ℕ → ℕ → ℕ
of_body file kind one two = cond (eqb (file_number file) 0) (cond (eqb kind 1) one (cond (eqb kind 2) two 0)) 0

-- where the section starts in the file; an empty one is at its first byte
abbrev pub section_offset : List ℕ → ℕ → ℕ
section_offset file kind = of_body file kind 26 34

-- how many bytes it has
abbrev pub section_length : List ℕ → ℕ → ℕ
section_length file kind = of_body file kind 8 (length file - 34)

-- the bytes of the section
abbrev pub section_bytes : List ℕ → ℕ → List ℕ
section_bytes file kind = stretch file (section_offset file kind) (section_length file kind)

-- the legs of a file; those of a refused file are all 0
abbrev pub legs_of_the_file : List ℕ → FileLegs
legs_of_the_file file = legs_of (section_bytes file 1)
