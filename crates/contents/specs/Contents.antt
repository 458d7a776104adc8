-- The binder of practice files (02, 2.1): refusal 30, and the files that a binder holds. Every number is natural, so that no sum wraps.
-- Definitions only.
use Rattle.std.specs.Prelude.{ℕ, zero, suc, ◌+◌, ◌*◌, List, [], ◌∷◌, Bool, cond, ◌&&◌, leb, ltb, eqb, length}
use Rattle.request.specs.Input.{within}
use Rattle.practice.specs.File.{number16, number32}
use Rattle.practice.specs.Sections.{stretch}

-- how many entries the contents table has: the 16 bits that the binder begins with (02, 2.1)
abbrev pub entry_count : List ℕ → ℕ
entry_count bytes = number16 bytes 0

-- where entry i of the table stands, counted from 0: after the count, eight bytes for each entry (02, 2.1)
abbrev pub entry_place : ℕ → ℕ
entry_place i = 2 + 8 * i

-- where the file of entry i begins, counted from the binder's first byte: the entry's first 32 bits (02, 2.1)
abbrev pub offset_at : List ℕ → ℕ → ℕ
offset_at bytes i = number32 bytes (entry_place i)

-- how many bytes the file of entry i has: the entry's other 32 bits (02, 2.1)
abbrev pub length_at : List ℕ → ℕ → ℕ
length_at bytes i = number32 bytes (entry_place i + 4)

-- the first byte after the table (02, 2.1)
abbrev pub table_end : List ℕ → ℕ
table_end bytes = entry_place (entry_count bytes)

-- the binder has 64 KiB at most and 1 to 64 entries, and the whole table is in it (02, 2.1)
unfoldable pub table_allowed : List ℕ → Bool
table_allowed bytes = leb (length bytes) 65536 && within 1 64 (entry_count bytes) && leb (table_end bytes) (length bytes)

-- of the n files from the i-th on, the first begins at `at` and each other one where the one before ends, and the last ends the binder
-- (02, 2.1)
abbrev pub back_to_back : List ℕ → ℕ → ℕ → ℕ → Bool
back_to_back bytes at i zero = eqb at (length bytes)
back_to_back bytes at i (suc n) = eqb (offset_at bytes i) at && back_to_back bytes (at + length_at bytes i) (suc i) n

-- all files of the binder stand so, from the end of the table on (02, 2.1)
unfoldable pub files_placed : List ℕ → Bool
files_placed bytes = back_to_back bytes (table_end bytes) 0 (entry_count bytes)

-- 30 where the size, the count or the placing is not so, else 0; no byte of a file is looked at (02, 2.1)
unfoldable pub binder_number : List ℕ → ℕ
binder_number bytes = cond (table_allowed bytes && files_placed bytes) 0 30

-- how many files a binder holds; a refused one holds none (02, 2.1)
unfoldable pub file_count : List ℕ → ℕ
file_count bytes = cond (eqb (binder_number bytes) 0) (entry_count bytes) 0

-- where the i-th file begins, counted from 0; past the last file, at the first byte (02, 2.1)
abbrev pub file_offset : List ℕ → ℕ → ℕ
file_offset bytes i = cond (ltb i (file_count bytes)) (offset_at bytes i) 0

-- how many bytes the i-th file has; past the last file, none (02, 2.1)
abbrev pub file_length : List ℕ → ℕ → ℕ
file_length bytes i = cond (ltb i (file_count bytes)) (length_at bytes i) 0

-- the bytes of the i-th file (02, 2.1)
abbrev pub file_at : List ℕ → ℕ → List ℕ
file_at bytes i = stretch bytes (file_offset bytes i) (file_length bytes i)

-- the n files from the i-th on, in order (02, 2.1)
abbrev pub files_from : List ℕ → ℕ → ℕ → List (List ℕ)
files_from bytes i zero = []
files_from bytes i (suc n) = file_at bytes i ∷ files_from bytes (suc i) n

-- all files of a binder, in order; none of a refused one (02, 2.1)
unfoldable pub files_of : List ℕ → List (List ℕ)
files_of bytes = files_from bytes 0 (file_count bytes)
