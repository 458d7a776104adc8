-- A classroom list as the bytes that coming back is lent (02, 2.12). Definitions only.
use Rattle.std.specs.Prelude.{ℕ, List, [], ◌∷◌, ◌++◌}
use Rattle.practice.specs.Practice.{bytes16}
use Rattle.dialect.specs.declared.ListEntry.{ListEntry}

-- an entry as eight bytes, two for each of number, location, place and fix, the low byte first
abbrev pub list_entry_bytes : ListEntry → List ℕ
list_entry_bytes e = bytes16 e.number ++ bytes16 e.location ++ bytes16 e.place ++ bytes16 e.fix

-- one entry after the other
abbrev pub list_bytes : List ListEntry → List ℕ
list_bytes [] = []
list_bytes (e ∷ es) = list_entry_bytes e ++ list_bytes es
