-- `decoding::read_entry` meets its contract: the number, and two bytes. Assumes nothing.
use mathlib.Core.Path.{◌≡◌}
use mathlib.Core.List.{List}
use Prim.Native.Nat.{ℕ, ◌+◌}
use lib.ListN.{get_or}
use Rattle.practice.specs.File.{number16}
use Rattle.finder.specs.declared.Entry.{Entry}
use Rattle.layout.specs.Read.{read_entry}
use Rattle.decoding.proofs.read_entry.Goals as goal

made : (bytes : List ℕ) (at : ℕ) {n : ℕ} → n ≡ number16 bytes at
    → ◌≡◌ {A = Entry} (record { number = n; zone = get_or bytes (at + 2) 0; place = get_or bytes (at + 3) 0 }) (read_entry bytes at)
made bytes at n t = record { number = n t; zone = get_or bytes (at + 2) 0; place = get_or bytes (at + 3) 0 }

pub returns : goal.returns
returns c =
    let a = c.args in
    made a.bytes.now a.at c.number16.ensures
