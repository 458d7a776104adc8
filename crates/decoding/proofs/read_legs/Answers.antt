-- `decoding::read_legs` meets its contract: four times miles. Assumes nothing.
use mathlib.Core.Path.{◌≡◌, ap, ◌∙◌}
use mathlib.Core.List.{List}
use Prim.Native.Nat.{ℕ, ◌+◌}
use lib.Ieee.{Float}
use Rattle.words.specs.Words.{number64, miles_of}
use Rattle.field.specs.declared.Legs.{Legs}
use Rattle.layout.specs.Read.{read_legs}
use Rattle.decoding.proofs.read_legs.Goals as goal

-- miles of the 64 bits at a place
abbrev milesAt : List ℕ → ℕ → Float
milesAt bytes at = miles_of (number64 bytes at)

made : (bytes : List ℕ) (at : ℕ) {m b i f : Float} → m ≡ milesAt bytes at → b ≡ milesAt bytes (at + 8) → i ≡ milesAt bytes (at + 16) → f ≡ milesAt bytes (at + 24)
    → ◌≡◌ {A = Legs} (record { missed = m; base = b; intermediate = i; final_approach = f }) (read_legs bytes at)
unfolding read_legs
made bytes at p q r s t = record { missed = p t; base = q t; intermediate = r t; final_approach = s t }

pub returns : goal.returns
returns c =
    let a = c.args in
    made a.bytes.now a.at
    (c.miles_of.ensures ∙ ap miles_of c.number64.ensures)
    (c.miles_of-2.ensures ∙ ap miles_of c.number64-2.ensures)
    (c.miles_of-3.ensures ∙ ap miles_of c.number64-3.ensures)
    (c.miles_of-4.ensures ∙ ap miles_of c.number64-4.ensures)
