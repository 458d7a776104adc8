-- `decoding::read_aircraft` meets its contract: each part is read from its own place. Assumes nothing.
use mathlib.Core.Path.{◌≡◌, ap, ◌∙◌}
use mathlib.Core.List.{List}
use Prim.Native.Nat.{ℕ, ◌+◌}
use lib.Ieee.{Float}
use lib.ListN.{get_or}
use Rattle.practice.specs.File.{number16}
use Rattle.words.specs.Words.{number64, miles_of}
use Rattle.leg.specs.declared.Progress.{Progress}
use Rattle.field.specs.declared.Aircraft.{Aircraft}
use Rattle.layout.specs.Read.{progress_of, read_aircraft}
use Rattle.decoding.proofs.read_aircraft.Goals as goal

made : (bytes : List ℕ) (at : ℕ) {n v : ℕ} {p : Progress} {w l : Float}
    → n ≡ number16 bytes at → v ≡ number16 bytes (at + 4) → p ≡ progress_of (number64 bytes (at + 6)) → w ≡ miles_of (number64 bytes (at + 14))
    → l ≡ miles_of (number64 bytes (at + 22))
    → ◌≡◌ {A = Aircraft} (record { number = n; fix = get_or bytes (at + 2) 0; desk = get_or bytes (at + 3) 0; speed = v; progress = p; waited = w; leg = l }) (read_aircraft bytes at)
unfolding read_aircraft
made bytes at n v p w l t = record { number = n t; fix = get_or bytes (at + 2) 0; desk = get_or bytes (at + 3) 0; speed = v t; progress = p t; waited = w t; leg = l t }

pub returns : goal.returns
returns c =
    let a = c.args in
    made a.bytes.now a.at c.number16.ensures c.number16-2.ensures
    (c.progress_of-progress.ensures ∙ ap progress_of c.number64.ensures)
    (c.miles_of.ensures ∙ ap miles_of c.number64-2.ensures)
    (c.miles_of-2.ensures ∙ ap miles_of c.number64-3.ensures)
