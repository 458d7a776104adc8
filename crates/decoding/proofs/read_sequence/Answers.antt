-- `decoding::read_sequence` meets its contract: four numbers, and the length. Assumes nothing.
use mathlib.Core.Path.{◌≡◌, ap, ◌∙◌}
use mathlib.Core.List.{List, [], ◌∷◌}
use Prim.Native.Nat.{ℕ, ◌+◌}
use native.Mathlib.Omega.{arith}
use Rattle.practice.specs.File.{number16}
use Rattle.words.specs.Words.{number64}
use Rattle.field.specs.declared.Sequence.{Sequence}
use Rattle.layout.specs.Read.{read_sequence}
use Rattle.decoding.proofs.read_sequence.Goals as goal

made : (bytes : List ℕ) (at : ℕ) {x y z w n : ℕ} → x ≡ number16 bytes at → y ≡ number16 bytes (at + 2) → z ≡ number16 bytes (at + 4) → w ≡ number16 bytes (at + 6)
    → n ≡ number64 bytes (at + 8)
    → ◌≡◌ {A = Sequence} (record { numbers = x ∷ y ∷ z ∷ w ∷ []; length = n }) (read_sequence bytes at)
unfolding read_sequence
made bytes at x y z w n =
    let third : at + 4 ≡ at + 2 + 2 = omega arith in
    let fourth : at + 6 ≡ at + 2 + 2 + 2 = omega arith in
    λ t. record { numbers = x t ∷ y t ∷ (z ∙ ap (number16 bytes) third) t ∷ (w ∙ ap (number16 bytes) fourth) t ∷ []; length = n t }

pub returns : goal.returns
returns c =
    let a = c.args in
    made a.bytes.now a.at c.number16-first.ensures c.number16-second.ensures c.number16-third.ensures c.number16-fourth.ensures c.number64.ensures
