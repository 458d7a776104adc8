-- `decoding::read_zone` meets its contract: four aircraft, and the length. Assumes nothing.
use mathlib.Core.Path.{◌≡◌, ap, ◌∙◌}
use mathlib.Core.List.{List, [], ◌∷◌}
use Prim.Native.Nat.{ℕ, ◌+◌}
use native.Mathlib.Omega.{arith}
use Rattle.words.specs.Words.{number64}
use Rattle.field.specs.declared.Aircraft.{Aircraft}
use Rattle.field.specs.declared.Zone.{Zone}
use Rattle.layout.specs.Read.{read_aircraft, read_zone}
use Rattle.decoding.proofs.read_zone.Goals as goal

made : (bytes : List ℕ) (at : ℕ) {x y z w : Aircraft} {n : ℕ} → x ≡ read_aircraft bytes at → y ≡ read_aircraft bytes (at + 30) → z ≡ read_aircraft bytes (at + 60) → w ≡ read_aircraft bytes (at + 90)
    → n ≡ number64 bytes (at + 120)
    → ◌≡◌ {A = Zone} (record { aircraft = x ∷ y ∷ z ∷ w ∷ []; length = n }) (read_zone bytes at)
unfolding read_zone
made bytes at x y z w n =
    let third : at + 60 ≡ at + 30 + 30 = omega arith in
    let fourth : at + 90 ≡ at + 30 + 30 + 30 = omega arith in
    λ t. record { aircraft = x t ∷ y t ∷ (z ∙ ap (read_aircraft bytes) third) t ∷ (w ∙ ap (read_aircraft bytes) fourth) t ∷ []; length = n t }

pub returns : goal.returns
returns c =
    let a = c.args in
    made a.bytes.now a.at c.read_aircraft-first.ensures c.read_aircraft-second.ensures c.read_aircraft-third.ensures c.read_aircraft-fourth.ensures c.number64.ensures
