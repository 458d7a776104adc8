-- Every classroom list has its bytes: they are read as that list. Assumes nothing.
use mathlib.Core.Path.{◌≡◌, refl, ap, ◌∙◌}
use mathlib.Core.List.{List, [], ◌∷◌}
use Prim.Native.Nat.{ℕ, ◌+◌, ◌*◌, ◌/◌, ◌%◌}
use native.Mathlib.Omega.{arith}
use Rattle.dialect.specs.declared.ListEntry.{ListEntry}
use Rattle.dialect_field.specs.Coming.{entries_in}
use Rattle.there_and_back.specs.Encoded.{list_bytes}

halves : (n : ℕ) → n % 256 + 256 * (n / 256) ≡ n
halves n = omega arith

pub list_read_back : (es : List ListEntry) → entries_in (list_bytes es) ≡ es
list_read_back [] = refl
list_read_back (e ∷ es) =
    let same : ◌≡◌ {A = ListEntry}
    (record {
      number = e.number % 256 + 256 * (e.number / 256);
      location = e.location % 256 + 256 * (e.location / 256);
      place = e.place % 256 + 256 * (e.place / 256);
      fix = e.fix % 256 + 256 * (e.fix / 256);
    })
    e
    = λ i. record { number = halves e.number i; location = halves e.location i; place = halves e.place i; fix = halves e.fix i } in
    ap (λ (x : ListEntry). x ∷ entries_in (list_bytes es)) same ∙ ap (λ (l : List ListEntry). e ∷ l) (list_read_back es)
