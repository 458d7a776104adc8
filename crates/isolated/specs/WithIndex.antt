-- The claim of two desks, with the index beside the field (02, 2.9 and 2.10). Definitions only.
use Rattle.std.specs.Prelude.{◌≡◌, List, ℕ, T, length}
use Rattle.request.specs.declared.Request.{Request}
use Rattle.finder.specs.declared.Indexed.{Indexed}
use Rattle.finder.specs.Finder.{within_bounds_indexed}
use Rattle.rules.specs.Play.{of_desk}
use Rattle.indexed.specs.Indexed.{with_index, played_indexed}
use Rattle.isolated.specs.Isolated.{renamed_others, renamed_other_requests, KeepsOwn}

-- From any field within the bounds with its own index: this desk's requests and answers are the same when the other desk's numbers are renamed on the field and in
-- the list, and the index is put in order again, so that it is the renamed field's own (02, 2.10).
abbrev pub IsolationIndexed : Type 0
IsolationIndexed =
    (x : Indexed) → length x.field.zones ≡ 13 → T (within_bounds_indexed x) → (d : ℕ) (rs : List Request) (π : ℕ → ℕ) → KeepsOwn d π x.field rs
    → of_desk d (played_indexed (with_index (renamed_others d π x.field)) (renamed_other_requests d π rs)) ≡ of_desk d (played_indexed x rs)
