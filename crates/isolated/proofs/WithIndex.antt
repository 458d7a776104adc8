-- The theorem of two desks with the index beside the field (02, 2.9 and 2.10). Assumes nothing.
use mathlib.Core.Path.{◌≡◌, sym, ap, ◌∙◌}
use mathlib.Core.List.{List}
use lib.Dec.{T}
use Rattle.request.specs.declared.Request.{Request}
use Rattle.field.proofs.TestLaws.{pass}
use Rattle.finder.specs.declared.Indexed.{Indexed}
use Rattle.finder.specs.Finder.{within_bounds_indexed}
use Rattle.rules.specs.Play.{played, of_desk}
use Rattle.indexed.specs.Indexed.{with_index, played_indexed}
use Rattle.indexed.proofs.StepsIndexed.{field_within, index_own}
use Rattle.indexed.proofs.Own.{played_own}
use Rattle.isolated.specs.Isolated.{renamed_others, renamed_other_requests}
use Rattle.isolated.specs.WithIndex.{IsolationIndexed}
use Rattle.isolated.proofs.Isolation.{isolation}

-- on a field with its own index a list is answered as on the field
played_within : (x : Indexed) → T (within_bounds_indexed x) → (rs : List Request) → played_indexed x rs ≡ played x.field rs
unfolding with_index
played_within x w rs = ap (λ (y : Indexed). played_indexed y rs) own ∙ played_own x.field rs
  where
    own : x ≡ with_index x.field
    own i = record { field = x.field; index = index_own x w i }

-- One desk's answers are as they were when the other desk's numbers are renamed and the index is put in order again (02, 2.10).
pub isolation_indexed : IsolationIndexed
isolation_indexed x long w d rs π k =
    ap (of_desk d) (played_own (renamed_others d π x.field) (renamed_other_requests d π rs))
    ∙ isolation x.field long (pass (field_within x w)) d rs π k
    ∙ sym (ap (of_desk d) (played_within x w rs))
