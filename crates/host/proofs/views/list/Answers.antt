-- `host::views::list` meets its contract: the list of the history that the bytes are read as. Assumes nothing.
use mathlib.Core.Path.{ap, ◌∙◌}
use Rattle.dialect.specs.declared.Listing.{Listing}
use Rattle.replies.specs.Replies.{listing_numbers}
use Rattle.host.specs.Calls.{listing_of}
use Rattle.host.proofs.views.list.Goals as goal

pub returns : goal.returns
returns c =
    let e = c.listing_of-l.ensures ∙ ap listing_of c.read_history.ensures in record { value = ap (λ (l : Listing). l.number) e; entries_after = c.listing_numbers.ensures ∙ ap listing_numbers e }
