-- `host::views::spacing` meets its contract: the spacing of the history that the bytes are read as. Assumes nothing.
use mathlib.Core.Path.{◌≡◌, ap, ◌∙◌}
use Prim.Native.Nat.{ℕ}
use Rattle.history.specs.declared.History.{History}
use Rattle.gaps.specs.declared.Spacings.{Spacings}
use Rattle.replies.specs.Replies.{spacing_numbers, pair_gaps}
use Rattle.host.specs.Calls.{spacings_of}
use Rattle.host.proofs.views.spacing.Goals as goal

spacings-on : (spacing : ℕ) {h g : History} {s : Spacings} → s ≡ spacings_of h spacing → h ≡ g → s ≡ spacings_of g spacing
spacings-on spacing e f = e ∙ ap (λ (x : History). spacings_of x spacing) f

pub returns : goal.returns
returns c =
    let e = spacings-on _ c.spacings_of-s.ensures c.read_history.ensures in record { value = ap (λ (s : Spacings). s.number) e; pairs_after = c.spacing_numbers.ensures ∙ ap spacing_numbers e; miles_after = c.pair_gaps.ensures ∙ ap (λ (s : Spacings). pair_gaps s.pairs) e }
