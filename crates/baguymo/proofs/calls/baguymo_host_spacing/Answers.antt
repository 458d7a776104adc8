-- `baguymo::calls::baguymo_host_spacing` meets its contract: the spacing that was handed over. Assumes nothing.
use mathlib.Core.Path.{ap, ◌∙◌}
use Rattle.gaps.specs.declared.Spacings.{Spacings}
use Rattle.replies.specs.Replies.{spacing_numbers, pair_gaps}
use Rattle.layout.specs.Read.{read_history}
use Rattle.host.specs.Calls.{spacings_of}
use Rattle.baguymo.proofs.NarrowedCalls.{spacings_same}
use Rattle.baguymo.proofs.calls.baguymo_host_spacing.Goals as goal

pub returns : goal.returns
returns c =
    let state = c.args.state.now in
    let e = ap (spacings_of (read_history state)) c.in_16.ensures ∙ spacings_same (read_history state) _ in record { value = c.spacing.ensures.value ∙ ap (λ (s : Spacings). s.number) e; pairs_after = c.spacing.ensures.pairs_after ∙ ap spacing_numbers e; miles_after = c.spacing.ensures.miles_after ∙ ap (λ (s : Spacings). pair_gaps s.pairs) e }
