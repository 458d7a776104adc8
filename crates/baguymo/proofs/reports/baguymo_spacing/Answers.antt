-- `baguymo::reports::baguymo_spacing` meets its contract: the report of the spacing that was handed over. Assumes nothing.
use mathlib.Core.Path.{ap, ◌∙◌}
use mathlib.Core.List.{List, ◌++◌}
use Prim.Native.Nat.{ℕ}
use lib.ListN.{length, drop}
use Rattle.spaced.specs.Spaced.{spaced_of}
use Rattle.baguymo.proofs.NarrowedCalls.{spaced_same}
use Rattle.baguymo.proofs.reports.baguymo_spacing.Goals as goal

pub returns : goal.returns
returns c =
    let file = c.args.file.now in
    let out = c.args.out.now in
    let e = ap (spaced_of file) c.in_16.ensures ∙ spaced_same file _ in record { value = c.spaced.ensures.value ∙ ap length e; out_after = c.spaced.ensures.out_after ∙ ap (λ (report : List ℕ). report ++ drop c.spaced.result out) e; upper_bound = c.spaced.ensures.upper_bound }
