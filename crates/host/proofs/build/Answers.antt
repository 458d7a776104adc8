-- `host::build` meets its contract: the number and the state of the field that was built. Assumes nothing.
use mathlib.Core.Path.{ap, ◌∙◌}
use Rattle.dialect_field.specs.declared.Built.{Built}
use Rattle.host.proofs.CallsOnState.{built_stored}
use Rattle.host.proofs.build.Goals as goal

pub returns : goal.returns
returns c =
    let state = c.args.state.now in
    let e = c.field_of_list-b.ensures in record { value = ap (λ (b : Built). b.number) e; state_after = c.store_after.ensures ∙ built_stored state c.start_with.ensures e }
