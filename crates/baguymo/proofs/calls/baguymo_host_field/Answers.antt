-- `baguymo::calls::baguymo_host_field` meets its contract: the field of a list, with the legs and the speed as they were handed over. Assumes nothing.
use mathlib.Core.Path.{ap, ◌∙◌}
use mathlib.Core.Bool.{cond}
use Prim.Native.Nat.{ℕ}
use lib.Dec.{eqb}
use Rattle.practice.specs.declared.FileLegs.{FileLegs}
use Rattle.history.specs.History.{start_with}
use Rattle.layout.specs.Read.{read_history}
use Rattle.layout.specs.Written.{state_after}
use Rattle.dialect_field.specs.declared.Built.{Built}
use Rattle.dialect_field.specs.Coming.{field_of_list}
use Rattle.baguymo.proofs.Narrowed.{narrow_legs}
use Rattle.baguymo.proofs.NarrowedCalls.{list_same}
use Rattle.baguymo.proofs.calls.baguymo_host_field.Goals as goal

pub returns : goal.returns
returns c =
    let a = c.args in
    let state = a.state.now in
    let bytes = a.list.now in
    let wide : FileLegs = record { base = a.base; intermediate = a.intermediate; final_approach = a.final_approach; missed = a.missed } in
    let e =
    ap (λ (legs : FileLegs). field_of_list legs c.in_16.result bytes) c.legs_in_16.ensures
    ∙ ap (λ (n : ℕ). field_of_list (narrow_legs wide) n bytes) c.in_16.ensures
    ∙ list_same wide a.speed bytes in record { value = c.build.ensures.value ∙ ap (λ (b : Built). b.number) e; state_after = c.build.ensures.state_after ∙ ap (λ (b : Built). state_after state b.number (cond (eqb b.number 0) (start_with b.after) (read_history state))) e }
