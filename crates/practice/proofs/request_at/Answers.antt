-- `practice::request_at` meets its contract: the six bytes are those of the i-th request. Assumes nothing.
use mathlib.Core.Path.{sym, ap, subst⁻¹, ◌∙◌}
use Prim.Native.Nat.{ℕ, ◌≤◌}
use Rattle.std.specs.Prelude.{Some}
use Rattle.practice.specs.Requests.{requests_of}
use Rattle.practice.proofs.Requests.{count, at_index, reading_past}
use Rattle.practice.proofs.request_at.Goals as goal

pub returns-then-i-body : goal.returns-then-i-body
returns-then-i-body c =
    let a = c.args in
    sym (reading_past (requests_of a.body.now) a.i (subst⁻¹ (λ (n : ℕ). n ≤ a.i) (count a.body.now) c.if-i-body.true))

pub returns : goal.returns
returns c =
    let a = c.args in
    ap Some c.request_of.ensures ∙ sym (at_index a.body.now a.i c.if-i-body.false)
