-- `press::hold_down` meets its contract: on a field within the bounds it is held down, and any other field is refused. Assumes nothing.
use mathlib.Core.Path.{sym, ap, ◌∙◌, subst⁻¹}
use mathlib.Core.List.{List}
use Prim.Native.Nat.{ℕ}
use native.Mathlib.Omega.{arith}
use lib.ListN.{length}
use Rattle.field.proofs.TestLaws.{pass}
use Rattle.text.specs.Buffer.{Put}
use Rattle.text.proofs.Texts.{put_none, put_same}
use Rattle.press.specs.declared.Held.{Held}
use Rattle.press.specs.HeldDown.{ending_number}
use Rattle.press.proofs.Pressing.{held_refused, held_number, no_lines}
use Rattle.press.proofs.hold_down.Goals as goal

pub held_within-requires : goal.held_within-requires
held_within-requires c = pass (sym c.within_bounds.ensures ∙ c.if-within_bounds.true)

pub shape_of-out-then-within_bounds : goal.shape_of-out-then-within_bounds
shape_of-out-then-within_bounds c = put_same c.held_within.ensures.put

pub returns-then-within_bounds : goal.returns-then-within_bounds
returns-then-within_bounds c =
    let held = c.held_within.ensures in
    record {
      held_value = held.held_value;
      ending_value = ap (λ (h : Held). ending_number h.ending) held.held_value ∙ held_number c.args.f;
      put = held.put;
      f_len_bound = held.f_len_bound;
    }

pub returns : goal.returns
returns c =
    let a = c.args in
    let e = sym c.within_bounds.ensures ∙ c.if-within_bounds.false in
    let none = no_lines a.f e in
    let l = ap length none in record { held_value = held_refused a.f e; ending_value = ap (λ (h : Held). ending_number h.ending) (held_refused a.f e) ∙ held_number a.f; put = subst⁻¹ (λ (bytes : List ℕ). Put a.out.now 0 bytes a.out.now 0) none (put_none a.out.now 0); f_len_bound = omega arith }
