-- `history::check_back` meets its contract, test by test. Assumes nothing.
use mathlib.Core.Path.{◌≡◌, sym, ap, ◌∙◌}
use mathlib.Core.Logic.{inl, inr}
use mathlib.Core.Bool.{cond, not}
use Prim.Native.Nat.{ℕ}
use native.Mathlib.Omega.{arith}
use lib.Dec.{eqb, ltb}
use borrow.Author.Tests.{lt-ltb, le-ltb, eqb-true, eqb-false}
use Rattle.refusals.specs.Refusals.{number_of}
use Rattle.refusals.proofs.Outcomes.{met, unmet, last}
use Rattle.request.specs.Input.{within}
use Rattle.field.proofs.TestLaws.{decided}
use Rattle.history.specs.History.{within_bounds_history, number_back}
use Rattle.history.proofs.check_back.Goals.{In_ok-require, In_ok-require-2}
use Rattle.history.proofs.check_back.Goals as goal

some : (n : ℕ) → not (eqb n 0) ≡ ltb 0 n
some n =
    elim (decided (eqb n 0)) [
      | inl t ↦ let e = eqb-true n 0 t in ap not t ∙ sym (le-ltb 0 n (omega (arith, e)))
      | inr t ↦ let e = eqb-false n 0 t in ap not t ∙ sym (lt-ltb 0 n (omega (arith, e)))
    ]

desk : (c : In_ok-require) {x y : ℕ} → y ≡ x → y ≡ cond (within 1 2 c.args.desk) x 31
unfolding number_of
desk c = met 31 tt c.in_ok-require.ensures c.in_range.ensures

bounds : (c : In_ok-require-2) {x y : ℕ} → y ≡ x → y ≡ cond (within_bounds_history c.args.h) x 10
unfolding number_of
bounds c = met 10 tt c.in_ok-require-2.ensures c.within_bounds_history.ensures

pub returns-in_err-require : goal.returns-in_err-require
unfolding number_back number_of
returns-in_err-require c = unmet 31 _ _ _ c.in_err-require.ensures c.in_range.ensures c.from_residual.ensures.1

pub returns-in_err-require-2 : goal.returns-in_err-require-2
unfolding number_back number_of
returns-in_err-require-2 c =
    let at = goal.at.returns-in_err-require-2 c in
    desk at.In_ok-require (unmet 10 _ _ _ c.in_err-require-2.ensures c.within_bounds_history.ensures c.from_residual-in_err-require-2.ensures.1)

pub returns : goal.returns
unfolding number_back number_of
returns c =
    let at = goal.at.returns c in
    desk at.In_ok-require (bounds at.In_ok-require-2 (last 27 c.require-3.ensures (some c.args.h.count)))
