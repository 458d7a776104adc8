-- The zone that a request leads to is one of the thirteen. Assumes nothing.
use mathlib.Core.Bool.{◌&&◌}
use mathlib.Core.Path.{◌≡◌, ap, subst⁻¹}
use mathlib.Core.Logic.{inl, inr}
use Prim.Native.Nat.{ℕ, ◌+◌, ◌%◌, ◌≤◌}
use native.Mathlib.Omega.{arith}
use borrow.Author.Tests.{eqb-true}
use lib.Dec.{eqb, leb}
use Rattle.leg.specs.Ticks.{Between}
use Rattle.request.specs.Input.{within}
use Rattle.request.specs.declared.Request.{Request}
use Rattle.field.specs.Airspace.{side_of}
use Rattle.field.specs.declared.Sequence.{Sequence}
use Rattle.field.proofs.TestLaws.{decided, either_way}
use Rattle.rules.specs.Kinds.{may_approach}
use Rattle.rules.proofs.Checks.{by_kind_lem}
use Rattle.kept_up.specs.KeptUp.{approach_to, hold_to, leads_to}

-- what holds of both sides holds of the side of a zone
pub of_side : (P : ℕ → Type 0) (z : ℕ) → P 1 → P 2 → P (side_of z)
unfolding side_of
of_side P z a b = either_way P (eqb (z % 2) 1) 1 2 (λ e. a) (λ e. b)

-- Whatever the request and the field, it is one of the thirteen.
pub leads_within : (kind : ℕ) (r : Request) (z : ℕ) (s : Sequence) (ahead across above below fix : ℕ) → Between 1 13 (leads_to kind r z s ahead across above below fix)
unfolding leads_to approach_to hold_to
leads_within kind r z s ahead across above below fix =
    by_kind_lem (Between 1 13) kind (
      (λ e. own r.side),
      (λ e. side 4 r.side (omega arith)),
      (λ e. side 2 z (omega arith)),
      (λ e.
          either_way (Between 1 13) (within 5 6 z) _ _
          (λ t. either_way (Between 1 13) (may_approach s r.number ahead && leb across 1) _ _ (λ u. side 8 z (omega arith)) (λ u. side 2 z (omega arith))) (λ t. side 8 z (omega arith))),
      (λ e. one 11 (omega arith) (omega arith)),
      (λ e. one 12 (omega arith) (omega arith)),
      (λ e. one 13 (omega arith) (omega arith)),
      (λ e. one 13 (omega arith) (omega arith)),
      (λ e. one 13 (omega arith) (omega arith)),
      (λ e. side 6 fix (omega arith)),
      (λ e.
          either_way (Between 1 13) (eqb above 0) _ _ (λ t. either_way (Between 1 13) (eqb below 0) _ _ (λ u. side 2 z (omega arith)) (λ u. own z)) (λ t. own z)),
      one 13 (omega arith) (omega arith),
    )
  where
    one : (n : ℕ) → 1 ≤ n → n ≤ 13 → Between 1 13 n
    one n a b = record { least = a; most = b }

    side : (low z : ℕ) → low ≤ 8 → Between 1 13 (low + side_of z)
    side low z h = of_side (λ (s : ℕ). Between 1 13 (low + s)) z (one (low + 1) (omega arith) (omega arith)) (one (low + 2) (omega arith) (omega arith))

    own : (z : ℕ) → Between 1 13 (side_of z)
    own z = of_side (Between 1 13) z (one 1 (omega arith) (omega arith)) (one 2 (omega arith) (omega arith))

-- Only an approach asks for the zone of the leader, and only a miss for the fix.
pub leads_alike : (kind : ℕ) (r : Request) (z : ℕ) (s : Sequence) (across above below : ℕ) {ahead ahead' fix fix' : ℕ} → (kind ≡ 4 → ahead ≡ ahead') → (kind ≡ 10 → fix ≡ fix')
    → leads_to kind r z s ahead across above below fix ≡ leads_to kind r z s ahead' across above below fix'
unfolding leads_to
leads_alike kind r z s across above below {ahead} {ahead'} {fix} {fix'} h k =
    elim (decided (eqb kind 4)) [
      | inl t ↦ let q = eqb-true kind 4 t in subst⁻¹ Alike q (ap (λ (a : ℕ). approach_to z s r.number a across) (h q))
      | inr t ↦
          elim (decided (eqb kind 10)) [
            | inl u ↦ let q = eqb-true kind 10 u in subst⁻¹ Alike q (ap (λ (x : ℕ). 6 + side_of x) (k q))
            | inr u ↦ simp (t, u)
          ]
    ]
  where
    Alike : ℕ → Type 0
    Alike j = leads_to j r z s ahead across above below fix ≡ leads_to j r z s ahead' across above below fix'
