-- `baguymo::reports::baguymo_write` meets its contract: the parts of what `write` answers, with the legs as they were handed over. Assumes nothing.
use mathlib.Core.Path.{◌≡◌, refl, ap, ◌∙◌}
use mathlib.Core.Bool.{cond}
use mathlib.Core.List.{List, [], ◌∷◌, ◌++◌}
use Prim.Native.Nat.{ℕ}
use native.Mathlib.Omega.{arith}
use lib.Dec.{eqb}
use lib.ListN.{length, set, drop}
use Rattle.practice.specs.declared.FileLegs.{FileLegs}
use Rattle.writer.specs.declared.Writing.{Writing}
use Rattle.writer.specs.Writer.{file_of, writing_number, writing_of, buffer_after}
use Rattle.baguymo.proofs.NarrowedCalls.{written_same}
use Rattle.baguymo.proofs.reports.baguymo_write.Goals.{After-lent-1}
use Rattle.baguymo.proofs.reports.baguymo_write.Goals as goal

-- a list of one number, written
one_number : (l : List ℕ) (n : ℕ) → length l ≡ 1 → set l 0 n ≡ n ∷ []
one_number [] n h = absurd (omega arith)
one_number (x ∷ []) n h = refl
one_number (x ∷ y ∷ l) n h = absurd (omega arith)

one_lent : (c : After-lent-1) → length c.args.size.now ≡ 1
one_lent c = c.lent-1.given.0.1

pub bounds-lent-0 : goal.bounds-lent-0
bounds-lent-0 c = let h = one_lent (goal.at.bounds-lent-0 c).After-lent-1 in omega arith

pub returns : goal.returns
returns c =
    let a = c.args in
    let bytes = a.requests.now in
    let out = a.out.now in
    let e = c.legs_in_16-legs.ensures in record {
      value = ap (λ (x : Writing). x.number) c.write-w.ensures.value ∙ ap (λ (x : FileLegs). writing_number x bytes (length out)) e ∙ written_same (λ n _. n) (λ _ _. refl) _ bytes (length out);
      out_after = c.write-w.ensures.out_after
          ∙ ap (λ (x : FileLegs). buffer_after x bytes out) e
          ∙ written_same (λ n x. cond (eqb n 0) (file_of x bytes ++ drop (length (file_of x bytes)) out) out) (λ _ _. refl) _ bytes (length out);
      size_after = one_number a.size.now c.write-w.result.length (one_lent (goal.at.returns c).After-lent-1)
          ∙ ap (λ (x : Writing). x.length ∷ []) c.write-w.ensures.value
          ∙ ap (λ (x : FileLegs). (writing_of x bytes (length out)).length ∷ []) e
          ∙ written_same (λ n x. cond (eqb n 0) (length (file_of x bytes)) 0 ∷ []) (λ _ _. refl) _ bytes (length out);
    }
