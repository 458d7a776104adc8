-- `kept_up::without` meets its contract: the entries behind the first with the number move up by a place, and the last place is unused. Assumes nothing.
use mathlib.Core.Logic.{inl, inr}
use mathlib.Core.Bool.{Bool, true, false}
use mathlib.Core.Path.{◌≡◌, refl, sym, ap, ◌∙◌}
use mathlib.Core.List.{List, [], ◌∷◌, ◌++◌}
use Prim.Native.Nat.{ℕ, zero, suc, ◌+◌, ◌<◌}
use native.Mathlib.Omega.{arith}
use borrow.Author.Tests.{tests}
use lib.Dec.{eqb}
use lib.ListN.{length, get_or, take, drop, set}
use Rattle.std.proofs.Common.{rules, None}
use Rattle.std.proofs.lemmas.Iterator.{YieldsList-from_slice}
use Rattle.std.proofs.lemmas.Iterator.Adapters.{position_from-zero}
use Rattle.std.proofs.lemmas.Iterator.Search.{position_from_yields_List}
use Rattle.std.proofs.lemmas.List.Quantifiers.{position-Some}
use Rattle.std.proofs.lemmas.Option.{none-some}
use Rattle.std.specs.List.{position, position_from}
use Rattle.field.proofs.TestLaws.{decided, if_true, if_false}
use Rattle.finder.specs.declared.Entry.{Entry}
use Rattle.finder.specs.Finder.{unused}
use Rattle.finder.proofs.IndexKnown.{index_known}
use Rattle.kept_up.specs.KeptUp.{without}
use Rattle.kept_up.proofs.ClosedUp.{closed_up}
use Rattle.kept_up.proofs.without.Goals as goal
use Rattle.kept_up.proofs.without.Goals.{After-position}

module _ (number : ℕ) where
  abbrev has : Entry → Bool
  has e = eqb e.number number

  -- where none has the number they stay as they are, ..
  stays : (xs : List Entry) (i : ℕ) → position_from has i xs ≡ None → xs ≡ without number xs
  stays [] i e = refl
  stays (x ∷ xs) i e =
      elim (decided (has x)) [
        | inl t ↦ absurd (none-some i (sym e ∙ if_true _ _ t))
        | inr t ↦ ap (λ (es : List Entry). x ∷ es) (stays xs (i + 1) (sym (if_false _ _ t) ∙ e)) ∙ sym (if_false _ _ t)
      ]

  -- .. and the first that has it is left out
  left_out : (xs : List Entry) (k : ℕ) (d : Entry) → k < length xs → has (get_or xs k d) ≡ true → ((j : ℕ) → j < k → has (get_or xs j d) ≡ false)
      → take k xs ++ drop (suc k) xs ++ (unused ∷ []) ≡ without number xs
  left_out [] k d h e f = absurd (omega arith)
  left_out (x ∷ xs) zero d h e f = sym (if_true _ _ e)
  left_out (x ∷ xs) (suc k) d h e f =
      ap (λ (es : List Entry). x ∷ es) (left_out xs k d (omega arith) e (λ j q. f (suc j) (omega arith))) ∙ sym (if_false _ _ (f 0 (omega arith)))

-- the place of the first entry with the number
place_is : (c : After-position) → c.position.result ≡ position (has c.args.number) c.args.index.entries
place_is c =
    position_from_yields_List (has c.args.number) _ _ c.position.result c.position.ensures.ran (YieldsList-from_slice c.args.index.entries cc)
    (λ x b q k. search (rules, tests))

pub returns-in-Some : goal.returns-in-Some
returns-in-Some c =
    let a = c.args in
    let k = c.in-Some.k in
    let found = position-Some (has a.number) a.index.entries k unused (sym (place_is (goal.at.returns-in-Some c).After-position) ∙ c.in-Some.is) in
    let long = (index_known a.index c.well_formed.0).places in
    let below = found.0 in
    ap (λ (es : List Entry). record { entries = es })
    (ap (λ (es : List Entry). set es 4 unused) c.copy_within.ensures.after ∙ closed_up a.index.entries k 4 unused long (omega (arith, long, below))
    ∙ left_out a.number a.index.entries k unused found.0 found.1 found.2)

pub returns-in_default : goal.returns-in_default
returns-in_default c =
    let a = c.args in
    ap (λ (es : List Entry). record { entries = es })
    (stays a.number a.index.entries 0
    (sym (position_from-zero (has a.number) a.index.entries) ∙ sym (place_is (goal.at.returns-in_default c).After-position) ∙ c.in_default.is))
