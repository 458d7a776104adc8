-- The kept fields that count after a field is kept. Assumes nothing.
use mathlib.Core.Path.{◌≡◌, refl, sym, ap, ◌∙◌}
use mathlib.Core.Logic.{inl, inr}
use mathlib.Core.Bool.{cond}
use mathlib.Core.List.{List, [], ◌∷◌, ◌++◌, map}
use Prim.Native.Nat.{◌+◌, ◌≤◌}
use native.Mathlib.Numerals.{add-one}
use native.Mathlib.Omega.{arith}
use lib.Dec.{ltb}
use lib.ListN.{length, take, drop, set, length-set}
use lib.Seq.{take_all, take-suc-set}
use borrow.Author.Tests.{ltb-true, ltb-false}
use Rattle.limits.specs.Limits.{most_kept}
use Rattle.field.proofs.TestLaws.{decided, if_true, if_false}
use Rattle.finder.specs.declared.Indexed.{Indexed}
use Rattle.history.specs.declared.History.{History}
use Rattle.history.specs.History.{counted, keeping}
use Rattle.history.proofs.MovedUp.{moved_up, moved_length}
use Rattle.taken_back.proofs.KeptCounts.{keeping_count}

-- the kept fields that still count when one more is kept
abbrev pub left_of : History → List Indexed
left_of h = cond (ltb h.count most_kept) (counted h) (drop 1 (counted h))

module _ (h : History) (places : length h.kept ≡ most_kept) (few : h.count ≤ most_kept) (next : Indexed) where
  pub kept_now : (keeping h next).now ≡ next
  unfolding keeping
  kept_now =
      elim (decided (ltb h.count most_kept)) [
        | inl t ↦ ap (λ (g : History). g.now) (if_true _ _ t)
        | inr t ↦ ap (λ (g : History). g.now) (if_false _ _ t)
      ]

  pub kept_few : (keeping h next).count ≤ most_kept
  kept_few =
      let e = keeping_count h next in
      elim (decided (ltb h.count most_kept)) [
        | inl t ↦ let room = ltb-true h.count most_kept t in let k = e ∙ if_true _ _ t in omega (arith, k, room)
        | inr t ↦ let k = e ∙ if_false _ _ t in omega (arith, k, few)
      ]

  pub kept_places : length (keeping h next).kept ≡ most_kept
  unfolding keeping
  kept_places =
      elim (decided (ltb h.count most_kept)) [
        | inl t ↦ ap (λ (g : History). length g.kept) (if_true _ _ t) ∙ length-set h.kept h.count h.now ∙ places
        | inr t ↦ ap (λ (g : History). length g.kept) (if_false _ _ t) ∙ moved_length h.kept h.now (omega (arith, places)) ∙ places
      ]

  pub kept_counted : counted (keeping h next) ≡ left_of h ++ (h.now ∷ [])
  unfolding keeping
  kept_counted =
      elim (decided (ltb h.count most_kept)) [
        | inl t ↦
            let room = ltb-true h.count most_kept t in
            let behind : take (h.count + 1) (set h.kept h.count h.now) ≡ counted h ++ (h.now ∷ []) = rw add-one (take-suc-set h.kept h.count h.now (omega (arith, places, room))) in
            ap counted (if_true _ _ t) ∙ behind ∙ sym (ap (λ (l : List Indexed). l ++ (h.now ∷ [])) (if_true _ _ t))
        | inr t ↦
            let full : h.count ≡ most_kept = (let g = ltb-false h.count most_kept t in omega (arith, g, few)) in
            let long = moved_length h.kept h.now (omega (arith, places)) in
            let all : counted h ≡ h.kept = take_all h.count h.kept (omega (arith, places, full)) in
            ap counted (if_false _ _ t) ∙ take_all h.count (moved_up h.kept h.now) (omega (arith, places, full, long))
            ∙ ap (λ (l : List Indexed). drop 1 l ++ (h.now ∷ [])) (sym all) ∙ sym (ap (λ (l : List Indexed). l ++ (h.now ∷ [])) (if_false _ _ t))
      ]

pub map_behind : {A B : Type 0} (g : A → B) (l m : List A) → map g (l ++ m) ≡ map g l ++ map g m
map_behind g [] m = refl
map_behind {B = B} g (x ∷ l) m = ap (λ (r : List B). g x ∷ r) (map_behind g l m)
