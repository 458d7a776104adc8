-- What a call does to a field with its kept ones that follow a history of requests. Assumes nothing.
use mathlib.Core.Path.{◌≡◌, refl, sym, ap, ◌∙◌}
use mathlib.Core.Logic.{inl, inr}
use mathlib.Core.List.{List, [], ◌∷◌, ◌++◌}
use Prim.Native.Nat.{ℕ, ◌+◌, ◌-◌, ◌≤◌, ◌<◌}
use native.Mathlib.Omega.{arith}
use lib.Dec.{T, eqb, ltb}
use lib.ListN.{length, get_or, take, drop, set, length-set, length-append}
use lib.Seq.{get_or-set_same, get_or-set_other, take-append_seam, take-append-le, take-take, length-take-le}
use borrow.Author.Tests.{eqb-true, eqb-false, ltb-true, ltb-false}
use Rattle.limits.specs.Limits.{most_kept}
use Rattle.request.specs.declared.Request.{Request}
use Rattle.field.specs.declared.Field.{Field}
use Rattle.field.proofs.TestLaws.{decided, either_way}
use Rattle.finder.specs.declared.Indexed.{Indexed}
use Rattle.rules.specs.Step.{number_of, step_of}
use Rattle.rules.specs.Play.{field_after}
use Rattle.rules.proofs.StepLaws.{number_is}
use Rattle.indexed.specs.Indexed.{with_index}
use Rattle.history.specs.declared.History.{History}
use Rattle.history.specs.History.{history_at_start, keeping, field_given_back}
use Rattle.taken_back.proofs.Starts.{starts}
use Rattle.history.proofs.MovedUp.{moved_up, moved_length, moved_at, moved_last}
use Rattle.taken_back.specs.TakenBack.{field_after_first, Follows}
use Rattle.taken_back.proofs.PlayedBehind.{after_behind, accepted_more, accepted_fewer}

-- at a start
pub follows_start : (start : History) → T (history_at_start start) → Follows start.now.field start []
follows_start start t =
    let p = starts start t in
    let none = p.none in
    record { accepted = tt; now = p.own; few = omega (arith, none); before = omega (arith, none); places = p.places; kept = λ i d k. absurd (omega (arith, none, k)) }

module _ (empty : Field) where
  module _ (h : History) (rs : List Request) (p : Follows empty h rs) where
    abbrev f : Field
    f = field_after empty rs

    pub field_now : h.now.field ≡ f
    unfolding with_index
    field_now = ap (λ (x : Indexed). x.field) p.now

    -- ---- an accepted request more
    module _ (r : Request) where
      abbrev more : List Request
      more = rs ++ (r ∷ [])

      long : length more ≡ length rs + 1
      long = length-append rs (r ∷ [])

      at_before : (k : ℕ) → k ≤ length rs → field_after_first empty rs k ≡ field_after_first empty more k
      at_before k h = sym (ap (λ (l : List Request). with_index (field_after empty l)) (take-append-le k rs (r ∷ []) h))

      at_end : h.now ≡ field_after_first empty more (length rs)
      at_end = p.now ∙ sym (ap (λ (l : List Request). with_index (field_after empty l)) (take-append_seam rs (r ∷ [])))

      next_now : with_index (step_of f r).field ≡ with_index (field_after empty more)
      next_now = ap with_index (sym (after_behind empty rs (r ∷ [])))

      -- behind those that count, ..
      module _ (room : h.count < most_kept) where
        kept_behind : (i : ℕ) (d : Indexed) → i < h.count + 1 → get_or (set h.kept h.count h.now) i d ≡ field_after_first empty more (length more - (h.count + 1) + i)
        kept_behind i d k =
            let e = long in
            let b = p.before in
            let places = p.places in
            elim (decided (eqb i h.count)) [
              | inl t ↦
                  let same = eqb-true i h.count t in
                  let place : length rs ≡ length more - (h.count + 1) + i = omega (arith, e, b, same) in
                  ap (λ (j : ℕ). get_or (set h.kept h.count h.now) j d) same
                  ∙ get_or-set_same h.kept h.count h.now d (omega (arith, places, room)) ∙ at_end ∙ ap (field_after_first empty more) place
              | inr t ↦
                  let other = eqb-false i h.count t in
                  let below : i < h.count = omega (arith, k, other) in
                  let place : length rs - h.count + i ≡ length more - (h.count + 1) + i = omega (arith, e, b) in
                  get_or-set_other h.kept h.count i h.now d other ∙ p.kept i d below
                  ∙ at_before (length rs - h.count + i) (omega (arith, b, below)) ∙ ap (field_after_first empty more) place
            ]

      -- .. and where eight count
      module _ (full : h.count ≡ most_kept) where
        kept_moved : (i : ℕ) (d : Indexed) → i < h.count → get_or (moved_up h.kept h.now) i d ≡ field_after_first empty more (length more - h.count + i)
        kept_moved i d k =
            let e = long in
            let b = p.before in
            let places = p.places in
            elim (decided (eqb i 7)) [
              | inl t ↦
                  let last = eqb-true i 7 t in
                  let place : length rs ≡ length more - h.count + i = omega (arith, e, b, last, full) in
                  moved_last h.kept h.now i d (omega (arith, places, last)) ∙ at_end ∙ ap (field_after_first empty more) place
              | inr t ↦
                  let other = eqb-false i 7 t in
                  let below : i + 1 < h.count = omega (arith, k, full, other) in
                  let place : length rs - h.count + (i + 1) ≡ length more - h.count + i = omega (arith, e, b) in
                  moved_at h.kept h.now i d d (omega (arith, places, below, full)) ∙ p.kept (i + 1) d below
                  ∙ at_before (length rs - h.count + (i + 1)) (omega (arith, b, below)) ∙ ap (field_after_first empty more) place
            ]

      pub follows_keeping : number_of f r ≡ 0 → Follows empty (keeping h (with_index (step_of f r).field)) more
      unfolding keeping
      follows_keeping z =
          let e = long in
          let b = p.before in
          let few = p.few in
          let places = p.places in
          let accepted = accepted_more empty rs r p.accepted (number_is f r ∙ z) in
          either_way (λ (g : History). Follows empty g more) (ltb h.count most_kept)
          (record { now = with_index (step_of f r).field; kept = set h.kept h.count h.now; count = h.count + 1 })
          (record { now = with_index (step_of f r).field; kept = drop 1 h.kept ++ (h.now ∷ []); count = h.count })
          (λ t.
          let room = ltb-true h.count most_kept t in
          record {
            accepted = accepted;
            now = next_now;
            few = omega (arith, room);
            before = omega (arith, e, b);
            places = length-set h.kept h.count h.now ∙ places;
            kept = kept_behind room;
          })
          (λ t.
          let full : h.count ≡ most_kept = (let g = ltb-false h.count most_kept t in omega (arith, g, few)) in
          record {
            accepted = accepted;
            now = next_now;
            few = few;
            before = omega (arith, e, b);
            places = moved_length h.kept h.now (omega (arith, places)) ∙ places;
            kept = kept_moved full;
          })

    -- ---- an accepted request less
    module _ (some : 0 < h.count) where
      abbrev less : List Request
      less = take (length rs - 1) rs

      short : length less ≡ length rs - 1
      short = length-take-le (length rs - 1) rs (omega arith)

      pub follows_given : Follows empty (field_given_back h) less
      unfolding field_given_back
      follows_given =
          let e = short in
          let b = p.before in
          let few = p.few in
          let last : length rs - h.count + (h.count - 1) ≡ length rs - 1 = omega (arith, b, some) in
          record {
            accepted = accepted_fewer empty (length rs - 1) rs p.accepted;
            now = p.kept (h.count - 1) h.now (omega (arith, some)) ∙ ap (field_after_first empty rs) last;
            few = omega (arith, few);
            before = omega (arith, b, e);
            places = p.places;
            kept = λ i d k.
                let place : length rs - h.count + i ≡ length less - (h.count - 1) + i = omega (arith, e, b, some) in
                p.kept i d (omega (arith, k))
                ∙ sym (ap (λ (l : List Request). with_index (field_after empty l)) (take-take (length rs - h.count + i) (length rs - 1) rs (omega (arith, b, k))))
                ∙ ap (field_after_first empty less) place;
          }
