-- Two histories, the one with all numbers of the other renamed: every request and every step back is answered with the answer renamed, and leaves two such. Assumes nothing.
use mathlib.Core.Path.{◌≡◌, refl, sym, ap, ◌∙◌, subst, subst⁻¹}
use mathlib.Core.Logic.{inl, inr}
use mathlib.Core.Bool.{Bool, cond, ◌&&◌}
use mathlib.Core.List.{List, [], ◌∷◌, ◌++◌, map}
use Prim.Native.Nat.{ℕ, ◌+◌, ◌-◌, ◌≤◌, ◌<◌}
use native.Mathlib.Omega.{arith}
use lib.Dec.{eqb, leb, ltb}
use lib.ListN.{length, get_or, take, drop, get_or-map}
use lib.Seq.{get_or-take, take-take}
use borrow.Author.Tests.{eqb-true, eqb-false}
use Rattle.limits.specs.Limits.{most_kept}
use Rattle.request.specs.Input.{within, first_refused}
use Rattle.request.specs.declared.Request.{Request}
use Rattle.field.specs.declared.Field.{Field}
use Rattle.field.specs.Lists.{every, Each}
use Rattle.field.proofs.TestLaws.{decided, either_way}
use Rattle.finder.specs.declared.Indexed.{Indexed}
use Rattle.finder.specs.Finder.{within_bounds_indexed}
use Rattle.rules.specs.declared.Stepped.{Stepped}
use Rattle.rules.specs.Step.{number_of, number_and_zeros, step_of}
use Rattle.renaming.specs.Renaming.{Renaming, renamed_field, renamed_request, renamed_answer}
use Rattle.renaming.proofs.ListsRenamed.{take_map, drop_map}
use Rattle.renaming.proofs.BoundsRenamed.{within_renamed}
use Rattle.renaming.proofs.NeedsRenamed.{input_renamed}
use Rattle.renaming.proofs.StepsRenamed.{number_renamed, step_renamed}
use Rattle.indexed.specs.Indexed.{with_index}
use Rattle.indexed.proofs.Own.{within_own}
use Rattle.isolated.specs.Isolated.{KeepsRequest}
use Rattle.owners.proofs.EachOfList.{each_drop, each_take, each_append, each_at}
use Rattle.isolated.proofs.Stays.{Stays, own_numbers_stay}
use Rattle.isolated.proofs.Shown.{zeros_stay}
use Rattle.history.specs.declared.History.{History}
use Rattle.history.specs.declared.SteppedHistory.{SteppedHistory}
use Rattle.history.specs.History.{counted, kept_within_bounds, within_bounds_history, keeping, number_history, step_history, number_back, field_given_back, step_back}
use Rattle.history.proofs.StepNumbers as numbers
use Rattle.taken_back.proofs.KeptCounts.{some_kept, keeping_count}
use Rattle.isolated_back.proofs.KeptAfter.{left_of, kept_now, kept_few, kept_places, kept_counted, map_behind}

module _ (d : ℕ) {π : ℕ → ℕ} (p : Renaming π) where
  -- the field under the new numbers, beside the index that is made of it
  abbrev pub renamed : Indexed → Indexed
  renamed x = with_index (renamed_field π x.field)

  -- a field with its own index, on which the numbers of the desk's aircraft stay
  pub record Own (x : Indexed) : Type 0 where
    pub own : x ≡ with_index x.field
    pub stays : Stays d π x.field

  pub record Renamed (g h : History) : Type 0 where
    pub count : g.count ≡ h.count
    pub few : h.count ≤ most_kept
    pub places : length h.kept ≡ most_kept
    pub places_too : length g.kept ≡ most_kept
    pub now : g.now ≡ renamed h.now
    pub kept : counted g ≡ map renamed (counted h)
    pub own_now : Own h.now
    pub own_kept : Each Own (counted h)

  -- ---- the bounds
  bounds_same : (x : Indexed) → Own x → within_bounds_indexed (renamed x) ≡ within_bounds_indexed x
  bounds_same x o =
      within_own (renamed_field π x.field) ∙ within_renamed p x.field ∙ sym (within_own x.field) ∙ sym (ap within_bounds_indexed o.own)

  every_same : (l : List Indexed) → Each Own l → every within_bounds_indexed (map renamed l) ≡ every within_bounds_indexed l
  every_same [] o = refl
  every_same (x ∷ l) o = λ i. bounds_same x o.0 i && every_same l o.1 i

  module _ (g h : History) (q : Renamed g h) where
    kept_same : kept_within_bounds g ≡ kept_within_bounds h
    unfolding kept_within_bounds
    kept_same = λ i. leb (q.count i) most_kept && (ap (every within_bounds_indexed) q.kept ∙ every_same (counted h) q.own_kept) i

    within_same : within_bounds_history g ≡ within_bounds_history h
    unfolding within_bounds_history
    within_same = λ i. kept_same i && (ap within_bounds_indexed q.now ∙ bounds_same h.now q.own_now) i

    field_now : g.now.field ≡ renamed_field π h.now.field
    unfolding with_index
    field_now = ap (λ (x : Indexed). x.field) q.now

    -- ---- the numbers
    number_same : (r : Request) → number_history g (renamed_request π r) ≡ number_history h r
    unfolding number_history
    number_same r =
        let f = h.now.field in
        let on : number_of g.now.field (renamed_request π r) ≡ number_of f r = ap (λ (k : Field). number_of k (renamed_request π r)) field_now ∙ number_renamed p f r in
        λ i. cond (eqb (input_renamed p r i) 0) (cond (within_same i) (on i) 10) (input_renamed p r i)

    back_same : (desk : ℕ) → number_back g desk ≡ number_back h desk
    unfolding number_back
    back_same desk = λ i. first_refused ((31, within 1 2 desk) ∷ (10, within_same i) ∷ (27, ltb 0 (q.count i)) ∷ [])

    -- ---- a field kept
    module _ (next : Indexed) (o : Own next) where
      left_same : left_of g ≡ map renamed (left_of h)
      left_same =
          ap (λ (k : ℕ). cond (ltb k most_kept) (counted g) (drop 1 (counted g))) q.count
          ∙ ap (λ (l : List Indexed). cond (ltb h.count most_kept) l (drop 1 l)) q.kept
          ∙ either_way (λ (l : List Indexed). cond (ltb h.count most_kept) (map renamed (counted h)) (drop 1 (map renamed (counted h))) ≡ map renamed l)
          (ltb h.count most_kept) (counted h) (drop 1 (counted h))
          (λ t. ap (λ (b : Bool). cond b (map renamed (counted h)) (drop 1 (map renamed (counted h)))) t)
          (λ t. ap (λ (b : Bool). cond b (map renamed (counted h)) (drop 1 (map renamed (counted h)))) t ∙ drop_map renamed 1 (counted h))

      few_too : g.count ≤ most_kept
      few_too = let e = q.count in let f = q.few in omega (arith, e, f)

      pub keeping_renamed : Renamed (keeping g (renamed next)) (keeping h next)
      keeping_renamed =
          let cg = kept_counted g q.places_too few_too (renamed next) in
          let ch = kept_counted h q.places q.few next in
          record {
            count =
                keeping_count g (renamed next) ∙ ap (λ (k : ℕ). cond (ltb k most_kept) (k + 1) k) q.count
                ∙ sym (keeping_count h next);
            few = kept_few h q.places q.few next;
            places = kept_places h q.places q.few next;
            places_too = kept_places g q.places_too few_too (renamed next);
            now = kept_now g q.places_too few_too (renamed next) ∙ ap renamed (sym (kept_now h q.places q.few next));
            kept = cg ∙ (λ i. left_same i ++ (q.now i ∷ [])) ∙ sym (map_behind renamed (left_of h) (h.now ∷ [])) ∙ ap (map renamed) (sym ch);
            own_now = subst⁻¹ Own (kept_now h q.places q.few next) o;
            own_kept =
                subst⁻¹ (Each Own) ch
                (each_append Own (left_of h) (h.now ∷ [])
                (either_way (Each Own) (ltb h.count most_kept) (counted h) (drop 1 (counted h)) (λ t. q.own_kept) (λ t. each_drop Own 1 (counted h) q.own_kept))
                (q.own_now, tt));
          }

    -- ---- a field given back
    module _ (some : 0 < h.count) where
      abbrev last : ℕ
      last = h.count - 1

      last_kept : get_or (counted h) last h.now ≡ get_or h.kept last h.now
      last_kept = get_or-take h.count h.kept last h.now (omega (arith, some))

      last_too : get_or g.kept (g.count - 1) g.now ≡ renamed (get_or h.kept last h.now)
      last_too =
          let e = q.count in
          sym (get_or-take g.count g.kept (g.count - 1) g.now (omega (arith, e, some)))
          ∙ (λ i. get_or (q.kept i) (q.count i - 1) (q.now i))
          ∙ get_or-map renamed (counted h) last h.now ∙ ap renamed last_kept

      rest : take last (counted h) ≡ take last h.kept
      rest = take-take last h.count h.kept (omega arith)

      pub given_renamed : Renamed (field_given_back g) (field_given_back h)
      unfolding field_given_back
      given_renamed =
          let few = q.few in
          record {
            count = ap (λ (k : ℕ). k - 1) q.count;
            few = omega (arith, few);
            places = q.places;
            places_too = q.places_too;
            now = last_too;
            kept =
                sym (take-take (g.count - 1) g.count g.kept (omega arith)) ∙ (λ i. take (q.count i - 1) (q.kept i))
                ∙ take_map renamed last (counted h) ∙ ap (map renamed) rest;
            own_now = subst Own last_kept (each_at Own (counted h) last h.now q.own_kept q.own_now);
            own_kept = subst (Each Own) rest (each_take Own last (counted h) q.own_kept);
          }

  -- the field after a request that is accepted
  stepped_renamed : (g h : History) → Renamed g h → (r : Request) → KeepsRequest d π r
      → Renamed (keeping g (with_index (renamed_field π (step_of h.now.field r).field))) (keeping h (with_index (step_of h.now.field r).field))
  unfolding with_index
  stepped_renamed g h q r k =
      let f = h.now.field in keeping_renamed g h q (with_index (step_of f r).field) (record { own = refl; stays = own_numbers_stay d p f r k q.own_now.stays })

  -- ---- a call
  pub record Answered (s t : SteppedHistory) : Type 0 where
    pub answer : s.answer ≡ renamed_answer π t.answer
    pub after : Renamed s.after t.after

  module _ (g h : History) (q : Renamed g h) where
    refused : (n : ℕ) → Answered (record { answer = number_and_zeros n; after = g }) (record { answer = number_and_zeros n; after = h })
    refused n = record { answer = sym (zeros_stay d p n); after = q }

    pub request_renamed : (r : Request) → KeepsRequest d π r → Answered (step_history g (renamed_request π r)) (step_history h r)
    request_renamed r k =
        let f = h.now.field in
        let R = renamed_request π r in
        elim (decided (eqb (number_history h r) 0)) [
          | inl e ↦
              let z = eqb-true (number_history h r) 0 e in
              let on : step_of g.now.field R ≡ record { answer = renamed_answer π (step_of f r).answer; field = renamed_field π (step_of f r).field } =
              ap (λ (k : Field). step_of k R) (field_now g h q) ∙ step_renamed p f r in
              let next = with_index (step_of f r).field in
              subst⁻¹ (λ (s : SteppedHistory). Answered s (step_history h r))
              (sym (numbers.let_through g R (number_same g h q r ∙ z)) ∙ ap (λ (s : Stepped). record { answer = s.answer; after = keeping g (with_index s.field) }) on)
              (subst (Answered (record { answer = renamed_answer π (step_of f r).answer; after = keeping g (with_index (renamed_field π (step_of f r).field)) })) (numbers.let_through h r z)
              (record { answer = refl; after = stepped_renamed g h q r k }))
          | inr e ↦
              let z = eqb-false (number_history h r) 0 e in
              subst (λ (s : SteppedHistory). Answered s (step_history h r)) (numbers.turned_away g R (number_same g h q r) z)
              (subst (Answered (record { answer = number_and_zeros (number_history h r); after = g })) (numbers.turned_away h r refl z) (refused (number_history h r)))
        ]

    pub back_renamed : (desk : ℕ) → Answered (step_back g desk) (step_back h desk)
    back_renamed desk =
        elim (decided (eqb (number_back h desk) 0)) [
          | inl e ↦
              let z = eqb-true (number_back h desk) 0 e in
              subst (λ (s : SteppedHistory). Answered s (step_back h desk)) (numbers.back_let_through g desk (back_same g h q desk ∙ z))
              (subst (Answered (record { answer = number_and_zeros 0; after = field_given_back g })) (numbers.back_let_through h desk z)
              (record { answer = sym (zeros_stay d p 0); after = given_renamed g h q (some_kept h desk z) }))
          | inr e ↦
              let z = eqb-false (number_back h desk) 0 e in
              subst (λ (s : SteppedHistory). Answered s (step_back h desk)) (numbers.back_turned_away g desk (back_same g h q desk) z)
              (subst (Answered (record { answer = number_and_zeros (number_back h desk); after = g })) (numbers.back_turned_away h desk refl z) (refused (number_back h desk)))
        ]
