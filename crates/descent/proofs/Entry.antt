-- Document 02, 2.5, of any field: 20 is never answered; and where it would be, on a field whose arrays have their places, the entry is accepted, and is the
-- descend of the one at 3000 and then the entry. Assumes nothing.
use mathlib.Core.Path.{◌≡◌, sym, ap, ◌∙◌, refl, subst}
use mathlib.Core.Logic.{inl, inr}
use mathlib.Core.Bool.{Bool, true, false, cond, not, ◌&&◌, ◌||◌, true≢false}
use mathlib.Core.List.{List, [], ◌∷◌, ◌++◌}
use Prim.Native.Nat.{ℕ, ◌≤◌}
use native.Mathlib.Omega.{arith}
use borrow.Author.Tests.{eqb-true, eq-eqb, ne_eqb, ltb-true}
use lib.Dec.{T, eqb, ltb}
use lib.Ieee.Fits.{and_i, and_l, and_r}
use lib.ListN.{length, get_or}
use Rattle.leg.specs.Ticks.{Between}
use Rattle.request.specs.Input.{is_entry, is_tick, first_refused, input_number}
use Rattle.request.specs.declared.Request.{Request}
use Rattle.request.proofs.InputTests as input
use Rattle.request.proofs.ByKind.{kind_known, EntryKnown, entry_known}
use Rattle.field.specs.declared.Aircraft.{Aircraft}
use Rattle.field.specs.declared.Field.{Field}
use Rattle.questions.specs.declared.Place.{Place}
use Rattle.field.specs.Airspace.{at3000, at2000, lateral, missed, everywhere, nobody, in_zone}
use Rattle.field.specs.Lists.{is_in, every}
use Rattle.edits.specs.Edits.{with_zone}
use Rattle.questions.specs.Counts.{how_many, is_empty, approach_holds, potential_of}
use Rattle.questions.specs.Find.{aircraft_at, numbers_in}
use Rattle.bounds.specs.Bounds.{within_bounds}
use Rattle.rules.specs.declared.Answer.{Answer}
use Rattle.rules.specs.Kinds.{place_before, zone_before, zone_ahead, absent_checks, head_checks, presence_checks, vertical_needs, lateral_needs, descend_needs}
use Rattle.rules.specs.Kinds.{approach_needs, merge_needs, flown_out_needs, land_needs, exit_needs, descended, entered, shown_to, shown_at3000}
use Rattle.rules.specs.Step.{needs_for, checks_of, effect_of, number_of, number_and_zeros, acceptance, acceptance_on, along_for, answer_of, step_of}
use Rattle.rules.specs.Reason.{has_places}
use Rattle.rules.proofs.Checks.{Never, never_without, never_append, by_kind_lem, owned, input_numbers, presence_refuses, checks_refuse, input_numbered, checks_at}
use Rattle.rules.proofs.StepLaws.{number_is, field_accepted, answer_accepted}
use Rattle.rules.proofs.Refusals.{Passes, accepts, passes}
use Rattle.field.proofs.TestLaws.{passed, pass, decided, if_true, if_false, either_way}
use Rattle.questions.proofs.FindLaws.{found_exactly}
use Rattle.moves.proofs.EnterAbove.{enters_empty, enters_occupied}
use Rattle.descent.specs.Entry.{but_along, descended_before, Never20, needs_before, would20, TwoSteps, InTwoSteps}
use Rattle.descent.proofs.Down.{AloneAbove, down, moved_down, shaped_down, none_above, elsewhere, operation_down, area_down, approach_down, potential_down}
use Rattle.descent.proofs.DownWithin.{present_down, within_down}
use Rattle.descent.proofs.Descent.{shaped, above, descends}
use Rattle.descent.proofs.NeedsCounted.{one_empty, area_counted, three_at_most, somebody_there}
use Rattle.descent.proofs.EntryCounts.{MayEnter}
use Rattle.descent.proofs.EntryWithin.{within_entered}

-- ---- 20 is never answered

-- a list of checks does not answer 20
abbrev Not20 : List (ℕ × Bool) → Type 0
Not20 = Never 20

without_20 : (cs : List (ℕ × Bool)) → T (every (λ c. not (eqb c.0 20)) cs) → Not20 cs
without_20 = never_without 20 (omega arith)

append_20 : (cs ds : List (ℕ × Bool)) → input.Numbered cs → Not20 cs → Not20 ds → Not20 (cs ++ ds)
append_20 = never_append 20

vertical_20 : (f : Field) (side : ℕ) → 1 ≤ side → side ≤ 2 → Not20 (vertical_needs f side)
vertical_20 f side l h e =
    elim (decided (ltb (potential_of f side) 2)) [
      | inl u ↦ without_20 ((17, not (approach_holds f side)) ∷ (18, is_empty f (missed side)) ∷ (19, is_empty f (lateral side)) ∷ []) tt (sym (rest u) ∙ e)
      | inr u ↦ absurd (let n : 16 ≡ 20 = sym (if_false _ 16 u) ∙ e in omega arith)
    ]
  where
    rest : ltb (potential_of f side) 2 ≡ true
        → first_refused (vertical_needs f side) ≡ first_refused ((17, not (approach_holds f side)) ∷ (18, is_empty f (missed side)) ∷ (19, is_empty f (lateral side)) ∷ [])
    rest u =
        if_true _ 16 u
        ∙ ap (λ (c : Bool). cond (not (approach_holds f side)) (cond (is_empty f (missed side)) (cond (is_empty f (lateral side)) (cond c 0 20) 19) 18) 17) (one_empty f side l h u)

checks_20 : (f : Field) (r : Request) → input_number r ≡ 0 → Not20 (checks_of f r)
unfolding checks_of
checks_20 f r i =
    append_20 (presence_checks r.kind at (owned f r)) (needs_for r.kind f r at ahead) (presence_refuses r.kind at (owned f r)) presence
    (by_kind_lem Not20 r.kind (
      (λ k. let known = entry_known r i (kind_known r i).low (omega arith) in vertical_20 f r.side known.side_low known.side_high),
      (λ k. without_20 (lateral_needs f r.side) tt),
      (λ k. without_20 (descend_needs f at.zone) tt),
      (λ k. without_20 (approach_needs f r.number at.zone ahead) tt),
      (λ k. without_20 (merge_needs f r.number at.zone ahead) tt),
      (λ k. without_20 (flown_out_needs f at.zone) tt),
      (λ k. without_20 (land_needs f at.zone) tt),
      (λ k. without_20 [] tt),
      (λ k. without_20 (exit_needs f r.number at.zone) tt),
      (λ k. without_20 [] tt),
      (λ k. without_20 (flown_out_needs f at.zone) tt),
      without_20 [] tt,
    ))
  where
    at : Place
    at = place_before f r

    ahead : ℕ
    ahead = zone_ahead f r

    presence : Not20 (presence_checks r.kind at (owned f r))
    presence =
        either_way Not20 (is_entry r.kind) (absent_checks at) (cond (is_tick r.kind) [] (head_checks r.kind at (owned f r))) (λ e. without_20 (absent_checks at) tt)
        (λ e. either_way Not20 (is_tick r.kind) [] (head_checks r.kind at (owned f r)) (λ u. without_20 [] tt) (λ u. without_20 (head_checks r.kind at (owned f r)) tt))

-- 20 is never answered, on any field at all.
pub never_20 : Never20
unfolding number_of
never_20 f r e =
    elim (input_numbered r) [
      | inl i ↦ judged i (sym (if_true _ (input_number r) (eq-eqb (input_number r) 0 i)) ∙ n)
      | inr t ↦
          let own : input_number r ≡ 20 = sym (if_false _ (input_number r) (ne_eqb (input_number r) 0 (λ z. subst (λ (m : ℕ). T (input_numbers m)) z t))) ∙ n in
          absurd (subst (λ (m : ℕ). T (input_numbers m)) own t)
    ]
  where
    n : number_of f r ≡ 20
    n = sym (number_is f r) ∙ e

    judged : input_number r ≡ 0 → Not20 ((10, within_bounds f) ∷ checks_of f r ++ ((25, within_bounds (effect_of f r)) ∷ []))
    judged i =
        append_20 ((10, within_bounds f) ∷ []) (checks_of f r ++ ((25, within_bounds (effect_of f r)) ∷ [])) (tt, tt) (without_20 ((10, within_bounds f) ∷ []) tt)
        (append_20 (checks_of f r) ((25, within_bounds (effect_of f r)) ∷ []) (checks_refuse f r) (checks_20 f r i) (without_20 ((25, within_bounds (effect_of f r)) ∷ []) tt))

-- ---- where 20 would be answered

-- the one need that is not met
record OnlyAbove (f : Field) (r : Request) : Type 0 where
  kind_1 : r.kind ≡ 1
  input_0 : input_number r ≡ 0
  before : T (within_bounds f)
  absent : eqb (place_before f r).zone 0 ≡ true
  few : ltb (potential_of f r.side) 2 ≡ true
  approach : not (approach_holds f r.side) ≡ true
  no_missed : is_empty f (missed r.side) ≡ true
  no_lateral : is_empty f (lateral r.side) ≡ true
  taken : is_empty f (at3000 r.side) ≡ false

only_above : (f : Field) (r : Request) → T (would20 f r) → OnlyAbove f r
unfolding would20
only_above f r t =
    let a = eqb r.kind 1 in
    let b = eqb (input_number r) 0 in
    let c = within_bounds f in
    let d = eqb (first_refused (needs_before f r)) 20 in
    let three = and_l (a && b && c) d t in
    let two = and_l (a && b) c three in
    go (eqb-true r.kind 1 (passed (and_l a b two))) (eqb-true (input_number r) 0 (passed (and_r a b two))) (and_r (a && b) c three)
    (eqb (place_before f r).zone 0) (ltb (potential_of f r.side) 2) (not (approach_holds f r.side)) (is_empty f (missed r.side)) (is_empty f (lateral r.side)) (is_empty f (at3000 r.side))
    refl refl refl refl refl refl (eqb-true (first_refused (needs_before f r)) 20 (passed (and_r (a && b && c) d t)))
  where
    go : r.kind ≡ 1 → input_number r ≡ 0 → T (within_bounds f) → (p q u v w x : Bool) → eqb (place_before f r).zone 0 ≡ p → ltb (potential_of f r.side) 2 ≡ q
        → not (approach_holds f r.side) ≡ u → is_empty f (missed r.side) ≡ v → is_empty f (lateral r.side) ≡ w → is_empty f (at3000 r.side) ≡ x
        → ◌≡◌ {A = ℕ} (cond p (cond q (cond u (cond v (cond w (cond x 0 20) 19) 18) 17) 16) 11) 20 → OnlyAbove f r
    go k i t true true true true true false e1 e2 e3 e4 e5 e6 n =
        record { kind_1 = k; input_0 = i; before = t; absent = e1; few = e2; approach = e3; no_missed = e4; no_lateral = e5; taken = e6 }
    go k i t true true true true true true e1 e2 e3 e4 e5 e6 n = absurd (omega (arith, n))
    go k i t true true true true false x e1 e2 e3 e4 e5 e6 n = absurd (omega (arith, n))
    go k i t true true true false w x e1 e2 e3 e4 e5 e6 n = absurd (omega (arith, n))
    go k i t true true false v w x e1 e2 e3 e4 e5 e6 n = absurd (omega (arith, n))
    go k i t true false u v w x e1 e2 e3 e4 e5 e6 n = absurd (omega (arith, n))
    go k i t false q u v w x e1 e2 e3 e4 e5 e6 n = absurd (omega (arith, n))

-- nobody is shown as 0
shown_nobody : (desk : ℕ) → shown_to desk nobody ≡ 0
unfolding shown_to
shown_nobody desk = either_way (λ (n : ℕ). n ≡ 0) (eqb 0 desk) 0 0 (λ e. refl) (λ e. refl)

module _ (f : Field) (h : T (has_places f)) (r : Request) (o : OnlyAbove f r) where
  abbrev side : ℕ
  side = r.side

  t : T (within_bounds f)
  t = o.before

  k : r.kind ≡ 1
  k = o.kind_1

  occupied : is_empty f (at3000 side) ≡ false
  occupied = o.taken

  known : EntryKnown r
  known = entry_known r o.input_0 (kind_known r o.input_0).low (let e = o.kind_1 in omega (arith, e))

  b : Between 1 2 side
  b = record { least = known.side_low; most = known.side_high }

  -- one of the holdings is empty, so 2000
  room : (is_empty f (at3000 side) || is_empty f (at2000 side)) ≡ true
  room = one_empty f side b.least b.most o.few

  below : is_empty f (at2000 side) ≡ true
  below = sym (ap (λ (c : Bool). c || is_empty f (at2000 side)) occupied) ∙ room

  abbrev alone : AloneAbove f side
  alone = above f t side b (shaped f h t) occupied below

  -- the field after the descend
  abbrev g : Field
  g = down alone

  is_down : descended f side ≡ g
  is_down = moved_down alone

  -- .. which is the first step
  first_step : descended_before f r ≡ g
  first_step = (descends f h t side b occupied below).lower ∙ is_down

  -- a zone of the side that is neither holding is as it was
  same_empty : (z : ℕ) → 5 ≤ z → is_empty g z ≡ is_empty f z
  unfolding how_many
  same_empty z l =
      let m = b.most in
      ap (λ (q : List Aircraft). eqb (length q) 0) (elsewhere alone z (λ e. omega arith) (λ e. omega arith))

  nobody_above : in_zone g side ≡ []
  nobody_above = none_above alone

  empty_above : is_empty g side ≡ true
  unfolding how_many
  empty_above = ap (λ (q : List Aircraft). eqb (length q) 0) nobody_above

  -- the two ways lead to one field
  same_effect : effect_of g r ≡ effect_of f r
  same_effect = enters_empty g r k empty_above ∙ ap (λ (q : Field). entered q r side) (sym is_down) ∙ sym (enters_occupied f r k occupied)

  -- ---- both are accepted

  -- what an entry needs on a field that is f or g
  checked : (q : Field) → eqb (place_before q r).zone 0 ≡ true → potential_of q side ≡ potential_of f side → approach_holds q side ≡ approach_holds f side
      → ((z : ℕ) → 5 ≤ z → is_empty q z ≡ is_empty f z) → (is_empty q (at3000 side) || is_empty q (at2000 side)) ≡ true → first_refused (checks_of q r) ≡ 0
  checked q away potential approach same free =
      let l = b.least in
      ap first_refused (checks_at q r k)
      ∙ input.none_refused (absent_checks (place_before q r) ++ vertical_needs q side) (
        away,
        (
          ap (λ (n : ℕ). ltb n 2) potential ∙ o.few,
          (
            ap not approach ∙ o.approach,
            (same (missed side) (omega arith) ∙ o.no_missed, (same (lateral side) (omega arith) ∙ o.no_lateral, (free, tt))),
          ),
        ),
      )

  nobody_yet : is_in r.number (numbers_in g everywhere) ≡ false
  nobody_yet = present_down t alone r.number ∙ not_in (is_in r.number (numbers_in f everywhere)) (sym (found_exactly f r.number) ∙ o.absent)
    where
      not_in : (c : Bool) → not c ≡ true → c ≡ false
      not_in true e = absurd (true≢false (sym e))
      not_in false e = refl

  enters : MayEnter g r
  unfolding with_zone
  enters =
      record {
        shaped = shaped_down alone;
        bounds = within_down t alone;
        known = known;
        absent = nobody_yet;
        above = none_above alone;
        beside = same_empty (lateral side) (let l = b.least in omega (arith, l)) ∙ o.no_lateral;
        somebody = somebody_there f t side b occupied;
        three = (let e = operation_down alone in let few = three_at_most f t side b (ltb-true (potential_of f side) 2 o.few) in omega (arith, e, few));
        one = (let e = area_down alone side b in let few = area_counted f side b.least b.most in let p = ltb-true (potential_of f side) 2 o.few in omega (arith, e, few, p));
      }

  after_within : within_bounds (effect_of f r) ≡ true
  after_within = ap within_bounds (sym same_effect ∙ enters_empty g r k empty_above) ∙ passed (within_entered enters)

  number_0 : number_of f r ≡ 0
  number_0 =
      accepts f r (record {
        input = o.input_0;
        before = passed t;
        checks = checked f o.absent refl refl (λ z l. refl) room;
        after = after_within;
      })

  then_passes : Passes g r
  then_passes =
      let free : (is_empty g side || is_empty g (at2000 side)) ≡ true = ap (λ (c : Bool). c || is_empty g (at2000 side)) empty_above in
      record {
        input = o.input_0;
        before = passed (within_down t alone);
        checks = checked g (found_exactly g r.number ∙ ap not nobody_yet) (potential_down alone) (approach_down alone side) same_empty free;
        after = ap within_bounds same_effect ∙ after_within;
      }

  then_0 : number_of g r ≡ 0
  then_0 = accepts g r then_passes

  -- the answer of an entry on a field
  answer_is : (q : Field) → number_of q r ≡ 0 → (step_of q r).answer ≡ acceptance_on (effect_of q r) r (shown_at3000 q r.desk side)
  unfolding answer_of
  answer_is q e = answer_accepted q r e ∙ ap (λ (j : ℕ). cond (eqb j 12) (number_and_zeros 0) (acceptance_on (effect_of q r) r (along_for j q r (zone_before q r)))) k

  -- Document 02, 2.5: it is accepted, and is the descend of the one at 3000 and then the entry.
  two_steps : TwoSteps f r
  unfolding acceptance shown_at3000 aircraft_at
  two_steps =
      record {
        accepted = number_is f r ∙ number_0;
        descend_accepted = (descends f h t side b occupied below).accepted;
        same_field = field_accepted f r number_0 ∙ sym same_effect ∙ sym (field_accepted g r then_0) ∙ ap (λ (q : Field). (step_of q r).field) (sym first_step);
        same_answer =
            ap but_along (answer_is f number_0)
            ∙ ap (λ (q : Field). but_along (acceptance_on q r 0)) (sym same_effect)
            ∙ sym (ap but_along (answer_is g then_0))
            ∙ ap (λ (q : Field). but_along (step_of q r).answer) (sym first_step);
        along = ap (λ (a : Answer). a.along) (answer_is f number_0);
        then_nobody =
            ap (λ (q : Field). (step_of q r).answer.along) first_step
            ∙ ap (λ (a : Answer). a.along) (answer_is g then_0)
            ∙ ap (λ (q : List Aircraft). shown_to r.desk (get_or (nobody ∷ q) 1 nobody)) nobody_above
            ∙ shown_nobody r.desk;
      }

pub in_two_steps : InTwoSteps
in_two_steps f h r t = two_steps f h r (only_above f r t)

-- An accepted vertical entry beside an occupied 3000 is one where 20 would be answered.
pub was_20 : (f : Field) (r : Request) → r.kind ≡ 1 → (step_of f r).answer.number ≡ 0 → is_empty f (at3000 r.side) ≡ false → T (would20 f r)
unfolding would20
was_20 f r k accepted occupied =
    let all = passes f r (sym (number_is f r) ∙ accepted) in
    let met = input.passed (absent_checks (place_before f r) ++ vertical_needs f r.side) (tt, (tt, (tt, (tt, (tt, (tt, tt)))))) (sym (ap first_refused (checks_at f r k)) ∙ all.checks) in
    let is : first_refused (needs_before f r) ≡ 20 =
    if_true _ 11 met.0 ∙ if_true _ 16 met.1.0 ∙ if_true _ 17 met.1.1.0 ∙ if_true _ 18 met.1.1.1.0 ∙ if_true _ 19 met.1.1.1.1.0 ∙ if_false 0 20 occupied in
    let a = eqb r.kind 1 in
    let b = eqb (input_number r) 0 in
    let c = within_bounds f in
    and_i (a && b && c) (eqb (first_refused (needs_before f r)) 20)
    (and_i (a && b) c (and_i a b (pass (eq-eqb r.kind 1 k)) (pass (eq-eqb (input_number r) 0 all.input))) (pass all.before))
    (pass (eq-eqb (first_refused (needs_before f r)) 20 is))
