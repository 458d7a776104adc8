-- A step on a field that an orderly line stands for: what an accepted request leaves behind. Assumes nothing.
use mathlib.Core.Path.{◌≡◌, refl, sym, ap, ◌∙◌, subst}
use mathlib.Core.Logic.{inl, inr}
use mathlib.Core.Bool.{Bool, true, false, not, ◌&&◌, ◌||◌, true≢false, false≢true, not-not}
use mathlib.Core.List.{List, [], ◌∷◌, ◌++◌}
use Prim.Native.Nat.{ℕ, ◌≤◌}
use native.Mathlib.Omega.{arith}
use lib.Dec.{T, leb, ltb, eqb, leb→le, le→leb}
use lib.ListN.{length}
use lib.Ieee.Fits.{and_i, and_l, and_r}
use borrow.Author.Tests.{eq-eqb, eqb-true}
use Rattle.request.specs.Input.{within, is_entry, first_refused, input_number}
use Rattle.request.specs.declared.Request.{Request}
use Rattle.request.proofs.InputTests as input
use Rattle.request.proofs.ByKind.{EntryKnown, kind_known, entry_known, tick_known}
use Rattle.field.specs.declared.Aircraft.{Aircraft}
use Rattle.field.specs.declared.Legs.{Legs}
use Rattle.field.specs.declared.Field.{Field}
use Rattle.questions.specs.declared.Place.{Place}
use Rattle.field.specs.Airspace.{is_flying_zone, at3000, at2000, lateral, missed, approach}
use Rattle.field.specs.Lists.{is_in}
use Rattle.questions.specs.Counts.{total, approach_holds, potential_of, is_empty}
use Rattle.questions.specs.Find.{place_of}
use Rattle.field.proofs.Shapes.{one_of_two}
use Rattle.order.specs.Model.{Side, right_side, left_side, num, count_fix, free, potential, may_come_in, may_enter}
use Rattle.order.proofs.Facts.{enter, enter_lateral, enter_above}
use Rattle.rules.specs.Kinds.{place_before, zone_before, absent_checks, presence_checks, vertical_needs, lateral_needs, descended, entered}
use Rattle.rules.specs.Step.{checks_of}
use Rattle.field.proofs.TestLaws.{passed, failed, pass, decided, each_operation}
use Rattle.field.proofs.NumberLists.{absent_both, absent_left, absent_right, or_false_left}
use Rattle.line.proofs.AheadInLists.{map_append}
use Rattle.line.proofs.Line.{Placed, zones_in, numbers_of, field_of}
use Rattle.line.proofs.CountedOnLine.{how_many_lem, approach_holds_lem, potential_is}
use Rattle.questions.proofs.FindLaws.{numbers, at}
use Rattle.line.proofs.Located.{located, located_runway}
use Rattle.line.proofs.Orderly.{Orderly, Split, first_in}
use Rattle.moves.proofs.AfterAccepted.{After, zone_in, zones_split, okay_split}
use Rattle.moves.proofs.Heads.{find_line}
use Rattle.rules.proofs.Checks.{besides, owned, checks_at, effect_at}
use Rattle.field.proofs.ArrivalLaws.{into_arrived}
use Rattle.moves.proofs.Moves.{into, same_numbers}
use Rattle.moves.proofs.Carried.{WentAlong, onward_into}
use Rattle.moves.proofs.EnterAbove.{enters_empty, enters_occupied, lowered, lowered_is, lowered_orderly, MayDescend, after_above}
use Rattle.moves.proofs.AtEnds.{after_entry, after_12}
use Rattle.moves.proofs.EachMove.{three, four, five, six, seven, eight, nine, ten, eleven}

-- ---- a side of a request
side_known : (n : ℕ) → 1 ≤ n → n ≤ 2 → (s : Side) × (n ≡ num s)
side_known n l h = one_of_two (λ (m : ℕ). (s : Side) × (m ≡ num s)) 1 n l (omega arith) (right_side, refl) (left_side, refl)

-- ---- kinds 1 and 2
module _ (f : Side) (line : List Placed) (runway : List Aircraft) (legs : Legs) (o : Orderly f line runway legs) (r : Request) where
  abbrev F : Field
  F = field_of f line runway legs

  abbrev zs : List ℕ
  zs = zones_in line

  -- 11 does not apply: nobody has the number
  not_on : (xs : List Aircraft) → runway ≡ xs → length xs ≤ 1 → eqb (zone_before F r) 0 ≡ true → is_in r.number (numbers_of line) ≡ false → is_in r.number (numbers xs) ≡ false
  not_on [] e h t d = refl
  not_on (x ∷ []) e h t d =
      elim (decided (eqb x.number r.number)) [
        | inl b ↦
            let n : r.number ≡ x.number = sym (eqb-true x.number r.number b) in
            let p : place_of F r.number ≡ at 13 1 =
            ap (λ (l : List Aircraft). place_of (field_of f line l legs) r.number) e ∙ ap (place_of (field_of f line (x ∷ []) legs)) n
            ∙ located_runway f line x legs (ap (λ (m : ℕ). is_in m (numbers_of line)) (sym n) ∙ d) in
            absurd (false≢true (ap (λ (q : Place). eqb q.zone 0) (sym p) ∙ t))
        | inr b ↦ ap (λ (c : Bool). c || false) b
      ]
  not_on (x ∷ y ∷ rest) e h t d = absurd (omega arith)

  new_number : eqb (zone_before F r) 0 ≡ true → is_in r.number (numbers_of line ++ numbers runway) ≡ false
  new_number t =
      elim (find_line r.number line) [
        | inl i ↦
            let q = subst (λ (l : List Placed). Orderly f l runway legs) i.whole o in
            let u = zone_in f i.ahead i.here i.behind runway legs q in
            let p =
            ap (λ (l : List Placed). (place_of (field_of f l runway legs) r.number).zone) i.whole
            ∙ ap (λ (n : ℕ). (place_of (field_of f (i.ahead ++ i.here ∷ i.behind) runway legs) n).zone) i.named
            ∙ ap (λ (x : Place). x.zone) (located f i.ahead i.here i.behind runway legs q.different u) in
            let z = eqb-true (zone_before F r) 0 t in
            absurd (let l = leb→le 1 i.here.zone (and_l (leb 1 i.here.zone) (leb i.here.zone 12) u) in omega arith)
        | inr d ↦ absent_both r.number (numbers_of line) (numbers runway) d (not_on runway refl o.one_landed t d)
      ]

  module _ (s : Side) (side : r.side ≡ num s) where
    empty_zone_lem : (w : ℕ → ℕ) → T (within 1 12 (w (num s))) → is_empty F (w r.side) ≡ true → T (free zs (w (num s)))
    empty_zone_lem w t e = pass (sym (ap (λ (n : ℕ). eqb n 0) (how_many_lem f line runway legs (w (num s)) t)) ∙ ap (λ (n : ℕ). is_empty F (w n)) (sym side) ∙ e)

    -- what a vertical entry needs of the side's zones, by their numbers
    record Above : Type 0 where
      missed_in : T (within 1 12 (missed (num s)))
      lateral_in : T (within 1 12 (lateral (num s)))
      high_in : T (within 1 12 (at3000 (num s)))
      low_in : T (within 1 12 (at2000 (num s)))
      high : T (within 1 2 (at3000 (num s)))
      high_waits : T (not (is_flying_zone (at3000 (num s))))
      low_waits : T (not (is_flying_zone (at2000 (num s))))

    module _ (k : r.kind ≡ 1) (known : EntryKnown r) (c : first_refused (absent_checks (place_before F r) ++ vertical_needs F r.side) ≡ 0) (v : Above) where
      needs_met : input.Passed (absent_checks (place_before F r) ++ vertical_needs F r.side)
      needs_met = input.passed (absent_checks (place_before F r) ++ vertical_needs F r.side) (tt, (tt, (tt, (tt, (tt, (tt, tt)))))) c

      may_come_lem : T (may_come_in f zs (num s))
      may_come_lem =
          let p = needs_met in
          let t16 : ltb (potential f zs (num s)) 2 ≡ true = ap (λ (n : ℕ). ltb n 2) (sym (potential_is f line runway legs o.alternates (num s)) ∙ ap (potential_of F) (sym side)) ∙ p.1.0 in
          let t17 : eqb (total (count_fix f zs (num s)) approach) 0 ≡ true =
          sym (not-not (eqb (total (count_fix f zs (num s)) approach) 0))
          ∙ ap not (sym (approach_holds_lem f line runway legs o.alternates (num s)) ∙ ap (approach_holds F) (sym side)) ∙ p.1.1.0 in
          let a = ltb (potential f zs (num s)) 2 in
          let b = eqb (total (count_fix f zs (num s)) approach) 0 in
          let m = free zs (missed (num s)) in
          and_i (a && b && m) (free zs (lateral (num s))) (and_i (a && b) m (and_i a b (pass t16) (pass t17)) (empty_zone_lem missed v.missed_in p.1.1.1.0))
          (empty_zone_lem lateral v.lateral_in p.1.1.1.1.0)

      empty_there : (l : List Placed) → T (free (zones_in l) (at3000 (num s))) → is_empty (field_of f l runway legs) (at3000 r.side) ≡ true
      empty_there l t = ap (λ (n : ℕ). is_empty (field_of f l runway legs) (at3000 n)) side ∙ ap (λ (n : ℕ). eqb n 0) (how_many_lem f l runway legs (at3000 (num s)) v.high_in) ∙ passed t

      -- into an empty 3000, of a line with the same numbers
      into_empty : (l : List Placed) → Orderly f l runway legs → numbers_of line ≡ numbers_of l → T (may_enter f (zones_in l) (num s))
          → is_empty (field_of f l runway legs) (at3000 r.side) ≡ true → After f l runway legs r
      into_empty l q ns may e =
          after_entry
          (record {
            orderly = q;
            entry = subst (λ (j : ℕ). T (is_entry j)) (sym k) tt;
            known = known;
            side_is = side;
            new_number = subst (λ (m : List ℕ). is_in r.number (m ++ numbers runway) ≡ false) ns (new_number needs_met.0);
            inside = v.high_in;
            not_flown = v.high_waits;
            effect = enters_empty (field_of f l runway legs) r k e ∙ ap (λ (n : ℕ). entered (field_of f l runway legs) r (at3000 n)) side;
            okay_after = enter f s (zones_in l) q.okay_line may;
          })

      second_holds : {p q : Bool} → p ≡ false → (p || q) ≡ true → q ≡ true
      second_holds {q = q} h u = sym (ap (λ (t : Bool). t || q) h) ∙ u

      -- the zones of the line, split at the first one at 3000
      zones_at : (d : Split (at3000 (num s)) line) → zs ≡ zones_in d.ahead ++ d.here.zone ∷ zones_in d.behind
      zones_at d = ap zones_in d.whole ∙ zones_split d.ahead d.here d.behind

      -- the one at 3000 may descend
      may_descend : is_empty F (at3000 r.side) ≡ false → (d : Split (at3000 (num s)) line) → MayDescend f d.ahead d.here d.behind runway legs
      may_descend e d =
          let zones = zones_in d.ahead ++ d.here.zone ∷ zones_in d.behind in
          let low = subst (λ (l : List ℕ). T (free l (at2000 (num s)))) (zones_at d) (empty_zone_lem at2000 v.low_in (second_holds e needs_met.1.1.1.1.1.0)) in
          record {
            orderly = subst (λ (l : List Placed). Orderly f l runway legs) d.whole o;
            heads = subst (λ (z : ℕ). T (free (zones_in d.ahead) z)) (sym d.at_zone_is) d.none_ahead;
            needs_met = subst (λ (z : ℕ). T (within 1 2 z && free zones (at2000 z))) (sym d.at_zone_is) (and_i (within 1 2 (num s)) (free zones (at2000 (num s))) v.high low);
          }

      -- and once it has, another may enter
      may_follow : (e : is_empty F (at3000 r.side) ≡ false) (d : Split (at3000 (num s)) line) → T (may_enter f (zones_in (lowered (may_descend e d))) (num s))
      may_follow e d =
          let a = d.ahead in
          let g = d.here in
          let b = d.behind in
          let down = may_descend e d in
          let come = subst (λ (z : ℕ). T (may_come_in f (zones_in a ++ g.zone ∷ zones_in b) z)) (sym d.at_zone_is) (subst (λ (l : List ℕ). T (may_come_in f l (num s))) (zones_at d) may_come_lem) in
          subst (λ (z : ℕ). T (may_enter f (zones_in (lowered down)) z)) d.at_zone_is
          (subst (λ (ys : List ℕ). T (may_enter f ys g.zone)) (sym (zones_split a (into legs (at2000 g.zone) g) b))
          (enter_above f (zones_in a) g.zone (zones_in b) (okay_split f a g b down.orderly.okay_line) down.needs_met come))

      -- beside one at 3000, with nobody at 2000
      beside : is_empty F (at3000 r.side) ≡ false → Split (at3000 (num s)) line → After f line runway legs r
      beside e d =
          let a = d.ahead in
          let g = d.here in
          let b = d.behind in
          let down = may_descend e d in
          let l = lowered down in
          let F₀ = field_of f (a ++ g ∷ b) runway legs in
          let enters = may_follow e d in
          let free-above = empty_there l (and_r (may_come_in f (zones_in l) (num s)) (free (zones_in l) (at3000 (num s))) enters) in
          subst (λ (m : List Placed). After f m runway legs r) (sym d.whole)
          (after_above down r k (goes_along d)
          (enters_occupied F₀ r k (subst (λ (m : List Placed). is_empty (field_of f m runway legs) (at3000 r.side) ≡ false) d.whole e)
          ∙ ap (λ (h : Field). entered h r (at3000 r.side)) (ap (descended F₀) (side ∙ sym d.at_zone_is) ∙ lowered_is down)
          ∙ sym (enters_empty (field_of f l runway legs) r k free-above))
          (into_empty l (lowered_orderly down)
          (ap numbers_of d.whole ∙ same_numbers a g (into legs (at2000 g.zone) g) b (sym (into_arrived legs (at2000 g.zone) g.aircraft).number)) enters free-above))
        where
          -- the one at 3000 has another number than the one that enters
          other_than : (d : Split (at3000 (num s)) line) → d.here.aircraft.number ≡ r.number → ⊥
          other_than d n =
              let g = d.here in
              let a = d.ahead in
              let b = d.behind in
              let absent = absent_left r.number (numbers_of line) (numbers runway) (new_number needs_met.0) in
              let split = ap (is_in r.number) (sym (ap numbers_of d.whole ∙ map_append (λ (p : Placed). p.aircraft.number) a (g ∷ b))) ∙ absent in
              let here = or_false_left (eqb g.aircraft.number r.number) (is_in r.number (numbers_of b)) (absent_right r.number (numbers_of a) (numbers_of (g ∷ b)) split) in
              true≢false (sym (eq-eqb g.aircraft.number r.number n) ∙ here)

          -- the one at 3000 goes along
          goes_along : (d : Split (at3000 (num s)) line) → WentAlong legs r d.here (into legs (at2000 d.here.zone) d.here)
          goes_along d =
              record {
                onward = onward_into legs (at2000 d.here.zone) d.here;
                not_named = other_than d;
                waited_before = ap is_flying_zone d.at_zone_is ∙ failed {b = is_flying_zone (at3000 (num s))} v.high_waits;
                waits_after = ap (λ (z : ℕ). is_flying_zone (at2000 z)) d.at_zone_is ∙ failed {b = is_flying_zone (at2000 (num s))} v.low_waits;
              }

    entry_1 : r.kind ≡ 1 → EntryKnown r → first_refused (absent_checks (place_before F r) ++ vertical_needs F r.side) ≡ 0 → Above → After f line runway legs r
    entry_1 k known c v =
        elim (decided (is_empty F (at3000 r.side))) [
          | inl e ↦ into_empty k known c v line o refl (and_i (may_come_in f zs (num s)) (free zs (at3000 (num s))) (may_come_lem k known c v) (empty_zone_lem at3000 v.high_in e)) e
          | inr e ↦ elim (first_in (at3000 (num s)) line) [ inl t ↦ absurd (true≢false (sym (empty_there k known c v line t) ∙ e)) | inr d ↦ beside k known c v e d ]
        ]

    pub entry_2 : r.kind ≡ 2 → EntryKnown r → first_refused (absent_checks (place_before F r) ++ lateral_needs F r.side) ≡ 0 → T (within 1 12 (lateral (num s)))
        → T (not (is_flying_zone (lateral (num s)))) → After f line runway legs r
    entry_2 k known c tl tf =
        let p = input.passed (absent_checks (place_before F r) ++ lateral_needs F r.side) (tt, (tt, tt)) c in
        let t16 : eqb (potential f zs (num s)) 0 ≡ true = ap (λ (n : ℕ). eqb n 0) (sym (potential_is f line runway legs o.alternates (num s)) ∙ ap (potential_of F) (sym side)) ∙ p.1.0 in
        after_entry
        (record {
          orderly = o;
          entry = subst (λ (j : ℕ). T (is_entry j)) (sym k) tt;
          known = known;
          side_is = side;
          new_number = new_number p.0;
          inside = tl;
          not_flown = tf;
          effect = effect_at F r k ∙ ap (λ (n : ℕ). entered F r (lateral n)) side;
          okay_after = enter_lateral f s zs o.okay_line (pass t16);
        })

  one_side : (s : Side) → r.side ≡ num s → r.kind ≡ 1 → EntryKnown r → first_refused (absent_checks (place_before F r) ++ vertical_needs F r.side) ≡ 0 → After f line runway legs r
  unfolding is_flying_zone
  one_side right_side side k known c = entry_1 right_side side k known c (record { missed_in = tt; lateral_in = tt; high_in = tt; low_in = tt; high = tt; high_waits = tt; low_waits = tt })
  one_side left_side side k known c = entry_1 left_side side k known c (record { missed_in = tt; lateral_in = tt; high_in = tt; low_in = tt; high = tt; high_waits = tt; low_waits = tt })

  two_side : (s : Side) → r.side ≡ num s → r.kind ≡ 2 → EntryKnown r → first_refused (absent_checks (place_before F r) ++ lateral_needs F r.side) ≡ 0 → After f line runway legs r
  unfolding is_flying_zone
  two_side right_side side k known c = entry_2 right_side side k known c tt tt
  two_side left_side side k known c = entry_2 left_side side k known c tt tt

  -- ---- every kind
  pub accepted_after : input_number r ≡ 0 → first_refused (checks_of F r) ≡ 0 → After f line runway legs r
  accepted_after i c =
      let known = kind_known r i in
      let at-kind : (k : ℕ) → r.kind ≡ k → first_refused (presence_checks k (place_before F r) (owned F r) ++ besides F r k) ≡ 0 = λ k h. ap first_refused (sym (checks_at F r h)) ∙ c in
      let side : r.kind ≤ 2 → (s : Side) × (r.side ≡ num s) = λ h. let e = entry_known r i known.low h in side_known r.side e.side_low e.side_high in
      each_operation (λ (k : ℕ). r.kind ≡ k → After f line runway legs r) (
        (λ h. let s = side (omega arith) in one_side s.0 s.1 h (entry_known r i known.low (omega arith)) (at-kind 1 h)),
        (λ h. let s = side (omega arith) in two_side s.0 s.1 h (entry_known r i known.low (omega arith)) (at-kind 2 h)),
        (λ h. three o r h (at-kind 3 h)),
        (λ h. four o r h (at-kind 4 h)),
        (λ h. five o r h (at-kind 5 h)),
        (λ h. six o r h (at-kind 6 h)),
        (λ h. seven o r h (at-kind 7 h)),
        (λ h. eight o r h (at-kind 8 h)),
        (λ h. nine o r h (at-kind 9 h)),
        (λ h. ten o r h (at-kind 10 h)),
        (λ h. eleven o r h (at-kind 11 h)),
        (λ h. let t = tick_known r i h in after_12 o r h (record { least = t.amount_low; most = t.amount_high })),
      )
      r.kind
      (and_i (leb 1 r.kind) (leb r.kind 12) (le→leb 1 r.kind known.low) (le→leb r.kind 12 known.high))
      refl
