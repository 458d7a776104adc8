-- What a hold and the two entries do to the queues: a move, or a way to 3000 of a side or onto the field. Assumes nothing.
use mathlib.Core.Path.{◌≡◌, refl, sym, ap, ◌∙◌, subst, subst⁻¹}
use mathlib.Core.Logic.{◌⊎◌, inl, inr}
use mathlib.Core.Bool.{true, ◌||◌}
use Prim.Native.Nat.{ℕ, ◌+◌, ◌≤◌}
use native.Mathlib.Omega.{arith}
use borrow.Author.Tests.{eqb-true}
use lib.Dec.{leb, leb→le}
use lib.Ieee.Fits.{and_l, and_r}
use lib.ListN.{length}
use Rattle.request.specs.Input.{within}
use Rattle.request.specs.declared.Request.{Request}
use Rattle.request.proofs.InputTests.{within_low, within_high}
use Rattle.request.proofs.ByKind.{entry_known}
use Rattle.field.specs.declared.Field.{Field}
use Rattle.field.specs.Airspace.{right, left, side_of, in_zone, zone_of, entering}
use Rattle.edits.specs.Edits.{with_sequence}
use Rattle.field.proofs.TestParts.{or_else}
use Rattle.field.proofs.TestLaws.{decided, if_true, if_false, each_from}
use Rattle.questions.specs.Counts.{how_many, is_empty, in_area}
use Rattle.bounds.specs.Bounds.{bound_b}
use Rattle.laws.proofs.BoundLaws.{within_each}
use Rattle.rules.specs.Kinds.{zone_before, starts_from, moved, made_room, entered_above, entered, held, fix_taken}
use Rattle.rules.specs.Step.{effect_of}
use Rattle.rules.proofs.Checks.{effect_at}
use Rattle.kept_up.specs.KeptUp.{hold_to, leads_to}
use Rattle.rules.proofs.HeadOfRequest.{bounded, all_pass, heading, found, heads, some}
use Rattle.kept_up.proofs.Queues.{MayGo, MayMakeRoom, put_come, come_same, led_same, moved_led, one_each, room_made}
use Rattle.kept_up.proofs.FiveWays.{AcceptedRequest, side_own, to, Moves, Rises, Comes, ComesAbove, one_of_thirteen, steps}

module _ {f : Field} {r : Request} (a : AcceptedRequest f r) where
  abbrev from : ℕ
  from = zone_before f r

  abbrev n : ℕ
  n = r.number

  abbrev g : Field
  g = effect_of f r

  -- ---- 3000 of a side
  -- a missed zone and its side
  record Missed : Type 0 where
    pub low : 1 ≤ side_of from
    pub high : side_of from ≤ 2
    pub zone : from ≡ 6 + side_of from

  -- of a zone that is 7 or 8
  missed_side : within 7 8 from ≡ true → Missed
  unfolding side_of
  missed_side t =
      let low = within_low 7 8 from t in
      let high = within_high 7 8 from t in
      let p =
      each_from 7 2 (λ z. (1 ≤ side_of z) × (side_of z ≤ 2) × (z ≡ 6 + side_of z)) ((omega arith, omega arith, refl), ((omega arith, omega arith, refl), tt)) from low (omega (arith, high)) in
      record { low = p.0; high = p.1; zone = p.2 }

  -- with somebody missed and somebody at 3000 nobody is at 2000
  none_below : (s : ℕ) → 1 ≤ s → s ≤ 2 → 1 ≤ how_many f (6 + s) → 1 ≤ how_many f s → how_many f (2 + s) ≡ 0
  unfolding bound_b in_area
  none_below s low high =
      let b = (within_each f (bounded a.passed)).bound_b_is in
      let rights = leb→le (in_area f right) 2 (and_l (leb (in_area f right) 2) (leb (in_area f left) 2) b) in
      let lefts = leb→le (in_area f left) 2 (and_r (leb (in_area f right) 2) (leb (in_area f left) 2) b) in
      each_from 1 2 (λ s. 1 ≤ how_many f (6 + s) → 1 ≤ how_many f s → how_many f (2 + s) ≡ 0)
      ((λ m a. omega (arith, m, a, rights)), ((λ m a. omega (arith, m, a, lefts)), tt)) s low (omega (arith, high))

  -- a hold at 3000
  module _ (q : r.kind ≡ 11) (m : Missed) where
    abbrev s : ℕ
    s = side_of from

    -- whoever is at 3000 can make room
    may_make_room : MayMakeRoom f s
    may_make_room = record { low = m.low; high = m.high; clear = none_below s m.low m.high (subst (λ (z : ℕ). 1 ≤ how_many f z) m.zone (some a.passed q refl)) }

    -- it goes there, where the field after it is the one with room made and the head moved
    rises : g ≡ moved (made_room f s) from s → Rises f r s
    unfolding how_many
    rises same =
        let emptied = room_made a.shaped (bounded a.passed) may_make_room in
        let none = ap length emptied.none in
        let h = heads a.passed q refl in
        let still = emptied.elsewhere from (λ t. omega (arith, t)) (λ t. omega (arith, t)) in
        let low = m.low in
        let may : MayGo (made_room f s) n from s =
        record {
          from_zone = one_of_thirteen from (omega arith) (omega arith);
          to_zone = one_of_thirteen s low (omega arith);
          other_zone = λ t. omega (arith, t);
          room = omega arith;
          heads = record { head = h.head; behind = h.behind; here = still ∙ h.here; named = h.named };
        } in
        record {
          staying = ap (within 8 9) q;
          above = may_make_room;
          start = omega arith;
          head = found a.passed q refl;
          led = led_same (λ y. ap (λ (x : Field). in_zone x y) same) (moved_led emptied.shaped may);
        }

  pub holds_11 : r.kind ≡ 11 → Moves f r ⊎ Rises f r (to f r r.kind)
  unfolding starts_from leads_to hold_to held made_room
  holds_11 q =
      let m = missed_side (heading a.passed q refl).starts in
      let side = side_of from in
      elim (decided (is_empty f side)) [
        | inl t ↦
            elim (decided (is_empty f (2 + side))) [
              | inl u ↦
                  inl
                  (steps a q refl refl
                  (record {
                    leads = if_true _ _ t ∙ if_true _ _ u;
                    start = record { least = omega arith; most = omega arith };
                    not_above = omega arith;
                    last = omega arith;
                    apart = λ t. omega (arith, t);
                    effect = effect_at f r q ∙ if_true _ _ t ∙ if_true _ _ u;
                  }))
              | inr u ↦
                  let above = sym (ap (λ (x : Field). moved x from side) (if_true _ _ t)) in
                  inr (subst⁻¹ (Rises f r) (ap (to f r) q ∙ if_true _ _ t ∙ if_false _ _ u) (rises q m (effect_at f r q ∙ if_true _ _ t ∙ if_false _ _ u ∙ above)))
            ]
        | inr t ↦
            let above = sym (ap (λ (x : Field). moved x from side) (if_false _ _ t)) in
            inr (subst⁻¹ (Rises f r) (ap (to f r) q ∙ if_false _ _ t) (rises q m (effect_at f r q ∙ if_false _ _ t ∙ above)))
      ]

  -- ---- entries
  pub comes_1 : r.kind ≡ 1 → ComesAbove f r (to f r r.kind)
  unfolding leads_to entered_above entered entering with_sequence how_many in_zone zone_of
  comes_1 q =
      let known = entry_known r a.passed.input (omega (arith, q)) (omega (arith, q)) in
      let low = known.side_low in
      let high = known.side_high in
      let side = r.side in
      let (absent, (p16, (p17, (p18, (p19, (p20, end)))))) = all_pass a.passed q in
      let may : MayMakeRoom f side = record { low = low; high = high; clear = none side p20 } in
      let h = room_made a.shaped (bounded a.passed) may in
      let few = ap length h.none in
      subst⁻¹ (ComesAbove f r) (ap (to f r) q ∙ side_own side low high)
      (record {
        staying = ap (within 8 9) q;
        absent = eqb-true from 0 absent;
        above = may;
        come =
            come_same (λ y. ap (λ (x : Field). in_zone x y) (effect_at f r q))
            (put_come h.shaped (one_of_thirteen side low (omega (arith, high))) (entering n (fix_taken (made_room f side) side) r.amount r.desk) refl (omega (arith, few)));
      })
    where
      none : (z : ℕ) → (is_empty f z || is_empty f (2 + z)) ≡ true → 1 ≤ how_many f z → how_many f (2 + z) ≡ 0
      none z t taken =
          elim (decided (is_empty f z)) [
            | inl a ↦ let zero = eqb-true (how_many f z) 0 a in absurd (omega (arith, zero, taken))
            | inr a ↦ eqb-true (how_many f (2 + z)) 0 (sym (or_else a refl) ∙ t)
          ]

  pub comes_2 : r.kind ≡ 2 → Comes f r (to f r r.kind)
  unfolding leads_to entered entering with_sequence in_zone zone_of
  comes_2 q =
      let known = entry_known r a.passed.input (omega (arith, q)) (omega (arith, q)) in
      let low = known.side_low in
      let high = known.side_high in
      let side = r.side in
      let few = one_each f (bounded a.passed) (4 + side) (omega arith) (omega (arith, high)) in
      subst⁻¹ (Comes f r) (ap (to f r) q ∙ ap (λ (s : ℕ). 4 + s) (side_own side low high))
      (record {
        staying = ap (within 8 9) q;
        absent = eqb-true from 0 (all_pass a.passed q).0;
        not_above = omega (arith, low);
        come =
            come_same (λ y. ap (λ (x : Field). in_zone x y) (effect_at f r q))
            (put_come a.shaped (one_of_thirteen (4 + side) (omega arith) (omega (arith, high))) (entering n (fix_taken f side) r.amount r.desk) refl (omega (arith, few)));
      })
