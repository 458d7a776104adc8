-- What an accepted request does to the queues: somebody leaves the field, moves to another zone, or comes onto the field. Assumes nothing.
use mathlib.Core.Path.{◌≡◌, refl, sym, ap, ◌∙◌, subst, subst⁻¹}
use mathlib.Core.Logic.{◌≢◌, ◌⊎◌, inl, inr}
use mathlib.Core.Bool.{Bool, true, false, cond, ◌&&◌, ◌||◌}
use mathlib.Core.List.{List, [], ◌∷◌}
use Prim.Native.Nat.{ℕ, ◌+◌, ◌≤◌}
use native.Mathlib.Omega.{arith}
use borrow.Author.Tests.{eqb-true}
use lib.Dec.{T, eqb, leb}
use lib.Ieee.Fits.{and_l}
use lib.ListN.{length, get_or}
use Rattle.leg.specs.Ticks.{Between}
use Rattle.request.specs.Input.{within}
use Rattle.request.specs.declared.Request.{Request}
use Rattle.request.proofs.InputTests.{within_yes, within_low, within_high}
use Rattle.request.proofs.ByKind.{kind_known}
use Rattle.field.specs.declared.Aircraft.{Aircraft}
use Rattle.field.specs.declared.Field.{Field}
use Rattle.field.specs.Airspace.{right, left, nobody, side_of, is_side, opposite, at2000, base, in_zone, zone_of, given_fix, arrived_by_miss}
use Rattle.edits.specs.Edits.{with_sequence}
use Rattle.field.specs.Lists.{every}
use Rattle.field.proofs.ArrivalLaws.{into_arrived_by_miss}
use Rattle.field.proofs.TestParts.{or_else}
use Rattle.field.proofs.TestLaws.{each_operation, decided, pass, passed, either_way}
use Rattle.questions.specs.Counts.{how_many}
use Rattle.questions.specs.Find.{aircraft_at}
use Rattle.fits.specs.Fits.{fits_zone}
use Rattle.laws.proofs.EditLaws.{Shaped}
use Rattle.laws.proofs.BoundLaws.{within_each}
use Rattle.laws.proofs.Fits.{fits_parts, all_fit}
use Rattle.rules.specs.Kinds.{zone_before, zone_ahead, starts_from, may_approach, base_free, head_gone, moved, approached, landed, exited, missed_approach, fix_after_miss, out_of_sequence}
use Rattle.rules.specs.Step.{effect_of, number_of}
use Rattle.rules.proofs.Checks.{effect_at}
use Rattle.rules.proofs.Refusals.{passes}
use Rattle.kept_up.specs.KeptUp.{approach_to, leads_to}
use Rattle.kept_up.proofs.Moved.{Left}
use Rattle.kept_up.proofs.Leads.{of_side}
use Rattle.rules.proofs.HeadOfRequest.{head_alike, HeadOfQueue, only_zone, bounded, all_pass, heading, heads, on_final}
use Rattle.laws.proofs.RoomLaws.{room_in}
use Rattle.kept_up.proofs.Queues.{Led, MayGo, gone_left, left_same, led_same, put_led, moved_led}
use Rattle.kept_up.proofs.FiveWays.{AcceptedRequest, side_own, to, Leaves, Moves, Rises, Comes, ComesAbove, one_of_thirteen, moves, steps}
use Rattle.kept_up.proofs.HoldsAndEntries.{holds_11, comes_1, comes_2}

module _ {f : Field} {r : Request} (a : AcceptedRequest f r) where
  abbrev from : ℕ
  from = zone_before f r

  abbrev n : ℕ
  n = r.number

  abbrev g : Field
  g = effect_of f r

  moves_3 : r.kind ≡ 3 → Moves f r
  unfolding starts_from leads_to
  moves_3 q =
      let t = (heading a.passed q refl).starts in
      let low = within_low 1 2 from t in
      let high = within_high 1 2 from t in
      steps a q refl refl
      (record {
        leads = ap (λ (s : ℕ). 2 + s) (side_own from low high);
        start = record { least = low; most = omega arith };
        not_above = omega arith;
        last = omega arith;
        apart = λ h. omega (arith, h);
        effect = effect_at f r q;
      })

  -- an approach leads where `approach_to` says
  approached_to : (ahead : ℕ) → approached f n from ahead ≡ moved f from (approach_to from f.sequence n ahead (how_many f (base (opposite (side_of from)))))
  unfolding approached approach_to base_free
  approached_to ahead = go (within 5 6 from) (may_approach f.sequence n ahead && leb (how_many f (base (opposite (side_of from)))) 1)
    where
      go : (b c : Bool) → cond b (cond c (moved f from (base (side_of from))) (moved f from (at2000 (side_of from)))) (moved f from (base (side_of from)))
          ≡ moved f from (cond b (cond c (base (side_of from)) (at2000 (side_of from))) (base (side_of from)))
      go true true = refl
      go true false = refl
      go false c = refl

  -- a zone that it can lead to
  record Ahead (w : ℕ) : Type 0 where
    pub low : 3 ≤ w
    pub high : w ≤ 12
    pub apart : w ≢ from

  -- the zone of its side that is `more` above the side's number, where it does not come from there
  ahead_on : (more : ℕ) → 2 ≤ more → more ≤ 10 → (more + 1 ≢ from) → (more + 2 ≢ from) → Ahead (more + side_of from)
  ahead_on more low high right left =
      of_side (λ (s : ℕ). Ahead (more + s)) from (record { low = omega arith; high = omega arith; apart = right }) (record { low = omega arith; high = omega arith; apart = left })

  moves_4 : r.kind ≡ 4 → Moves f r
  unfolding starts_from leads_to approach_to
  moves_4 q =
      let t = (heading a.passed q refl).starts in
      let low = within_low 3 6 from t in
      let high = within_high 3 6 from t in
      let to-base : Ahead (base (side_of from)) = ahead_on 8 (omega arith) (omega arith) (λ h. omega (arith, h)) (λ h. omega (arith, h)) in
      let to-2000 : within 5 6 from ≡ true → Ahead (at2000 (side_of from)) =
      λ u. let above = within_low 5 6 from u in ahead_on 2 (omega arith) (omega arith) (λ h. omega (arith, h)) (λ h. omega (arith, h)) in
      let ahead : Ahead (to f r 4) =
      either_way Ahead (within 5 6 from) _ _
      (λ u. either_way Ahead (may_approach f.sequence n (zone_ahead f r) && leb (how_many f (base (opposite (side_of from)))) 1) _ _ (λ v. to-base) (λ v. to-2000 u))
      (λ u. to-base) in
      steps a q refl refl
      (record {
        leads = refl;
        start = record { least = omega arith; most = omega arith };
        not_above = ahead.low;
        last = ahead.high;
        apart = ahead.apart;
        effect = effect_at f r q ∙ approached_to (zone_ahead f r);
      })

  moves_5 : r.kind ≡ 5 → Moves f r
  unfolding starts_from leads_to
  moves_5 q =
      let t = (heading a.passed q refl).starts in
      let low = within_low 9 10 from t in
      let high = within_high 9 10 from t in
      steps a q refl refl
      (record { leads = refl; start = record { least = omega arith; most = omega arith }; not_above = omega arith; last = omega arith; apart = λ h. omega (arith, h); effect = effect_at f r q })

  moves_6 : r.kind ≡ 6 → Moves f r
  unfolding starts_from leads_to
  moves_6 q =
      let t = only_zone 11 from (heading a.passed q refl).starts in
      steps a q refl refl
      (record {
        leads = refl;
        start = record { least = omega arith; most = omega arith };
        not_above = omega arith;
        last = omega arith;
        apart = λ h. omega (arith, h);
        effect = effect_at f r q ∙ ap (λ (z : ℕ). moved f z 12) (sym t);
      })

  moves_7 : r.kind ≡ 7 → Moves f r
  unfolding starts_from leads_to landed out_of_sequence with_sequence in_zone zone_of
  moves_7 q =
      let t = only_zone 12 from (heading a.passed q refl).starts in
      let none = eqb-true (how_many f 13) 0 (all_pass a.passed q).1.1.1.1.1.0 in
      let may : MayGo f n from 13 =
      record {
        from_zone = one_of_thirteen from (omega arith) (omega arith);
        to_zone = one_of_thirteen 13 (omega arith) (omega arith);
        other_zone = λ e. omega (arith, e);
        room = omega (arith, none);
        heads = heads a.passed q refl;
      } in
      moves f r q refl refl (omega arith) (led_same (λ y. ap (λ (x : Field). in_zone x y) (effect_at f r q) ∙ ap (λ (z : ℕ). in_zone (moved f z 13) y) (sym t)) (moved_led a.shaped may))

  -- the head of zone z leaves the field
  leaves : {k z : ℕ} → r.kind ≡ k → within 8 9 k ≡ true → from ≡ z → Between 1 13 z → HeadOfQueue f n from → ((y : ℕ) → in_zone g y ≡ in_zone (head_gone f z) y) → Leaves f r
  leaves q s t b head same =
      record {
        leaving = ap (within 8 9) q ∙ s;
        left = subst⁻¹ (λ (v : ℕ). Left f g v n) t (left_same same (gone_left a.shaped b (subst (HeadOfQueue f n) t head)));
      }

  leaves_8 : r.kind ≡ 8 → Leaves f r
  unfolding starts_from
  leaves_8 q =
      leaves q refl (only_zone 13 from (heading a.passed q refl).starts) (one_of_thirteen 13 (omega arith) (omega arith)) (heads a.passed q refl)
      (λ y. ap (λ (x : Field). in_zone x y) (effect_at f r q))

  leaves_9 : r.kind ≡ 9 → Leaves f r
  unfolding starts_from exited out_of_sequence with_sequence in_zone zone_of
  leaves_9 q =
      leaves q refl (only_zone 11 from (heading a.passed q refl).starts) (one_of_thirteen 11 (omega arith) (omega arith)) (heads a.passed q refl)
      (λ y. ap (λ (x : Field). in_zone x y) (effect_at f r q))

  -- the fix of the head of final is a side
  fix_side : (l : List Aircraft) → T (every (fits_zone f.legs 12) l) → 1 ≤ length l → T (is_side (get_or (nobody ∷ l) 1 nobody).fix)
  fix_side [] t h = absurd (omega arith)
  fix_side (x ∷ l) t h = (fits_parts f.legs 12 x (and_l (fits_zone f.legs 12 x) (every (fits_zone f.legs 12) l) t)).side

  moves_10 : r.kind ≡ 10 → Moves f r
  unfolding starts_from leads_to missed_approach given_fix aircraft_at how_many with_sequence in_zone zone_of is_side
  moves_10 q =
      let t = only_zone 12 from (heading a.passed q refl).starts in
      let head : HeadOfQueue f n 12 = subst (HeadOfQueue f n) t (heads a.passed q refl) in
      let has = on_final a.passed q in
      let x = aircraft_at f 12 1 in
      let side = fix_side (in_zone f 12) (all_fit f (within_each f (bounded a.passed)).bound_g_is 12 (omega arith) (omega arith)) has in
      let own : side_of x.fix ≡ x.fix = either_side x.fix side in
      let w = 6 + x.fix in
      let range : Between 1 2 x.fix =
      subst (Between 1 2) own (of_side (Between 1 2) x.fix (record { least = omega arith; most = omega arith }) (record { least = omega arith; most = omega arith })) in
      let apart : w ≢ 12 = λ h. omega (arith, h) in
      let may : MayGo f n 12 w =
      record {
        from_zone = one_of_thirteen 12 (omega arith) (omega arith);
        to_zone = one_of_thirteen w (omega arith) (omega arith);
        other_zone = apart;
        room = room_in f (bounded a.passed) (record { least = omega arith; most = omega arith }) (record { least = omega arith; most = omega arith }) apart has;
        heads = head;
      } in
      moves f r q refl (ap (λ (s : ℕ). 6 + s) own) (omega arith)
      (subst⁻¹ (λ (z : ℕ). Led f g n z w) t
      (led_same (λ y. ap (λ (x : Field). in_zone x y) (effect_at f r q))
      (put_led a.shaped may (given_fix (arrived_by_miss f.legs w x) (fix_after_miss f x)) ((into_arrived_by_miss f.legs w x).number ∙ head_alike head))))
    where
      either_side : (s : ℕ) → T (eqb s right || eqb s left) → side_of s ≡ s
      either_side s u =
          elim (decided (eqb s 1)) [
            | inl e ↦ let k = eqb-true s 1 e in side_own s (omega (arith, k)) (omega (arith, k))
            | inr e ↦ let k = eqb-true s 2 (sym (or_else e refl) ∙ passed {b = eqb s 1 || eqb s 2} u) in side_own s (omega (arith, k)) (omega (arith, k))
          ]

-- ---- all kinds but a tick
abbrev pub Told : Field → Request → Type 0
Told f r = Leaves f r ⊎ (Moves f r ⊎ (Rises f r (to f r r.kind) ⊎ (Comes f r (to f r r.kind) ⊎ ComesAbove f r (to f r r.kind))))

-- Every accepted request that is no tick does one of these.
pub told : (f : Field) → Shaped f → (r : Request) → number_of f r ≡ 0 → r.kind ≢ 12 → Told f r
told f sh r e moving =
    let a : AcceptedRequest f r = record { shaped = sh; passed = passes f r e } in
    let known = kind_known r a.passed.input in
    each_operation (λ k. r.kind ≡ k → Told f r) (
      (λ q. inr (inr (inr (inr (comes_1 a q))))),
      (λ q. inr (inr (inr (inl (comes_2 a q))))),
      (λ q. inr (inl (moves_3 a q))),
      (λ q. inr (inl (moves_4 a q))),
      (λ q. inr (inl (moves_5 a q))),
      (λ q. inr (inl (moves_6 a q))),
      (λ q. inr (inl (moves_7 a q))),
      (λ q. inl (leaves_8 a q)),
      (λ q. inl (leaves_9 a q)),
      (λ q. inr (inl (moves_10 a q))),
      (λ q. inr (elim (holds_11 a q) [ inl m ↦ inl m | inr m ↦ inr (inl m) ])),
      (λ q. absurd (moving q)),
    ) r.kind (pass (within_yes 1 12 r.kind known.low known.high)) refl
