-- A request on two fields with the same queues: it is answered the same, and leaves fields with the same queues. So is every list of requests. Assumes nothing.
use mathlib.Core.Path.{◌≡◌, refl, sym, ap, ◌∙◌, subst, fun_ext}
use mathlib.Core.Logic.{inl, inr}
use mathlib.Core.Bool.{Bool, true, false, cond, not, ◌&&◌}
use mathlib.Core.List.{List, [], ◌∷◌, ◌++◌}
use Prim.Native.Nat.{ℕ}
use lib.Dec.{T, eqb, leb}
use lib.ListN.{length, get_or}
use borrow.Author.Tests.{eqb-true, eqb-false}
use Rattle.request.specs.Input.{within}
use Rattle.request.specs.declared.Request.{Request}
use Rattle.field.specs.declared.Aircraft.{Aircraft}
use Rattle.field.specs.declared.Legs.{Legs}
use Rattle.field.specs.declared.Sequence.{Sequence}
use Rattle.field.specs.declared.Field.{Field}
use Rattle.field.specs.Airspace.{opposite, side_of, at3000, at2000, lateral, missed, base, intermediate, final_approach_zone, runway, area}
use Rattle.field.specs.Airspace.{approach, operation, everywhere, nobody, zone_of, in_zone, order_of, entering, arrived, arrived_by_miss, given_fix, leg_flown_out}
use Rattle.edits.specs.Edits.{appended, removed}
use Rattle.field.specs.Lists.{is_in}
use Rattle.questions.specs.declared.Place.{Place}
use Rattle.questions.specs.Counts.{total, have_fix, how_many, how_many_with_fix, present_on, is_empty, approach_holds, counted_for, potential_of}
use Rattle.questions.specs.Find.{place_of, aircraft_at, fix_of, is_first, leader_of, leader_zone}
use Rattle.bounds.specs.Bounds.{within_bounds}
use Rattle.rules.specs.declared.Answer.{Answer}
use Rattle.rules.specs.Kinds.{place_before, zone_before, zone_ahead, presence_checks, belongs_to, may_approach, base_free, may_merge, vertical_needs}
use Rattle.rules.specs.Kinds.{approach_needs, merge_needs, flown_out_check, land_needs, head_gone, tail_put, moved, out_of_sequence, fix_taken}
use Rattle.rules.specs.Kinds.{entered, made_room, entered_above, approached, landed, exited, fix_after_miss, missed_approach, held, shown_to, shown_at3000}
use Rattle.rules.specs.Step.{by_kind, needs_for, effect_for, checks_for, checks_of, effect_of, number_of, number_and_zeros, acceptance, along_for, acceptance_on, answer_of, step_of}
use Rattle.rules.specs.Play.{field_after, played}
use Rattle.field.proofs.TestLaws.{passed, decided, if_true, if_false}
use Rattle.laws.proofs.SameQueues.{Same, same_head, same_tail, same_with, same_sequence, same_ticked, queues_same, alike, within_same}
use Rattle.questions.proofs.FindLaws.{look_up_same}
use Rattle.rules.proofs.StepLaws.{field_accepted, answer_accepted, field_refused, answer_refused}

-- what relates each entry of a table by kind to that of another relates the kind's own
by_kinds {ℓ} : {A : Type ℓ} (P : A → A → Type 0) (kind : ℕ) {k1 k2 k3 k4 k5 k6 k7 k8 k9 k10 k11 k12 j1 j2 j3 j4 j5 j6 j7 j8 j9 j10 j11 j12 : A}
    → P k1 j1 × P k2 j2 × P k3 j3 × P k4 j4 × P k5 j5 × P k6 j6 × P k7 j7 × P k8 j8 × P k9 j9 × P k10 j10 × P k11 j11 × P k12 j12
    → P (by_kind kind k1 k2 k3 k4 k5 k6 k7 k8 k9 k10 k11 k12) (by_kind kind j1 j2 j3 j4 j5 j6 j7 j8 j9 j10 j11 j12)
by_kinds {A = A} P kind (p1, p2, p3, p4, p5, p6, p7, p8, p9, p10, p11, p12) =
    pick (eqb kind 1) p1 (pick (eqb kind 2) p2 (pick (eqb kind 3) p3
    (pick (eqb kind 4) p4 (pick (eqb kind 5) p5 (pick (eqb kind 6) p6 (pick (eqb kind 7) p7 (pick (eqb kind 8) p8 (pick (eqb kind 9) p9 (pick (eqb kind 10) p10 (pick (eqb kind 11) p11 p12))))))))))
  where
    pick : (b : Bool) {x y u v : A} → P x u → P y v → P (cond b x y) (cond b u v)
    pick true p q = p
    pick false p q = q

-- two fields by the same test
either_same : {f f₁ g g₁ : Field} {b c : Bool} → b ≡ c → Same f g → Same f₁ g₁ → Same (cond b f f₁) (cond c g g₁)
either_same {f} {f₁} {g} {g₁} {b} {c} e s t = subst (λ (d : Bool). Same (cond b f f₁) (cond d g g₁)) e (go b)
  where
    go : (b : Bool) → Same (cond b f f₁) (cond b g g₁)
    go true = s
    go false = t

pub same_sym : {f g : Field} → Same f g → Same g f
same_sym s =
    record {
      zones = s.zones_too;
      zones_too = s.zones;
      zone = λ z. record { one = (s.zone z).other; other = (s.zone z).one; count = sym (s.zone z).count; queue = sym (s.zone z).queue };
      sequence = sym s.sequence;
      next = sym s.next;
      legs = sym s.legs;
    }

-- ---- what the rules ask
module _ {f g : Field} (s : Same f g) where
  abbrev e : in_zone f ≡ in_zone g
  e = queues_same f g s

  pub many : how_many f ≡ how_many g
  unfolding how_many
  many = fun_ext (λ z. ap (λ (h : ℕ → List Aircraft). length (h z)) e)

  pub with_fix : how_many_with_fix f ≡ how_many_with_fix g
  unfolding how_many_with_fix
  with_fix = fun_ext (λ side. fun_ext (λ z. ap (λ (h : ℕ → List Aircraft). have_fix side (h z)) e))

  pub present_same : present_on f ≡ present_on g
  unfolding present_on
  present_same = ap (λ (h : ℕ → ℕ). total h everywhere) many

  pub place_same : (n : ℕ) → place_of f n ≡ place_of g n
  place_same n = look_up_same f g n (alike f g s).numbers

  pub at_same : (z k : ℕ) → aircraft_at f z k ≡ aircraft_at g z k
  unfolding aircraft_at
  at_same z k = ap (λ (h : ℕ → List Aircraft). get_or (nobody ∷ h z) k nobody) e

  pub fix_same : (n : ℕ) → fix_of f n ≡ fix_of g n
  unfolding fix_of
  fix_same n = ap (λ (p : Place). (aircraft_at f p.zone p.place).fix) (place_same n) ∙ ap (λ (a : Aircraft). a.fix) (at_same (place_of g n).zone (place_of g n).place)

  pub empty_same : (z : ℕ) → is_empty f z ≡ is_empty g z
  empty_same z = ap (λ (h : ℕ → ℕ). eqb (h z) 0) many

  potential_same : (side : ℕ) → potential_of f side ≡ potential_of g side
  unfolding potential_of counted_for
  potential_same side =
      ap (λ (h : ℕ → ℕ). total (λ z. cond (is_in z (area side)) (h z) (how_many_with_fix f side z)) operation) many
      ∙ ap (λ (h : ℕ → ℕ → ℕ). total (λ z. cond (is_in z (area side)) (how_many g z) (h side z)) operation) with_fix

  holds_same : (side : ℕ) → approach_holds f side ≡ approach_holds g side
  unfolding approach_holds
  holds_same side = ap (λ (h : ℕ → ℕ → ℕ). not (eqb (total (h side) approach) 0)) with_fix

  leader_same : (n : ℕ) → leader_zone f n ≡ leader_zone g n
  unfolding leader_zone
  leader_same n =
      ap (λ (q : Sequence). cond (eqb (leader_of q n) 0) 0 (place_of f (leader_of q n)).zone) s.sequence
      ∙ ap (λ (p : Place). cond (eqb (leader_of g.sequence n) 0) 0 p.zone) (place_same (leader_of g.sequence n))

  may_approach_same : (n ahead : ℕ) → may_approach f.sequence n ahead ≡ may_approach g.sequence n ahead
  may_approach_same n ahead = ap (λ (q : Sequence). may_approach q n ahead) s.sequence

  may_merge_same : (n ahead : ℕ) → may_merge f.sequence n ahead ≡ may_merge g.sequence n ahead
  may_merge_same n ahead = ap (λ (q : Sequence). may_merge q n ahead) s.sequence

  base_same : (side : ℕ) → base_free f side ≡ base_free g side
  unfolding base_free
  base_same side = ap (λ (h : ℕ → ℕ). leb (h (base (opposite side))) 1) many

  flown_same : (z : ℕ) → flown_out_check f z ≡ flown_out_check g z
  flown_same z = ap (λ (a : Aircraft). (15, leg_flown_out a)) (at_same z 1)

  -- the checks of every request
  needs_same : (r : Request) (at : Place) (ahead : ℕ) → needs_for r.kind f r at ahead ≡ needs_for r.kind g r at ahead
  needs_same r at ahead =
      by_kinds (λ (x y : List (ℕ × Bool)). x ≡ y) r.kind (
        vertical r.side,
        ap (λ (n : ℕ). (16, eqb n 0) ∷ []) (potential_same r.side),
        ap (λ (b : Bool). (21, b) ∷ []) (empty_same (at2000 at.zone)),
        approaching r.number at.zone ahead,
        merging r.number at.zone ahead,
        ap (λ (c : ℕ × Bool). c ∷ []) (flown_same at.zone),
        landing at.zone,
        refl,
        ap (λ (c : ℕ × Bool). c ∷ (22, is_first f.sequence r.number) ∷ []) (flown_same at.zone)
            ∙ ap (λ (q : Sequence). flown_out_check g at.zone ∷ (22, is_first q r.number) ∷ []) s.sequence,
        refl,
        ap (λ (c : ℕ × Bool). c ∷ []) (flown_same at.zone),
        refl,
      )
    where
      vertical : (side : ℕ) → vertical_needs f side ≡ vertical_needs g side
      vertical side =
          let p = potential_same side in
          let h = holds_same side in
          let a = empty_same (missed side) in
          let b = empty_same (lateral side) in
          let c = empty_same (at3000 side) in
          let d = empty_same (at2000 side) in
          cc (p, h, a, b, c, d)

      approaching : (n z ahead : ℕ) → approach_needs f n z ahead ≡ approach_needs g n z ahead
      approaching n z ahead = let a = may_approach_same n ahead in let b = base_same (side_of z) in cc (a, b)

      merging : (n z ahead : ℕ) → merge_needs f n z ahead ≡ merge_needs g n z ahead
      merging n z ahead = let a = flown_same z in let b = may_merge_same n ahead in cc (a, b)

      landing : (z : ℕ) → land_needs f z ≡ land_needs g z
      landing z = let a = flown_same z in let b = empty_same runway in cc (a, b)

  checks_same : (r : Request) → checks_of f r ≡ checks_of g r
  unfolding checks_of belongs_to
  checks_same r =
      let at = place_before g r in
      ap (λ (at : Place). checks_for r.kind f r at (zone_ahead f r)) (place_same r.number)
      ∙ ap (checks_for r.kind f r at) (leader_same r.number)
      ∙ ap (λ (a : Aircraft). presence_checks r.kind at (eqb a.desk r.desk) ++ needs_for r.kind f r at (zone_ahead g r)) (at_same at.zone at.place)
      ∙ ap (λ (l : List (ℕ × Bool)). presence_checks r.kind at (belongs_to g at r.desk) ++ l) (needs_same r at (zone_ahead g r))

  -- ---- what the requests do
  gone_same : (z : ℕ) → Same (head_gone f z) (head_gone g z)
  unfolding head_gone
  gone_same z = same_with f g z _ _ s (same_head (zone_of f z) (zone_of g z) (s.zone z))

  put_same : (z : ℕ) {a b : Aircraft} → a ≡ b → Same (tail_put f z a) (tail_put g z b)
  unfolding tail_put
  put_same z {a} {b} p = same_with f g z _ _ s (same_tail (zone_of f z) (zone_of g z) a b p (s.zone z))

  out_same : (n : ℕ) → Same (out_of_sequence f n) (out_of_sequence g n)
  unfolding out_of_sequence
  out_same n = same_sequence f g s (ap (λ (q : Sequence). removed q n) s.sequence) s.next

moved_same : {f g : Field} (s : Same f g) (z w : ℕ) → Same (moved f z w) (moved g z w)
unfolding moved
moved_same {f} {g} s z w = put_same (gone_same s z) w (ap (λ (l : Legs). arrived l w (aircraft_at f z 1)) s.legs ∙ ap (arrived g.legs w) (at_same s z 1))

entered_same : {f g : Field} (s : Same f g) (r : Request) (z : ℕ) → Same (entered f r z) (entered g r z)
unfolding entered fix_taken
entered_same {f} {g} s r z =
    let fix : fix_taken f r.side ≡ fix_taken g r.side =
    ap (λ (q : Sequence). cond (eqb (length (order_of q)) 0) r.side f.next) s.sequence ∙ ap (λ (n : ℕ). cond (eqb (length (order_of g.sequence)) 0) r.side n) s.next in
    same_sequence _ _ (put_same s z (ap (λ (n : ℕ). entering r.number n r.amount r.desk) fix)) (ap (λ (q : Sequence). appended q r.number) s.sequence) (ap opposite fix)

module _ {f g : Field} (s : Same f g) (r : Request) where
  room_same : (side : ℕ) → Same (made_room f side) (made_room g side)
  unfolding made_room
  room_same side = either_same (empty_same s (at3000 side)) s (moved_same s (at3000 side) (at2000 (at3000 side)))

  above_same : Same (entered_above f r) (entered_above g r)
  unfolding entered_above
  above_same = entered_same (room_same r.side) r (at3000 r.side)

  approached_same : (z ahead : ℕ) → Same (approached f r.number z ahead) (approached g r.number z ahead)
  unfolding approached
  approached_same z ahead =
      let a = may_approach_same s r.number ahead in
      let b = base_same s (side_of z) in
      let test : (may_approach f.sequence r.number ahead && base_free f (side_of z)) ≡ (may_approach g.sequence r.number ahead && base_free g (side_of z)) = cc (a, b) in
      either_same {b = within 5 6 z} refl (either_same test (moved_same s z (base (side_of z))) (moved_same s z (at2000 (side_of z)))) (moved_same s z (base (side_of z)))

  landed_same : Same (landed f r) (landed g r)
  unfolding landed
  landed_same = out_same (moved_same s final_approach_zone runway) r.number

  exited_same : Same (exited f r) (exited g r)
  unfolding exited
  exited_same = out_same (gone_same s intermediate) r.number

  missed_same : Same (missed_approach f r) (missed_approach g r)
  unfolding missed_approach fix_after_miss
  missed_same =
      let a = at_same s final_approach_zone 1 in
      let x = aircraft_at f final_approach_zone 1 in
      let y = aircraft_at g final_approach_zone 1 in
      let fix : fix_after_miss f x ≡ fix_after_miss g y =
      ap (λ (q : Sequence). cond (eqb (length (order_of q)) 1) x.fix f.next) s.sequence ∙ ap (λ (n : ℕ). cond (eqb (length (order_of g.sequence)) 1) x.fix n) s.next
      ∙ ap (λ (b : Aircraft). cond (eqb (length (order_of g.sequence)) 1) b.fix g.next) a in
      let w : missed x.fix ≡ missed y.fix = ap (λ (b : Aircraft). missed b.fix) a in
      let away : arrived_by_miss f.legs (missed x.fix) x ≡ arrived_by_miss g.legs (missed y.fix) y =
      ap (λ (l : Legs). arrived_by_miss l (missed x.fix) x) s.legs ∙ ap (λ (b : Aircraft). arrived_by_miss g.legs (missed b.fix) b) a in
      let before = given_fix (arrived_by_miss f.legs (missed x.fix) x) (fix_after_miss f x) in
      let after = given_fix (arrived_by_miss g.legs (missed y.fix) y) (fix_after_miss g y) in
      let went : before ≡ after = ap (λ (b : Aircraft). given_fix b (fix_after_miss f x)) away ∙ ap (given_fix (arrived_by_miss g.legs (missed y.fix) y)) fix in
      let put : Same (tail_put (head_gone f final_approach_zone) (missed x.fix) before) (tail_put (head_gone g final_approach_zone) (missed x.fix) after) =
      put_same (gone_same s final_approach_zone) (missed x.fix) went in
      same_sequence _ _ (subst (λ (v : ℕ). Same (tail_put (head_gone f final_approach_zone) (missed x.fix) before) (tail_put (head_gone g final_approach_zone) v after)) w put)
      (ap (λ (q : Sequence). appended (removed q r.number) r.number) s.sequence) (ap opposite fix)

  held_same : (z : ℕ) → Same (held f z) (held g z)
  unfolding held
  held_same z =
      let side = side_of z in
      either_same (empty_same s (at3000 side)) (either_same (empty_same s (at2000 side)) (moved_same s z (at2000 side)) (moved_same s z (at3000 side)))
      (moved_same (moved_same s (at3000 side) (at2000 side)) z (at3000 side))

  pub effect_same : Same (effect_of f r) (effect_of g r)
  unfolding effect_of
  effect_same =
      subst (λ (z : ℕ). Same (effect_for r.kind f r (zone_before f r) (zone_ahead f r)) (effect_for r.kind g r z (zone_ahead g r))) (ap (λ (p : Place). p.zone) (place_same s r.number))
      (subst (λ (l : ℕ). Same (effect_for r.kind f r (zone_before f r) (zone_ahead f r)) (effect_for r.kind g r (zone_before f r) l))
      (leader_same s r.number) (each (zone_before f r) (zone_ahead f r)))
    where
      each : (z ahead : ℕ) → Same (effect_for r.kind f r z ahead) (effect_for r.kind g r z ahead)
      each z ahead =
          by_kinds Same r.kind (
            above_same,
            entered_same s r (lateral r.side),
            moved_same s z (at2000 z),
            approached_same z ahead,
            moved_same s z intermediate,
            moved_same s intermediate final_approach_zone,
            landed_same,
            gone_same s runway,
            exited_same,
            missed_same,
            held_same z,
            same_ticked f g r.amount s,
          )

-- ---- the step
both_ways : (a b : Bool) → (T a → T b) → (T b → T a) → a ≡ b
both_ways true b h k = sym (passed (h tt))
both_ways false true h k = absurd (k tt)
both_ways false false h k = refl

pub bounds_same : {f g : Field} → Same f g → within_bounds f ≡ within_bounds g
bounds_same {f} {g} s = both_ways (within_bounds f) (within_bounds g) (within_same f g s) (within_same g f (same_sym s))

pub number_same : {f g : Field} → Same f g → (r : Request) → number_of f r ≡ number_of g r
unfolding number_of
number_same s r =
    let a = bounds_same s in
    let b = checks_same s r in
    let c = bounds_same (effect_same s r) in
    cc (a, b, c)

-- ---- the answer and the field after it
acceptance_same : {f g : Field} (s : Same f g) (r : Request) (along : ℕ) → acceptance_on f r along ≡ acceptance_on g r along
unfolding acceptance
acceptance_same {f} {g} s r along =
    let n = r.number in
    let at = place_of g n in
    let ahead = place_of g (leader_of g.sequence n) in
    let there : place_of f (leader_of f.sequence n) ≡ ahead = ap (λ (q : Sequence). place_of f (leader_of q n)) s.sequence ∙ place_same s (leader_of g.sequence n) in
    let fix = at_same s at.zone at.place in
    let leader = at_same s ahead.zone ahead.place in
    ap (λ (p : Place). acceptance f p (place_of f (leader_of f.sequence n)) r along) (place_same s n)
    ∙ ap (λ (p : Place). acceptance f at p r along) there
    ∙ (λ i. record { number = 0; aircraft = n; zone = at.zone; fix = (fix i).fix; leader = shown_to r.desk (leader i); along = along })

along_same : {f g : Field} (s : Same f g) (r : Request) → along_for r.kind f r (zone_before f r) ≡ along_for r.kind g r (zone_before g r)
unfolding shown_at3000
along_same {f} {g} s r =
    let z = zone_before g r in
    let beside = at_same s (at3000 r.side) 1 in
    let above = at_same s (at3000 (side_of z)) 1 in
    ap (λ (p : Place). along_for r.kind f r p.zone) (place_same s r.number)
    ∙ (λ i. cond (eqb r.kind 1) (shown_to r.desk (beside i)) (cond (eqb r.kind 11) (shown_to r.desk (above i)) 0))

answer_of_same : {f g : Field} → Same f g → (r : Request) → answer_of f r ≡ answer_of g r
unfolding answer_of
answer_of_same {f} {g} s r =
    let along = along_for r.kind f r (zone_before f r) in
    ap (λ (a : Answer). cond (eqb r.kind 12) (number_and_zeros 0) a) (acceptance_same (effect_same s r) r along ∙ ap (acceptance_on (effect_of g r) r) (along_same s r))

pub answer_same : {f g : Field} → Same f g → (r : Request) → (step_of f r).answer ≡ (step_of g r).answer
answer_same {f} {g} s r =
    let n = number_same s r in
    elim (decided (eqb (number_of f r) 0)) [
      | inl e ↦ (let z = eqb-true (number_of f r) 0 e in answer_accepted f r z ∙ answer_of_same s r ∙ sym (answer_accepted g r (sym n ∙ z)))
      | inr e ↦ (let z = eqb-false (number_of f r) 0 e in answer_refused f r z ∙ ap number_and_zeros n ∙ sym (answer_refused g r (λ h. z (n ∙ h))))
    ]

pub step_same : {f g : Field} → Same f g → (r : Request) → Same (step_of f r).field (step_of g r).field
step_same {f} {g} s r =
    let n = number_same s r in
    elim (decided (eqb (number_of f r) 0)) [
      | inl e ↦
          let z = eqb-true (number_of f r) 0 e in
          subst (λ (x : Field). Same x (step_of g r).field) (sym (field_accepted f r z)) (subst (Same (effect_of f r)) (sym (field_accepted g r (sym n ∙ z))) (effect_same s r))
      | inr e ↦
          let z = eqb-false (number_of f r) 0 e in
          subst (λ (x : Field). Same x (step_of g r).field) (sym (field_refused f r z)) (subst (Same f) (sym (field_refused g r (λ h. z (n ∙ h)))) s)
    ]

-- ---- every list of requests
pub played_same : {f g : Field} → Same f g → (rs : List Request) → played f rs ≡ played g rs
played_same s [] = refl
played_same {f = f} {g = g} s (r ∷ rs) =
    ap (λ (a : Answer). (r, a) ∷ played (step_of f r).field rs) (answer_same s r)
    ∙ ap (λ (ps : List (Request × Answer)). (r, (step_of g r).answer) ∷ ps) (played_same {f = (step_of f r).field} {g = (step_of g r).field} (step_same s r) rs)

pub after_same : {f g : Field} → Same f g → (rs : List Request) → Same (field_after f rs) (field_after g rs)
after_same s [] = s
after_same {f = f} {g = g} s (r ∷ rs) = after_same {f = (step_of f r).field} {g = (step_of g r).field} (step_same s r) rs
