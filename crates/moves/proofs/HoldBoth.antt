-- Kind 11 beside an occupied 3000: the aircraft there goes to 2000, and the one from the missed zone to 3000. Assumes nothing.
use mathlib.Core.Path.{◌≡◌, sym, ap, ◌∙◌, subst}
use mathlib.Core.Bool.{Bool, false, not, ◌&&◌, ◌||◌, true≢false}
use mathlib.Core.List.{List, ◌∷◌, ◌++◌, append_assoc}
use Prim.Native.Nat.{ℕ, ◌+◌}
use native.Mathlib.Omega.{arith}
use lib.Dec.{T, eqb, eqb→eq}
use borrow.Author.Tests.{eq-eqb}
use Rattle.request.specs.Input.{within}
use Rattle.request.specs.declared.Request.{Request}
use Rattle.field.specs.declared.Aircraft.{Aircraft}
use Rattle.field.specs.declared.Legs.{Legs}
use Rattle.field.specs.declared.Field.{Field}
use Rattle.field.specs.Airspace.{is_flying_zone, side_of, at3000, at2000}
use Rattle.field.specs.Lists.{is_in}
use Rattle.order.specs.Model.{Side, count, free, okay, weight, one}
use Rattle.order.proofs.Facts.{BothMoved, hold_both}
use Rattle.rules.specs.Play.{adds_moves}
use Rattle.rules.specs.Kinds.{moved}
use Rattle.rules.specs.Step.{effect_of}
use Rattle.field.proofs.TestLaws.{pass, failed, zones_imply}
use Rattle.field.proofs.NumberLists.{or_false_left, absent_right}
use Rattle.field.proofs.ArrivalLaws.{into_arrived}
use Rattle.line.proofs.AheadInLists.{map_append}
use Rattle.line.proofs.Line.{Placed, zones_in, numbers_of, field_of}
use Rattle.line.proofs.CountedOnLine.{lower}
use Rattle.line.proofs.Members.{count_append}
use Rattle.line.proofs.Orderly.{Orderly}
use Rattle.moves.proofs.Moves.{into}
use Rattle.moves.proofs.Owners.{passing, desks_in, desks_on, same_desks}
use Rattle.moves.proofs.Carried.{WentAlong, onward_into, Carried, apart_in, carried_one, followed_first}
use Rattle.moves.proofs.AfterAccepted.{After, ZonesAllow, one_le, zone_in, moved_is, moved_orderly, zones_split}
use Rattle.moves.proofs.Heads.{AtHead}

-- one of a list in another zone than z
free_changed : (xs : List ℕ) (y w : ℕ) (ys : List ℕ) (z : ℕ) → T (free (xs ++ y ∷ ys) z) → eqb w z ≡ false → T (free (xs ++ w ∷ ys) z)
free_changed xs y w ys z t h =
    pass
    (eq-eqb (count (xs ++ w ∷ ys) z) 0
    (let a = count_append xs (y ∷ ys) z in
    let b = count_append xs (w ∷ ys) z in
    let c = eqb→eq (count (xs ++ y ∷ ys) z) 0 t in
    let d : one (eqb w z) ≡ 0 = ap one h in
    omega arith))

-- 2000 is not flown in
waits : (z : ℕ) → T (within 1 13 z) → T (within 7 8 z) → is_flying_zone (at2000 (side_of z)) ≡ false
unfolding is_flying_zone side_of
waits z t u = failed {b = is_flying_zone (at2000 (side_of z))} (zones_imply (within 7 8) (λ z. not (is_flying_zone (at2000 (side_of z)))) tt z t u)

-- nor is 3000
waits_above : (z : ℕ) → T (within 1 13 z) → T (within 7 8 z) → is_flying_zone (at3000 (side_of z)) ≡ false
unfolding is_flying_zone side_of
waits_above z t u = failed {b = is_flying_zone (at3000 (side_of z))} (zones_imply (within 7 8) (λ z. not (is_flying_zone (at3000 (side_of z)))) tt z t u)

-- ---- the line a, g, b, e, c: g at 3000 and e, which a request names, at the head of the missed zone
module _ {f : Side} (a : List Placed) (g : Placed) (b : List Placed) {e : Placed} {c : List Placed} {runway : List Aircraft} {legs : Legs} {r : Request}
    (m : AtHead f (a ++ g ∷ b) e c runway legs r) (missed_zone : T (within 7 8 e.zone)) (above : g.zone ≡ at3000 (side_of e.zone)) where
  abbrev z : ℕ
  z = e.zone

  abbrev y : ℕ
  y = at3000 (side_of z)

  abbrev w : ℕ
  w = at2000 (side_of z)

  abbrev F : Field
  F = field_of f (a ++ g ∷ (b ++ e ∷ c)) runway legs

  -- the line as seen from g
  grouped : (a ++ g ∷ b) ++ e ∷ c ≡ a ++ g ∷ (b ++ e ∷ c)
  grouped = append_assoc a (g ∷ b) (e ∷ c)

  orderly₁ : Orderly f (a ++ g ∷ (b ++ e ∷ c)) runway legs
  orderly₁ = subst (λ (l : List Placed). Orderly f l runway legs) grouped m.orderly

  zones_here : zones_in (b ++ e ∷ c) ≡ zones_in b ++ z ∷ zones_in c
  zones_here = zones_split b e c

  -- the zones before the hold and after it
  zones_before : zones_in (a ++ g ∷ (b ++ e ∷ c)) ≡ zones_in a ++ y ∷ (zones_in b ++ z ∷ zones_in c)
  zones_before = zones_split a g (b ++ e ∷ c) ∙ ap (λ (v : ℕ). zones_in a ++ v ∷ zones_in (b ++ e ∷ c)) above ∙ ap (λ (l : List ℕ). zones_in a ++ y ∷ l) zones_here

  heads_here : T (free (zones_in a ++ y ∷ zones_in b) z)
  heads_here = subst (λ (l : List ℕ). T (free l z)) (zones_split a g b ∙ ap (λ (v : ℕ). zones_in a ++ v ∷ zones_in b) above) m.heads

  both : BothMoved f (zones_in a) y w (zones_in b) z (zones_in c)
  both =
      hold_both f (zones_in a) (zones_in b) z (zones_in c) missed_zone
      (subst (λ (l : List ℕ). T (okay f l)) zones_before orderly₁.okay_line)
      heads_here

  -- the first move, from 3000 to 2000
  downwards : ZonesAllow f a g (b ++ e ∷ c) w
  downwards =
      record {
        heads = subst (λ (v : ℕ). T (free (zones_in a) v)) (sym above) both.head_above;
        none_behind = subst (λ (l : List ℕ). T (free l w)) (sym zones_here) both.none_below;
        other = subst (λ (v : ℕ). T (not (eqb w v))) (sym above) both.apart.0;
        inside = both.inside_w;
        okay_after = subst (λ (l : List ℕ). T (okay f (zones_in a ++ w ∷ l))) (sym zones_here) both.okay_within;
      }

  moved_down : moved F y w ≡ field_of f (a ++ into legs w g ∷ (b ++ e ∷ c)) runway legs
  moved_down = ap (λ (v : ℕ). moved F v w) (sym above) ∙ moved_is downwards orderly₁

  -- the line as seen from e
  abbrev a₂ : List Placed
  a₂ = a ++ into legs w g ∷ b

  regroup : (h : Placed) → a ++ into legs w g ∷ (b ++ h ∷ c) ≡ a₂ ++ h ∷ c
  regroup h = sym (append_assoc a (into legs w g ∷ b) (h ∷ c))

  orderly₂ : Orderly f (a₂ ++ e ∷ c) runway legs
  orderly₂ = subst (λ (l : List Placed). Orderly f l runway legs) (regroup e) (moved_orderly downwards orderly₁)

  zones₂ : zones_in a₂ ≡ zones_in a ++ w ∷ zones_in b
  zones₂ = zones_split a (into legs w g) b

  zones_after : zones_in a₂ ++ y ∷ zones_in c ≡ zones_in a ++ w ∷ (zones_in b ++ y ∷ zones_in c)
  zones_after = ap (λ (l : List ℕ). l ++ y ∷ zones_in c) zones₂ ∙ append_assoc (zones_in a) (w ∷ zones_in b) (y ∷ zones_in c)

  -- the second move, from the missed zone to 3000
  upwards : ZonesAllow f a₂ e c y
  upwards =
      record {
        heads = subst (λ (l : List ℕ). T (free l z)) (sym zones₂) (free_changed (zones_in a) y w (zones_in b) z heads_here (failed {b = eqb w z} both.apart.2));
        none_behind = both.none_behind;
        other = both.apart.1;
        inside = both.inside_y;
        okay_after = subst (λ (l : List ℕ). T (okay f l)) (sym zones_after) both.okay_after;
      }

  moved_up : moved (moved F y w) z y ≡ field_of f (a₂ ++ into legs y e ∷ c) runway legs
  moved_up = ap (λ (h : Field). moved h z y) (moved_down ∙ ap (λ (l : List Placed). field_of f l runway legs) (regroup e)) ∙ moved_is upwards orderly₂

  -- the one in the missed zone goes to 3000, after the one there has gone to 2000
  carried_both : r.kind ≡ 11 → Carried legs r (a ++ g ∷ (b ++ e ∷ c)) runway (a₂ ++ into legs y e ∷ c) runway
  carried_both h =
      let in_zone_lem = lower z (zone_in f a₂ e c runway legs orderly₂) in
      let second = carried_one legs r a₂ e (into legs y e) c runway orderly₂.different m.named (ap adds_moves h) (onward_into legs y e) in
      let along : WentAlong legs r g (into legs w g) =
      record {
        onward = onward_into legs w g;
        not_named = other;
        waited_before = ap is_flying_zone above ∙ waits_above z in_zone_lem missed_zone;
        waits_after = waits z in_zone_lem missed_zone;
      } in
      followed_first a (b ++ e ∷ c) along (subst (λ (l : List Placed). Carried legs r l runway (a₂ ++ into legs y e ∷ c) runway) (sym (regroup e)) second)
    where
      other : g.aircraft.number ≡ r.number → ⊥
      other q =
          let al = (apart_in a₂ e c runway orderly₂.different).ahead in
          let here = or_false_left (eqb (into legs w g).aircraft.number e.aircraft.number) (is_in e.aircraft.number (numbers_of b))
          (absent_right e.aircraft.number (numbers_of a) (numbers_of (into legs w g ∷ b))
          (ap (is_in e.aircraft.number) (sym (map_append (λ (p : Placed). p.aircraft.number) a (into legs w g ∷ b))) ∙ al)) in
          true≢false (sym (eq-eqb (into legs w g).aircraft.number e.aircraft.number ((into_arrived legs w g.aircraft).number ∙ q ∙ m.named)) ∙ here)

  after_grouped : r.kind ≡ 11 → effect_of F r ≡ moved (moved F y w) z y → After f (a ++ g ∷ (b ++ e ∷ c)) runway legs r
  after_grouped h eff =
      record {
        first_after = f;
        line_after = a₂ ++ into legs y e ∷ c;
        runway_after = runway;
        effect = eff ∙ moved_up;
        orderly = moved_orderly upwards orderly₂;
        balance =
            λ who.
            let p = ap (passing who) (same_desks a₂ e (into legs y e) c (into_arrived legs y e.aircraft).desk) in
            let q = ap (λ (l : List Placed). passing who (desks_in l)) (regroup e) in
            let v = ap (passing who) (same_desks a g (into legs w g) (b ++ e ∷ c) (into_arrived legs w g.aircraft).desk) in
            kind_balance (who r.desk) (passing who (desks_on runway)) r.kind h (p ∙ sym q ∙ v);
        lighter =
            λ u.
            let p = ap weight (zones_split a₂ (into legs y e) c ∙ zones_after) in
            let q = ap weight zones_before in
            let l = both.lighter in
            let x = one_le (within 3 11 r.kind) in
            omega arith;
        carried = λ u. carried_both h;
        ticked_on = λ u. absurd (let n : 12 ≡ 11 = sym u ∙ h in omega arith);
        runway_on = λ u. absurd (let n : 12 ≡ 11 = sym u ∙ h in omega arith);
      }
    where
      kind_balance : (t : Bool) (x k : ℕ) → k ≡ 11 → {m n : ℕ} → m ≡ n → m + x + one ((eqb k 8 || eqb k 9) && t) ≡ n + x + one (within 1 2 k && t)
      kind_balance t x k h {m} {n} q = subst (λ (j : ℕ). m + x + one ((eqb j 8 || eqb j 9) && t) ≡ n + x + one (within 1 2 j && t)) (sym h) (omega arith)

  pub after_both : r.kind ≡ 11 → effect_of (field_of f ((a ++ g ∷ b) ++ e ∷ c) runway legs) r ≡ moved (moved (field_of f ((a ++ g ∷ b) ++ e ∷ c) runway legs) y w) z y
      → After f ((a ++ g ∷ b) ++ e ∷ c) runway legs r
  after_both h =
      subst (λ (l : List Placed). effect_of (field_of f l runway legs) r ≡ moved (moved (field_of f l runway legs) y w) z y → After f l runway legs r) (sym grouped) (after_grouped h)
