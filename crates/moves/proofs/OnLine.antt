-- The kinds that take an aircraft from one zone of the operation area to another: 3, 4, 5, 6 and 11. Assumes nothing.
use mathlib.Core.Path.{◌≡◌, refl, sym, ap, ◌∙◌, subst}
use mathlib.Core.Bool.{Bool, true, false, cond, not, ◌&&◌, ◌||◌, false≢true}
use mathlib.Core.List.{List, ◌∷◌, ◌++◌}
use Prim.Native.Nat.{ℕ}
use native.Mathlib.Omega.{arith}
use lib.Dec.{T, leb, eqb}
use lib.Ieee.Fits.{and_i, and_l, and_r}
use borrow.Author.Tests.{eqb-true, eqb-false}
use Rattle.request.specs.Input.{within, is_entry, first_refused}
use Rattle.request.specs.declared.Request.{Request}
use Rattle.request.proofs.InputTests as input
use Rattle.field.specs.declared.Aircraft.{Aircraft}
use Rattle.field.specs.declared.Legs.{Legs}
use Rattle.field.specs.declared.Field.{Field}
use Rattle.questions.specs.declared.Place.{Place}
use Rattle.field.specs.Airspace.{opposite, side_of, at3000, at2000, base}
use Rattle.questions.specs.Counts.{how_many, is_empty}
use Rattle.questions.specs.Find.{is_first, leader_zone}
use Rattle.order.specs.Model as model
use Rattle.order.specs.Model.{Side, count, free, is_nil, last_or, Kind, descend, approaching, merge, final, hold, needs, target, weight, one}
use Rattle.order.proofs.Facts.{okay_zones, moves}
use Rattle.rules.specs.Kinds.{starts_from, zone_before, zone_ahead, may_approach, may_merge, base_free, moved, approached, held}
use Rattle.rules.specs.Step.{effect_of}
use Rattle.rules.specs.Play.{adds_moves}
use Rattle.field.proofs.TestLaws.{passed, failed, pass, if_true, zones_imply}
use Rattle.field.proofs.NumberLists.{or_false_left, or_false_right}
use Rattle.field.proofs.ArrivalLaws.{into_arrived}
use Rattle.line.proofs.AheadInLists.{map_append, every_left}
use Rattle.line.proofs.Line.{Placed, zones_in, numbers_of, field_of}
use Rattle.line.proofs.CountedOnLine.{how_many_lem, lower}
use Rattle.questions.proofs.FindLaws.{numbers}
use Rattle.line.proofs.Located.{first_there}
use Rattle.line.proofs.Leaders.{nonzero, leader_zone_lem}
use Rattle.moves.proofs.Owners.{passing, same_desks}
use Rattle.moves.proofs.Moves.{into}
use Rattle.moves.proofs.Carried.{onward_into, carried_one}
use Rattle.moves.proofs.AfterAccepted.{After, leaves, one_le, zones_split, okay_split, zone_in, ZonesAllow, by_model, moved_is, moved_orderly}
use Rattle.moves.proofs.Heads.{AtHead}
use Rattle.rules.proofs.Checks.{effect_at, besides}

-- ---- the zones that a kind starts from, and those that it leads to, one by one
three_from : (z : ℕ) → T (within 1 13 z) → T (starts_from 3 z) → T (within 1 2 z && within 1 12 (at2000 z))
unfolding starts_from
three_from = zones_imply (starts_from 3) (λ z. within 1 2 z && within 1 12 (at2000 z)) tt

four_from : (z : ℕ) → T (within 1 13 z) → T (starts_from 4 z) → T (within 3 6 z && within 1 12 (base (opposite (side_of z))))
unfolding starts_from side_of opposite
four_from = zones_imply (starts_from 4) (λ z. within 3 6 z && within 1 12 (base (opposite (side_of z)))) tt

five_from : (z : ℕ) → T (within 1 13 z) → T (starts_from 5 z) → T (within 9 10 z)
unfolding starts_from
five_from = zones_imply (starts_from 5) (within 9 10) tt

six_from : (z : ℕ) → T (within 1 13 z) → T (starts_from 6 z) → T (eqb z 11)
unfolding starts_from
six_from = zones_imply (starts_from 6) (λ z. eqb z 11) tt

-- a missed zone, with the two holdings of its side
pub record MissedZone (z : ℕ) : Type 0 where
  pub is_missed : T (within 7 8 z)
  pub above : T (within 1 12 (at3000 (side_of z)))
  pub below : T (within 1 12 (at2000 (side_of z)))

pub eleven_from : (z : ℕ) → T (within 1 13 z) → T (starts_from 11 z) → MissedZone z
unfolding starts_from side_of
eleven_from z t u =
    record {
      is_missed = zones_imply (starts_from 11) (within 7 8) tt z t u;
      above = zones_imply (starts_from 11) (λ z. within 1 12 (at3000 (side_of z))) tt z t u;
      below = zones_imply (starts_from 11) (λ z. within 1 12 (at2000 (side_of z))) tt z t u;
    }

-- a move to one of two zones
pub either_zone : (f : Field) (z p q : ℕ) (b : Bool) → cond b (moved f z p) (moved f z q) ≡ moved f z (cond b p q)
either_zone f z p q true = refl
either_zone f z p q false = refl

-- where both needs are met or the zone is lateral, the needs choose
from_lateral : {A : Type 0} (l m b : Bool) (x y : A) → (l || m) ≡ true → (l || b) ≡ true → cond l (cond (m && b) x y) x ≡ cond (m && b) x y
from_lateral true m b x y h k = refl
from_lateral false true true x y h k = refl
from_lateral false true false x y h k = absurd (false≢true k)
from_lateral false false b x y h k = absurd (false≢true h)

-- from lateral both needs are excused together
excused : (l p q : Bool) → (l || p) ≡ true → (l || q) ≡ true → (l || (p && q)) ≡ true
excused true p q a b = refl
excused false true q a b = b
excused false false q a b = a

-- a kind that moves an aircraft from zone to zone: no entry, no taxi, no exit, no miss, no tick
abbrev stays_on : ℕ → Bool
stays_on kind = not (leaves kind || adds_moves kind || eqb kind 12)

-- ---- one of the line that a request names, at the head of its zone
module _ {f : Side} {a : List Placed} {e : Placed} {b : List Placed} {runway : List Aircraft} {legs : Legs} {r : Request} (m : AtHead f a e b runway legs r) where
  abbrev F : Field
  F = field_of f (a ++ e ∷ b) runway legs

  abbrev z : ℕ
  z = e.zone

  abbrev zs₁ : List ℕ
  zs₁ = zones_in a

  abbrev zs₂ : List ℕ
  zs₂ = zones_in b

  pub zone_before_lem : zone_before F r ≡ z
  zone_before_lem = ap (λ (p : Place). p.zone) m.place_is

  in_13 : T (within 1 13 z)
  in_13 = lower z (zone_in f a e b runway legs m.orderly)

  pub from_kind : {k : ℕ} → r.kind ≡ k → T (starts_from k z)
  from_kind h = subst (λ (k : ℕ). T (starts_from k z)) h m.starts

  -- how many are in a zone, by the model
  pub many : (w : ℕ) → T (within 1 12 w) → how_many F w ≡ count (zs₁ ++ z ∷ zs₂) w
  many w t = how_many_lem f (a ++ e ∷ b) runway legs w t ∙ ap (λ (l : List ℕ). count l w) (map_append (λ (p : Placed). p.zone) a (e ∷ b))

  pub empty_free : (w : ℕ) → T (within 1 12 w) → is_empty F w ≡ free (zs₁ ++ z ∷ zs₂) w
  empty_free w t = ap (λ (n : ℕ). eqb n 0) (many w t)

  first_is : is_first F.sequence r.number ≡ is_nil zs₁
  first_is = ap (is_first F.sequence) m.named ∙ first_there f a e b runway legs m.orderly.different

  leads : leader_zone F r.number ≡ last_or 0 zs₁
  leads =
      let o = m.orderly in
      ap (leader_zone F) m.named
      ∙ leader_zone_lem f e b runway legs a o.different (every_left nonzero (numbers_of (a ++ e ∷ b)) (numbers runway) o.nonzeros) (okay_zones f (zones_in (a ++ e ∷ b)) o.okay_line)

  -- first in sequence, or the leader in zones low to high
  led : (low high : ℕ) → (is_first F.sequence r.number || within low high (leader_zone F r.number)) ≡ (is_nil zs₁ || within low high (last_or 0 zs₁))
  led low high = ap (λ (t : Bool). t || within low high (leader_zone F r.number)) first_is ∙ ap (λ (n : ℕ). is_nil zs₁ || within low high n) leads

  -- a move of the model's, as a request's effect
  line_move : (k : Kind) {j : ℕ} → r.kind ≡ j → T (stays_on j) → T (needs k zs₁ z zs₂) → effect_of F r ≡ moved F z (target k zs₁ z zs₂) → After f (a ++ e ∷ b) runway legs r
  line_move k h s n eff =
      let w = target k zs₁ z zs₂ in
      let g = moves k f zs₁ z zs₂ (okay_split f a e b m.orderly.okay_line) m.heads n in
      let allowed : ZonesAllow f a e b w = by_model m.heads g in
      let stays = failed {b = leaves r.kind || adds_moves r.kind || eqb r.kind 12} (subst (λ (k : ℕ). T (stays_on k)) (sym h) s) in
      let one_way = or_false_left (leaves r.kind || adds_moves r.kind) (eqb r.kind 12) stays in
      let adds = or_false_right (leaves r.kind) (adds_moves r.kind) one_way in
      let tick : r.kind ≡ 12 → ⊥ = eqb-false r.kind 12 (or_false_right (leaves r.kind || adds_moves r.kind) (eqb r.kind 12) stays) in
      record {
        first_after = f;
        line_after = a ++ into legs w e ∷ b;
        runway_after = runway;
        effect = eff ∙ moved_is allowed m.orderly;
        orderly = moved_orderly allowed m.orderly;
        balance =
            λ who.
            let p = ap (passing who) (same_desks a e (into legs w e) b (into_arrived legs w e.aircraft).desk) in
            let q = ap (λ (b : Bool). one (b && who r.desk)) (or_false_left (leaves r.kind) (adds_moves r.kind) one_way) in
            let v = ap (λ (b : Bool). one (b && who r.desk)) (or_false_left (is_entry r.kind) (eqb r.kind 10) adds) in
            omega arith;
        lighter =
            λ u.
            let p = ap weight (zones_split a e b) in
            let q = ap weight (zones_split a (into legs w e) b) in
            let l = g.lighter in
            let v = one_le (within 3 11 r.kind) in
            omega arith;
        carried = λ u. carried_one legs r a e (into legs w e) b runway m.orderly.different m.named adds (onward_into legs w e);
        ticked_on = λ u. absurd (tick u);
        runway_on = λ u. absurd (tick u);
      }

  -- kind 3
  pub after_3 : r.kind ≡ 3 → first_refused (besides F r 3) ≡ 0 → After f (a ++ e ∷ b) runway legs r
  after_3 h c =
      let q = three_from z in_13 (from_kind h) in
      let q₁ = and_l (within 1 2 z) (within 1 12 (at2000 z)) q in
      let q₂ = and_r (within 1 2 z) (within 1 12 (at2000 z)) q in
      let t = (input.passed (besides F r 3) (tt, tt) c).0 in
      line_move descend h tt
      (and_i (within 1 2 z) (free (zs₁ ++ z ∷ zs₂) (at2000 z)) q₁ (pass (sym (empty_free (at2000 z) q₂) ∙ ap (λ (w : ℕ). is_empty F (at2000 w)) (sym zone_before_lem) ∙ t)))
      (effect_at F r h ∙ ap (λ (w : ℕ). moved F w (at2000 w)) zone_before_lem)

  -- kind 4
  may_is : T (within 1 12 (base (opposite (side_of z)))) → (may_approach F.sequence r.number (zone_ahead F r) && base_free F (side_of z)) ≡ model.may_come_to_base zs₁ z zs₂
  unfolding may_approach base_free
  may_is t = ap (λ (c : Bool). c && base_free F (side_of z)) (led 9 12) ∙ ap (λ (n : ℕ). (is_nil zs₁ || within 9 12 (last_or 0 zs₁)) && leb n 1) (many (base (opposite (side_of z))) t)

  pub after_4 : r.kind ≡ 4 → first_refused (besides F r 4) ≡ 0 → After f (a ++ e ∷ b) runway legs r
  unfolding approached
  after_4 h c =
      let q = four_from z in_13 (from_kind h) in
      let q₁ = and_l (within 3 6 z) (within 1 12 (base (opposite (side_of z)))) q in
      let q₂ = and_r (within 3 6 z) (within 1 12 (base (opposite (side_of z)))) q in
      let p = input.passed (besides F r 4) (tt, (tt, tt)) c in
      let t₁ : (within 5 6 z || may_approach F.sequence r.number (zone_ahead F r)) ≡ true =
      ap (λ (w : ℕ). within 5 6 w || may_approach F.sequence r.number (zone_ahead F r)) (sym zone_before_lem) ∙ p.0 in
      let t₂ : (within 5 6 z || base_free F (side_of z)) ≡ true = ap (λ (w : ℕ). within 5 6 w || base_free F (side_of w)) (sym zone_before_lem) ∙ p.1.0 in
      line_move approaching h tt
      (and_i (within 3 6 z) (within 5 6 z || model.may_come_to_base zs₁ z zs₂) q₁
      (pass (ap (λ (t : Bool). within 5 6 z || t) (sym (may_is q₂)) ∙ excused (within 5 6 z) (may_approach F.sequence r.number (zone_ahead F r)) (base_free F (side_of z)) t₁ t₂)))
      (effect_at F r h
      ∙ ap (λ (w : ℕ). cond (within 5 6 w) (cond (may_approach F.sequence r.number (zone_ahead F r) && base_free F (side_of w))
      (moved F w (base (side_of w))) (moved F w (at2000 (side_of w)))) (moved F w (base (side_of w)))) zone_before_lem
      ∙ from_lateral (within 5 6 z) (may_approach F.sequence r.number (zone_ahead F r)) (base_free F (side_of z)) _ _ t₁ t₂
      ∙ ap (λ (t : Bool). cond t (moved F z (base (side_of z))) (moved F z (at2000 (side_of z)))) (may_is q₂)
      ∙ either_zone F z (base (side_of z)) (at2000 (side_of z)) (model.may_come_to_base zs₁ z zs₂))

  -- kind 5
  pub after_5 : r.kind ≡ 5 → first_refused (besides F r 5) ≡ 0 → After f (a ++ e ∷ b) runway legs r
  unfolding may_merge
  after_5 h c =
      let q = five_from z in_13 (from_kind h) in
      let p = input.passed (besides F r 5) (tt, (tt, tt)) c in
      line_move merge h tt
      (and_i (within 9 10 z) (is_nil zs₁ || within 11 12 (last_or 0 zs₁)) q (pass (sym (led 11 12) ∙ p.1.0)))
      (effect_at F r h ∙ ap (λ (w : ℕ). moved F w 11) zone_before_lem)

  -- kind 6
  pub after_6 : r.kind ≡ 6 → After f (a ++ e ∷ b) runway legs r
  after_6 h =
      let q = six_from z in_13 (from_kind h) in
      line_move final h tt q
      (effect_at F r h ∙ ap (λ (w : ℕ). moved F w 12) (sym (eqb-true z 11 (passed q))))

  -- kind 11, where 3000 is empty
  pub after_11 : r.kind ≡ 11 → is_empty F (at3000 (side_of z)) ≡ true → After f (a ++ e ∷ b) runway legs r
  unfolding held
  after_11 h t =
      let q = eleven_from z in_13 (from_kind h) in
      line_move hold h tt
      (and_i (within 7 8 z) (free (zs₁ ++ z ∷ zs₂) (at3000 (side_of z))) q.is_missed (pass (sym (empty_free (at3000 (side_of z)) q.above) ∙ t)))
      (effect_at F r h
      ∙ ap (λ (w : ℕ). cond (is_empty F (at3000 (side_of w))) (cond (is_empty F (at2000 (side_of w))) (moved F w (at2000 (side_of w))) (moved F w (at3000 (side_of w))))
      (moved (moved F (at3000 (side_of w)) (at2000 (side_of w))) w (at3000 (side_of w)))) zone_before_lem
      ∙ if_true (cond (is_empty F (at2000 (side_of z))) (moved F z (at2000 (side_of z))) (moved F z (at3000 (side_of z)))) (moved (moved F (at3000 (side_of z)) (at2000 (side_of z))) z (at3000 (side_of z))) t
      ∙ either_zone F z (at2000 (side_of z)) (at3000 (side_of z)) (is_empty F (at2000 (side_of z)))
      ∙ ap (λ (c : Bool). moved F z (cond c (at2000 (side_of z)) (at3000 (side_of z)))) (empty_free (at2000 (side_of z)) q.below))
