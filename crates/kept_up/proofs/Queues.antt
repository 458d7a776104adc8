-- The queues of a field from which the head of a zone is taken, on which one more stands, or on which 3000 of a side was made empty. Assumes nothing.
use mathlib.Core.Path.{◌≡◌, refl, sym, ap, ◌∙◌, subst, subst⁻¹}
use mathlib.Core.Logic.{◌≢◌, ◌⊎◌, inl, inr}
use mathlib.Core.Bool.{Bool, true, false, not, ◌&&◌}
use mathlib.Core.List.{List, [], ◌∷◌}
use Prim.Native.Nat.{ℕ, suc, ◌+◌, ◌≤◌, ◌<◌}
use native.Mathlib.Omega.{arith}
use borrow.Author.Tests.{eqb-true, eqb-false, eq-eqb, ne_eqb}
use lib.Dec.{T, eqb, leb, ltb, leb→le}
use lib.Ieee.Fits.{and_l}
use lib.ListN.{length, drop}
use Rattle.leg.specs.Ticks.{Between}
use Rattle.field.specs.declared.Aircraft.{Aircraft}
use Rattle.field.specs.declared.Field.{Field}
use Rattle.field.specs.Airspace.{right, left, everywhere, zones_from, in_zone, zone_of, arrived}
use Rattle.edits.specs.Edits.{without_head, with_tail}
use Rattle.field.specs.Lists.{is_in, every}
use Rattle.field.proofs.ArrivalLaws.{into_arrived}
use Rattle.field.proofs.TestParts.{and_cut}
use Rattle.field.proofs.TestLaws.{decided, if_true, if_false, every_from}
use Rattle.questions.specs.declared.Place.{Place}
use Rattle.questions.specs.Counts.{how_many, is_empty, present_on}
use Rattle.questions.specs.Find.{aircraft_at, place_of, numbers_in}
use Rattle.questions.proofs.FindLaws.{at, found_exactly, found_there, absent_nowhere}
use Rattle.bounds.specs.Bounds.{lateral_rule, bound_c, within_bounds}
use Rattle.laws.proofs.EditLaws.{Shaped, queue_taken, queue_put, queue_kept}
use Rattle.laws.proofs.BoundLaws.{within_each, numbers_different}
use Rattle.rules.specs.Kinds.{head_gone, tail_put, moved, made_room}
use Rattle.rules.proofs.HeadOfRequest.{HeadOfQueue, head_alike}
use Rattle.rules.proofs.MovedShapes.{gone_shaped, put_shaped}
use Rattle.kept_up.proofs.Entries.{descended_place}
use Rattle.kept_up.proofs.Moved.{Left, Come, others_left, was_head, own_left, left_total, others_come, own_new, come_total}

module _ {f : Field} (sh : Shaped f) {z : ℕ} (b : Between 1 13 z) where
  -- with the head of a zone taken off it
  pub gone_left : {n : ℕ} → HeadOfQueue f n z → Left f (head_gone f z) z n
  unfolding head_gone
  gone_left heads =
      record {
        zone = b;
        head = heads.head;
        behind = heads.behind;
        here = heads.here;
        named = heads.named;
        after = queue_taken f sh z b ∙ ap (drop 1) heads.here;
        elsewhere = queue_kept f z (without_head (zone_of f z));
      }

  -- with an aircraft put at the tail of a zone
  pub put_come : (a : Aircraft) {n : ℕ} → a.number ≡ n → how_many f z < 4 → Come f (tail_put f z a) z n
  unfolding tail_put
  put_come a e few =
      record { zone = b; last = a; named = e; there = queue_put f sh z a b few; elsewhere = queue_kept f z (with_tail (zone_of f z) a) }

-- on a field with the same queues
pub left_same : {f g h : Field} {z n : ℕ} → ((y : ℕ) → in_zone h y ≡ in_zone g y) → Left f g z n → Left f h z n
left_same {z = z} same l =
    record {
      zone = l.zone;
      head = l.head;
      behind = l.behind;
      here = l.here;
      named = l.named;
      after = same z ∙ l.after;
      elsewhere = λ y k. same y ∙ l.elsewhere y k;
    }

pub come_same : {f g h : Field} {z n : ℕ} → ((y : ℕ) → in_zone h y ≡ in_zone g y) → Come f g z n → Come f h z n
come_same {z = z} same c =
    record { zone = c.zone; last = c.last; named = c.named; there = same z ∙ c.there; elsewhere = λ y k. same y ∙ c.elsewhere y k }

-- an aircraft has moved from the head of a zone to the tail of another
pub record Led (f g : Field) (n z w : ℕ) : Type 0 where
  pub apart : w ≢ z
  pub between : Field
  pub left : Left f between z n
  pub come : Come between g w n

-- what it takes that the head of zone z, with the number n, goes to the tail of zone w
pub record MayGo (f : Field) (n z w : ℕ) : Type 0 where
  pub from_zone : Between 1 13 z
  pub to_zone : Between 1 13 w
  pub other_zone : w ≢ z
  pub room : how_many f w < 4
  pub heads : HeadOfQueue f n z

module _ {f : Field} (sh : Shaped f) {n z w : ℕ} (m : MayGo f n z w) where
  -- by an aircraft that is put there
  pub put_led : (x : Aircraft) → x.number ≡ n → Led f (tail_put (head_gone f z) w x) n z w
  unfolding how_many
  put_led x e =
      let left = gone_left sh m.from_zone m.heads in
      let same = ap length (left.elsewhere w m.other_zone) in
      let room = m.room in
      record { apart = m.other_zone; between = head_gone f z; left = left; come = put_come (gone_shaped sh m.from_zone) m.to_zone x e (omega (arith, room, same)) }

  pub moved_led : Led f (moved f z w) n z w
  unfolding moved
  moved_led = put_led (arrived f.legs w (aircraft_at f z 1)) ((into_arrived f.legs w (aircraft_at f z 1)).number ∙ head_alike m.heads)

pub led_same : {f g h : Field} {n z w : ℕ} → ((y : ℕ) → in_zone h y ≡ in_zone g y) → Led f g n z w → Led f h n z w
led_same same l = record { apart = l.apart; between = l.between; left = l.left; come = come_same same l.come }

-- A holding and a lateral zone have at most one.
pub one_each : (f : Field) → T (within_bounds f) → (z : ℕ) → 1 ≤ z → z ≤ 6 → how_many f z ≤ 1
unfolding bound_c
one_each f before z low high =
    let c = (within_each f before).bound_c_is in
    let both = and_l (every (λ z. leb (how_many f z) 1) (zones_from 1 6) && lateral_rule f right) (lateral_rule f left) c in
    let each = and_l (every (λ z. leb (how_many f z) 1) (zones_from 1 6)) (lateral_rule f right) both in
    leb→le (how_many f z) 1 (every_from (λ z. leb (how_many f z) 1) 1 6 each z low (omega (arith, high)))

-- ---- 3000 of a side made empty
-- what is asked of it: the side is one, and nobody is at 2000 where somebody is at 3000
pub record MayMakeRoom (f : Field) (side : ℕ) : Type 0 where
  pub low : 1 ≤ side
  pub high : side ≤ 2
  pub clear : 1 ≤ how_many f side → how_many f (2 + side) ≡ 0

-- the field h with 3000 empty: one who was there on f is at 2000
pub record RoomMade (f : Field) (side : ℕ) (h : Field) : Type 0 where
  pub shaped : Shaped h
  pub none : in_zone h side ≡ []
  pub elsewhere : (y : ℕ) → y ≢ side → y ≢ 2 + side → in_zone h y ≡ in_zone f y
  pub looked : (m : ℕ) → place_of h m ≡ descended_place side (place_of f m)
  pub present : present_on h ≡ present_on f

module _ {f : Field} (sh : Shaped f) (before : T (within_bounds f)) {side : ℕ} (asked : MayMakeRoom f side) where
  here : Between 1 13 side
  here = record { least = asked.low; most = omega arith }

  below : Between 1 13 (2 + side)
  below = record { least = omega arith; most = omega arith }

  one : how_many f side ≤ 1
  one = one_each f before side asked.low (omega arith)

  -- who is found there stands there
  stands : (m : ℕ) → (place_of f m).zone ≡ side → (1 ≤ how_many f side) × ((aircraft_at f side 1).number ≡ m)
  stands m e =
      elim (decided (is_in m (numbers_in f everywhere))) [
        | inl t ↦
            let p = found_there f m t in
            let first = p.first in
            let last : (place_of f m).place ≤ how_many f side = subst (λ (z : ℕ). (place_of f m).place ≤ how_many f z) e p.last in
            let most = one in
            let place : (place_of f m).place ≡ 1 = omega (arith, first, last, most) in
            (omega (arith, first, last), sym (ap (λ (z : ℕ). (aircraft_at f z 1).number) e) ∙ sym (ap (λ (k : ℕ). (aircraft_at f (place_of f m).zone k).number) place) ∙ p.has)
        | inr t ↦ let none : 0 ≡ side = sym (ap (λ (p : Place). p.zone) (absent_nowhere f m t)) ∙ e in absurd (omega (arith, none))
      ]

  stays : (p : Place) → p.zone ≢ side → p ≡ descended_place side p
  stays p h = sym (if_false _ _ (ne_eqb p.zone side h))

  -- nobody was there
  empty_already : how_many f side ≡ 0 → RoomMade f side f
  unfolding how_many
  empty_already e =
      record {
        shaped = sh;
        none = nil (in_zone f side) e;
        elsewhere = λ y h k. refl;
        looked = λ m. stays (place_of f m) (λ t. let some = (stands m t).0 in omega (arith, some, e));
        present = refl;
      }
    where
      nil : (l : List Aircraft) → length l ≡ 0 → l ≡ []
      nil [] h = refl
      nil (x ∷ l) h = absurd (omega (arith, h))

  -- one was there
  module _ (x : Aircraft) (there : in_zone f side ≡ x ∷ []) where
    abbrev n : ℕ
    n = x.number

    heads : HeadOfQueue f n side
    heads = record { head = x; behind = []; here = there; named = refl }

    some : 1 ≤ how_many f side
    unfolding how_many
    some = let e = ap length there in omega (arith, e)

    led : Led f (moved f side (2 + side)) n side (2 + side)
    led = let e = asked.clear some in moved_led sh (record { from_zone = here; to_zone = below; other_zone = λ t. omega (arith, t); room = omega (arith, e); heads = heads })

    nowhere_between : is_in n (numbers_in led.between everywhere) ≡ false
    nowhere_between =
        is_out (is_in n (numbers_in led.between everywhere))
        (sym (ap (λ (p : Place). eqb p.zone 0) (own_left led.left (numbers_different f before))) ∙ found_exactly led.between n)
      where
        is_out : (b : Bool) → true ≡ not b → b ≡ false
        is_out true e = e
        is_out false e = refl

    moved_down : RoomMade f side (moved f side (2 + side))
    unfolding moved how_many led moved_led put_led gone_left heads
    moved_down =
        record {
          shaped = put_shaped (gone_shaped sh here) below (arrived f.legs (2 + side) (aircraft_at f side 1));
          none = led.come.elsewhere side (λ t. omega (arith, t)) ∙ led.left.after;
          elsewhere = λ y h k. led.come.elsewhere y k ∙ led.left.elsewhere y h;
          looked = λ m. look m (decided (eqb m n));
          present = let up = come_total led.come in let down = left_total led.left in omega (arith, up, down);
        }
      where
        look : (m : ℕ) → (eqb m n ≡ true) ⊎ (eqb m n ≡ false) → place_of (moved f side (2 + side)) m ≡ descended_place side (place_of f m)
        look m (inl t) =
            let own = eqb-true m n t in
            let none : how_many led.between (2 + side) ≡ 0 = as_before ∙ asked.clear some in
            ap (place_of (moved f side (2 + side))) own
            ∙ own_new led.come nowhere_between
            ∙ ap (λ (k : ℕ). at (2 + side) (suc k)) none
            ∙ sym (ap (descended_place side) (ap (place_of f) own ∙ was_head led.left (numbers_different f before)) ∙ if_true _ _ (eq-eqb side side refl))
          where
            as_before : how_many led.between (2 + side) ≡ how_many f (2 + side)
            as_before = many (led.left.elsewhere (2 + side) (λ t. omega (arith, t)))
              where
                many : {k l : List Aircraft} → k ≡ l → length k ≡ length l
                many e = ap length e
        look m (inr t) =
            let other = eqb-false m n t in
            let zone : (place_of f m).zone ≢ side = λ e. other (sym (stands m e).1 ∙ head_alike heads) in
            others_come led.come m other
            ∙ others_left led.left m other
            ∙ if_false _ _ (and_cut (ltb 1 (place_of f m).place) (ne_eqb (place_of f m).zone side zone))
            ∙ stays (place_of f m) zone

  -- `made_room` (`rules`) makes it so.
  pub room_made : RoomMade f side (made_room f side)
  unfolding made_room how_many
  room_made =
      elim (decided (is_empty f side)) [
        | inl e ↦ subst⁻¹ (RoomMade f side) (if_true _ _ e) (empty_already (eqb-true (how_many f side) 0 e))
        | inr e ↦
            let some = eqb-false (how_many f side) 0 e in
            subst⁻¹ (RoomMade f side) (if_false _ _ e) (alone (in_zone f side) refl some one)
      ]
    where
      alone : (l : List Aircraft) → in_zone f side ≡ l → how_many f side ≢ 0 → how_many f side ≤ 1 → RoomMade f side (moved f side (2 + side))
      alone [] i a b = absurd (a (many i))
        where
          many : in_zone f side ≡ [] → how_many f side ≡ 0
          many i = ap length i
      alone (x ∷ []) i a b = moved_down x i
      alone (x ∷ y ∷ l) i a b = absurd (let e = many i in omega (arith, e, b))
        where
          many : in_zone f side ≡ x ∷ y ∷ l → how_many f side ≡ suc (suc (length l))
          many i = ap length i
