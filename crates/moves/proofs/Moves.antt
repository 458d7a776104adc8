-- What the moves of one aircraft do to a field that an order stands for: it stands for the order with that aircraft in its new zone,
-- or without it. Assumes nothing.
use mathlib.Core.Path.{◌≡◌, refl, sym, ap, ◌∙◌}
use mathlib.Core.Logic.{inl, inr}
use mathlib.Core.Bool.{false, cond}
use mathlib.Core.List.{List, [], ◌∷◌, ◌++◌, append-nil}
use Prim.Native.Nat.{ℕ, suc, ◌+◌, ◌≤◌, ◌<◌}
use native.Mathlib.Omega.{arith}
use lib.Dec.{T, eqb}
use lib.ListN.{length, length-append}
use borrow.Author.Tests.{eqb-true}
use Rattle.request.specs.Input.{within}
use Rattle.field.specs.declared.Aircraft.{Aircraft}
use Rattle.field.specs.declared.Zone.{Zone}
use Rattle.field.specs.declared.Sequence.{Sequence}
use Rattle.field.specs.declared.Legs.{Legs}
use Rattle.field.specs.declared.Field.{Field}
use Rattle.field.specs.Airspace.{zone_of, arrived}
use Rattle.questions.specs.Find.{aircraft_at}
use Rattle.field.specs.Lists.{all_different}
use Rattle.edits.specs.Edits.{without_head, with_tail, with_zone}
use Rattle.order.specs.Model.{Side, opp, num, next_fix}
use Rattle.rules.specs.Kinds.{head_gone, tail_put, moved}
use Rattle.field.proofs.TestLaws.{if_true, if_false, decided}
use Rattle.field.proofs.ArrivalLaws.{into_arrived}
use Rattle.line.proofs.AheadInLists.{map_append}
use Rattle.line.proofs.Line.{zone_for, tail_for, head_for, sequence_for, field_by, zone_by, with_by, by_zones, Placed, zones_in, numbers_of, inside, zones_of, field_of}
use Rattle.line.proofs.CountedOnLine.{lower, not_13, zone_of_line}
use Rattle.questions.proofs.FindLaws.{numbers}
use Rattle.line.proofs.Located.{inside_at, inside_other, head_there}
use Rattle.line.proofs.Orderly.{inside_le}

-- ---- one zone, or two, written anew
module _ (g h : ℕ → Zone) (s : Sequence) (next : ℕ) (legs : Legs) where
  pub one_zone : (z : ℕ) (q : Zone) → T (within 1 13 z) → q ≡ h z → ((y : ℕ) → T (within 1 13 y) → eqb y z ≡ false → g y ≡ h y)
      → with_zone (field_by g s next legs) z q ≡ field_by h s next legs
  one_zone z q t e k =
      with_by g s next legs z q t
      ∙ by_zones (λ y. cond (eqb y z) q (g y)) s next legs h
      (λ y u. elim (decided (eqb y z)) [
        | inl b ↦ if_true q (g y) b ∙ e ∙ ap h (sym (eqb-true y z b))
        | inr b ↦ if_false q (g y) b ∙ k y u b
      ])

  pub two_zones : (z w : ℕ) {p q : Zone} → T (within 1 13 z) → T (within 1 13 w) → p ≡ h z → q ≡ h w
      → ((y : ℕ) → T (within 1 13 y) → eqb y z ≡ false → eqb y w ≡ false → g y ≡ h y)
      → with_zone (with_zone (field_by g s next legs) z p) w q ≡ field_by h s next legs
  two_zones z w {p} {q} t u e i k =
      ap (λ (f : Field). with_zone f w q) (with_by g s next legs z p t)
      ∙ with_by (λ y. cond (eqb y z) p (g y)) s next legs w q u
      ∙ by_zones (λ y. cond (eqb y w) q (cond (eqb y z) p (g y))) s next legs h
      (λ y v. elim (decided (eqb y w)) [
        | inl b ↦ if_true q (cond (eqb y z) p (g y)) b ∙ i ∙ ap h (sym (eqb-true y w b))
        | inr b ↦ elim (decided (eqb y z)) [
          | inl c ↦ if_false q (cond (eqb y z) p (g y)) b ∙ if_true p (g y) c ∙ e ∙ ap h (sym (eqb-true y z c))
          | inr c ↦ if_false q (cond (eqb y z) p (g y)) b ∙ if_false p (g y) c ∙ k y v c b
        ]
      ])

  pub zone_other : (z w : ℕ) (p : Zone) → T (within 1 13 z) → T (within 1 13 w) → eqb w z ≡ false → zone_of (with_zone (field_by g s next legs) z p) w ≡ g w
  zone_other z w p t u b =
      ap (λ (f : Field). zone_of f w) (with_by g s next legs z p t) ∙ zone_by (λ y. cond (eqb y z) p (g y)) s next legs w u ∙ if_false p (g w) b

-- ---- lines of the same length and numbers
pub next_same : (f : Side) (a b : List Placed) → length a ≡ length b → next_fix f (zones_in a) ≡ next_fix f (zones_in b)
next_same f [] [] e = refl
next_same f [] (y ∷ b) e = absurd (omega arith)
next_same f (x ∷ a) [] e = absurd (omega arith)
next_same f (x ∷ a) (y ∷ b) e = next_same (opp f) a b (omega arith)

pub length_split : (a : List Placed) (e : Placed) (b : List Placed) → length (a ++ e ∷ b) ≡ suc (length a + length b)
length_split a e b = length-append a (e ∷ b) ∙ omega arith

pub same_length : (a : List Placed) (e g : Placed) (b : List Placed) → length (a ++ e ∷ b) ≡ length (a ++ g ∷ b)
same_length a e g b = length_split a e b ∙ sym (length_split a g b)

pub same_numbers : (a : List Placed) (e g : Placed) (b : List Placed) → e.aircraft.number ≡ g.aircraft.number → numbers_of (a ++ e ∷ b) ≡ numbers_of (a ++ g ∷ b)
same_numbers a e g b h =
    map_append (λ (p : Placed). p.aircraft.number) a (e ∷ b)
    ∙ ap (λ (n : ℕ). numbers_of a ++ n ∷ numbers_of b) h
    ∙ sym (map_append (λ (p : Placed). p.aircraft.number) a (g ∷ b))

-- ---- from one zone of the operation area to another

-- the one that has come into zone w
abbrev pub into : Legs → ℕ → Placed → Placed
into legs w e = record { aircraft = arrived legs w e.aircraft; zone = w }

-- what is asked of a move of e to zone w, with those ahead and behind: e heads its zone, and nobody behind it is in zone w
pub record MayMove (a : List Placed) (e : Placed) (b : List Placed) (w : ℕ) : Type 0 where
  pub from_zone : T (within 1 12 e.zone)
  pub to_zone : T (within 1 12 w)
  pub other_zone : eqb w e.zone ≡ false
  pub heads : inside e.zone a ≡ []
  pub none_behind : inside w b ≡ []
  pub room : length (a ++ e ∷ b) ≤ 4

module _ (f : Side) (a : List Placed) (e : Placed) (b : List Placed) (runway : List Aircraft) (legs : Legs) (w : ℕ)
    (m : MayMove a e b w) (d : T (all_different (numbers_of (a ++ e ∷ b) ++ numbers runway))) where
  abbrev F : Field
  F = field_of f (a ++ e ∷ b) runway legs

  abbrev x : Aircraft
  x = arrived legs w e.aircraft

  abbrev z : ℕ
  z = e.zone

  abbrev S : Sequence
  S = sequence_for (numbers_of (a ++ e ∷ b))

  abbrev N : ℕ
  N = num (next_fix f (zones_in (a ++ e ∷ b)))

  abbrev G : ℕ → Zone
  G = zones_of (a ++ e ∷ b) runway

  abbrev H : ℕ → Zone
  H = zones_of (a ++ into legs w e ∷ b) runway

  room_behind : length (inside z b) < 4
  room_behind = let p = inside_le z b in let q = length_split a e b in let r = m.room in omega arith

  room_ahead : length (inside w a) < 4
  room_ahead = let p = inside_le w a in let q = length_split a e b in let r = m.room in omega arith

  -- the zone that is left
  left_zone : without_head (zone_of F z) ≡ H z
  left_zone =
      ap without_head (zone_of_line f (a ++ e ∷ b) runway legs z m.from_zone ∙ ap zone_for (inside_at a e b ∙ ap (λ (l : List Aircraft). l ++ e.aircraft ∷ inside z b) m.heads))
      ∙ head_for e.aircraft (inside z b) room_behind
      ∙ sym (if_false (zone_for runway) (zone_for (inside z (a ++ into legs w e ∷ b))) (not_13 z m.from_zone)
      ∙ ap zone_for (inside_other z a (into legs w e) b m.other_zone ∙ ap (λ (l : List Aircraft). l ++ inside z b) m.heads))

  flipped : eqb z w ≡ false
  flipped = Rattle.field.proofs.TestLaws.flip_eqb w z m.other_zone

  before_zone : inside w (a ++ e ∷ b) ≡ inside w a
  before_zone = inside_other w a e b flipped ∙ ap (λ (l : List Aircraft). inside w a ++ l) m.none_behind ∙ append-nil (inside w a)

  -- the zone that is entered
  entered_zone : with_tail (G w) x ≡ H w
  entered_zone =
      ap (λ (q : Zone). with_tail q x) (if_false (zone_for runway) (zone_for (inside w (a ++ e ∷ b))) (not_13 w m.to_zone) ∙ ap zone_for before_zone)
      ∙ tail_for (inside w a) x room_ahead
      ∙ sym (if_false (zone_for runway) (zone_for (inside w (a ++ into legs w e ∷ b))) (not_13 w m.to_zone)
      ∙ ap zone_for (inside_at a (into legs w e) b ∙ ap (λ (l : List Aircraft). inside w a ++ x ∷ l) m.none_behind))

  -- any other zone
  kept_zone : (y : ℕ) → T (within 1 13 y) → eqb y z ≡ false → eqb y w ≡ false → G y ≡ H y
  kept_zone y t p q =
      ap (λ (l : List Aircraft). cond (eqb y 13) (zone_for runway) (zone_for l))
      (inside_other y a e b (Rattle.field.proofs.TestLaws.flip_eqb y z p) ∙ sym (inside_other y a (into legs w e) b (Rattle.field.proofs.TestLaws.flip_eqb y w q)))

  head_is : aircraft_at F z 1 ≡ e.aircraft
  head_is = head_there f a e b runway legs d m.from_zone m.heads

  after_is : field_by H S N legs ≡ field_of f (a ++ into legs w e ∷ b) runway legs
  unfolding field_of
  after_is =
      ap (λ (ns : List ℕ). field_by H (sequence_for ns) N legs) (same_numbers a e (into legs w e) b (sym (into_arrived legs w e.aircraft).number))
      ∙ ap (λ (s : Side). field_by H (sequence_for (numbers_of (a ++ into legs w e ∷ b))) (num s) legs) (next_same f (a ++ e ∷ b) (a ++ into legs w e ∷ b) (same_length a e (into legs w e) b))

  pub moved_line : moved F z w ≡ field_of f (a ++ into legs w e ∷ b) runway legs
  unfolding moved head_gone tail_put field_of
  moved_line =
      ap (λ (y : Aircraft). with_zone (with_zone F z (without_head (zone_of F z))) w (with_tail (zone_of (with_zone F z (without_head (zone_of F z))) w) (arrived legs w y))) head_is
      ∙ ap (λ (q : Zone). with_zone (with_zone F z (without_head (zone_of F z))) w (with_tail q x))
      (zone_other G H S N legs z w (without_head (zone_of F z)) (lower z m.from_zone) (lower w m.to_zone) m.other_zone)
      ∙ two_zones G H S N legs z w (lower z m.from_zone) (lower w m.to_zone) left_zone entered_zone kept_zone
      ∙ after_is
