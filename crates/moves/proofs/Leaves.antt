-- What landing, taxiing off and exiting do to a field that an order stands for. Assumes nothing.
use mathlib.Core.Path.{◌≡◌, refl, sym, ap, ◌∙◌, subst}
use mathlib.Core.Bool.{Bool, false, cond}
use mathlib.Core.List.{List, [], ◌∷◌, ◌++◌}
use Prim.Native.Nat.{ℕ, ◌<◌}
use native.Mathlib.Omega.{arith}
use lib.Dec.{T, eqb}
use lib.ListN.{length}
use Rattle.request.specs.Input.{within}
use Rattle.field.specs.declared.Aircraft.{Aircraft}
use Rattle.field.specs.declared.Zone.{Zone}
use Rattle.field.specs.declared.Sequence.{Sequence}
use Rattle.field.specs.declared.Legs.{Legs}
use Rattle.field.specs.declared.Field.{Field}
use Rattle.field.specs.Airspace.{zone_of, arrived}
use Rattle.questions.specs.Find.{aircraft_at}
use Rattle.field.specs.Lists.{all_different}
use Rattle.edits.specs.Edits.{without_head, with_tail, with_zone, with_sequence, removed}
use Rattle.request.specs.declared.Request.{Request}
use Rattle.order.specs.Model.{Side, opp, num, next_fix}
use Rattle.rules.specs.Kinds.{head_gone, tail_put, moved, out_of_sequence, landed, exited}
use Rattle.field.proofs.TestLaws.{if_false, flip_eqb}
use Rattle.line.proofs.Line.{zone_for, tail_for, head_for, sequence_for, removed_for, field_by, Placed, zones_in, numbers_of, inside, zones_of, field_of}
use Rattle.line.proofs.CountedOnLine.{lower, not_13, zone_of_line, zone_of_runway}
use Rattle.line.proofs.Located.{inside_at, inside_other, head_there}
use Rattle.line.proofs.Orderly.{inside_le, length_numbers}
use Rattle.moves.proofs.Moves.{one_zone, two_zones, zone_other}

-- ---- kind 8: the one on the runway leaves the field
pub taxied : (f : Side) (line : List Placed) (x : Aircraft) (legs : Legs) → head_gone (field_of f line (x ∷ []) legs) 13 ≡ field_of f line [] legs
unfolding head_gone field_of
taxied f line x legs =
    one_zone (zones_of line (x ∷ [])) (zones_of line []) (sequence_for (numbers_of line)) (num (next_fix f (zones_in line))) legs 13 (without_head (zone_of (field_of f line (x ∷ []) legs) 13)) tt
    (ap without_head (zone_of_runway f line (x ∷ []) legs) ∙ head_for x [] (omega arith))
    (λ y t p. ap (λ (b : Bool). cond b (zone_for (x ∷ [])) (zone_for (inside y line))) p ∙ sym (ap (λ (b : Bool). cond b (zone_for []) (zone_for (inside y line))) p))

-- ---- the first of the sequence leaves it
module _ (f : Side) (e : Placed) (b : List Placed) (runway : List Aircraft) (legs : Legs) (t : T (within 1 12 e.zone)) (room : length b < 4) where
  abbrev F : Field
  F = field_of f (e ∷ b) runway legs

  abbrev z : ℕ
  z = e.zone

  abbrev N : ℕ
  N = num (next_fix f (zones_in (e ∷ b)))

  room_behind : length (inside z b) < 4
  room_behind = let p = inside_le z b in omega arith

  left_zone : without_head (zone_of F z) ≡ zone_for (inside z b)
  left_zone = ap without_head (zone_of_line f (e ∷ b) runway legs z t ∙ ap zone_for (inside_at [] e b)) ∙ head_for e.aircraft (inside z b) room_behind

  pub sequence_left : removed (sequence_for (numbers_of (e ∷ b))) e.aircraft.number ≡ sequence_for (numbers_of b)
  sequence_left = removed_for e.aircraft.number (numbers_of b) (let p = length_numbers b in omega arith)

  -- those of the other zones stay
  others : (y : ℕ) → eqb y z ≡ false → inside y (e ∷ b) ≡ inside y b
  others y p = inside_other y [] e b (flip_eqb y z p)

  pub head_gone_lem : head_gone F z ≡ field_by (zones_of b runway) (sequence_for (numbers_of (e ∷ b))) N legs
  unfolding head_gone field_of
  head_gone_lem =
      one_zone (zones_of (e ∷ b) runway) (zones_of b runway) (sequence_for (numbers_of (e ∷ b))) N legs z (without_head (zone_of F z)) (lower z t)
      (left_zone ∙ sym (if_false (zone_for runway) (zone_for (inside z b)) (not_13 z t)))
      (λ y u p. ap (λ (l : List Aircraft). cond (eqb y 13) (zone_for runway) (zone_for l)) (others y p))

  -- kind 9
  pub first_exits : z ≡ 11 → (r : Request) → r.number ≡ e.aircraft.number → exited F r ≡ field_of (opp f) b runway legs
  unfolding exited out_of_sequence with_sequence field_of
  first_exits h r n =
      ap (λ (w : ℕ). out_of_sequence (head_gone F w) r.number) (sym h)
      ∙ ap (λ (g : Field). out_of_sequence g r.number) head_gone_lem
      ∙ ap (λ (k : ℕ). field_by (zones_of b runway) (removed (sequence_for (numbers_of (e ∷ b))) k) N legs) n
      ∙ ap (λ (s : Sequence). field_by (zones_of b runway) s N legs) sequence_left

-- kind 7
module _ (f : Side) (e : Placed) (b : List Placed) (legs : Legs) (h : e.zone ≡ 12) (room : length b < 4) (d : T (all_different (numbers_of (e ∷ b) ++ []))) where
  abbrev F₇ : Field
  F₇ = field_of f (e ∷ b) [] legs

  abbrev x : Aircraft
  x = arrived legs 13 e.aircraft

  t : T (within 1 12 e.zone)
  t = subst (λ (z : ℕ). T (within 1 12 z)) (sym h) tt

  to_runway : moved F₇ 12 13 ≡ field_by (zones_of b (x ∷ [])) (sequence_for (numbers_of (e ∷ b))) (num (next_fix f (zones_in (e ∷ b)))) legs
  unfolding moved head_gone tail_put field_of
  to_runway =
      let S = sequence_for (numbers_of (e ∷ b)) in
      let N = num (next_fix f (zones_in (e ∷ b))) in
      let G = zones_of (e ∷ b) [] in
      let H = zones_of b (x ∷ []) in
      let P = without_head (zone_of F₇ 12) in
      ap (λ (y : Aircraft). with_zone (with_zone F₇ 12 P) 13 (with_tail (zone_of (with_zone F₇ 12 P) 13) (arrived legs 13 y)))
      (ap (λ (w : ℕ). aircraft_at F₇ w 1) (sym h) ∙ head_there f [] e b [] legs d t refl)
      ∙ ap (λ (q : Zone). with_zone (with_zone F₇ 12 P) 13 (with_tail q x)) (zone_other G H S N legs 12 13 P tt tt refl)
      ∙ two_zones G H S N legs 12 13 tt tt
      (ap (λ (w : ℕ). without_head (zone_of F₇ w)) (sym h) ∙ left_zone f e b [] legs t room ∙ ap (λ (w : ℕ). zone_for (inside w b)) h)
      (tail_for [] x (omega arith))
      (λ y u p q. ap (λ (l : List Aircraft). cond (eqb y 13) (zone_for []) (zone_for l)) (others f e b [] legs t room y (ap (eqb y) h ∙ p))
      ∙ ap (λ (c : Bool). cond c (zone_for []) (zone_for (inside y b))) q
      ∙ sym (ap (λ (c : Bool). cond c (zone_for (x ∷ [])) (zone_for (inside y b))) q))

  pub first_lands : (r : Request) → r.number ≡ e.aircraft.number → landed F₇ r ≡ field_of (opp f) b (x ∷ []) legs
  unfolding landed out_of_sequence with_sequence field_of
  first_lands r n =
      ap (λ (g : Field). out_of_sequence g r.number) to_runway
      ∙ ap (λ (k : ℕ). field_by (zones_of b (x ∷ [])) (removed (sequence_for (numbers_of (e ∷ b))) k) (num (next_fix f (zones_in (e ∷ b)))) legs) n
      ∙ ap (λ (s : Sequence). field_by (zones_of b (x ∷ [])) s (num (next_fix f (zones_in (e ∷ b)))) legs) (sequence_left f e b [] legs t room)
