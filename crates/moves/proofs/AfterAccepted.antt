-- What an accepted request leaves behind, said of the order that the field stands for; and a move on
-- the line. Assumes nothing.
use mathlib.Core.Path.{◌≡◌, refl, sym, subst}
use mathlib.Core.Bool.{Bool, true, false, not, ◌&&◌, ◌||◌}
use mathlib.Core.List.{List, ◌∷◌, ◌++◌, map}
use Prim.Native.Nat.{ℕ, ◌+◌, ◌≤◌}
use native.Mathlib.Omega.{arith}
use lib.Dec.{T, eqb}
use lib.ListN.{length}
use lib.Ieee.Fits.{and_l}
use Rattle.request.specs.Input.{within, is_entry}
use Rattle.request.specs.declared.Request.{Request}
use Rattle.field.specs.declared.Aircraft.{Aircraft}
use Rattle.field.specs.declared.Legs.{Legs}
use Rattle.field.specs.Lists.{every}
use Rattle.order.specs.Model.{Side, free, okay, weight, one}
use Rattle.order.proofs.Facts.{Moved, okay_length, okay_zones}
use Rattle.rules.specs.Kinds.{moved}
use Rattle.rules.specs.Step.{effect_of}
use Rattle.rules.specs.Play.{adds_moves}
use Rattle.field.proofs.TestLaws.{failed}
use Rattle.field.proofs.ArrivalLaws.{into_arrived}
use Rattle.laws.proofs.Fits.{arrived_fits}
use Rattle.line.proofs.AheadInLists.{map_append}
use Rattle.line.proofs.Line.{Placed, zones_in, inside, field_of}
use Rattle.line.proofs.CountedOnLine.{free_inside}
use Rattle.line.proofs.Leaders.{all_at}
use Rattle.line.proofs.Orderly.{Orderly, length_zones}
use Rattle.moves.proofs.Moves.{into, MayMove, moved_line}
use Rattle.moves.proofs.Owners.{owners, owners_all}
use Rattle.moves.proofs.TickOnLine.{tick_placed}
use Rattle.moves.proofs.StaysOrderly.{changed, placed_fits}
use Rattle.moves.proofs.Carried.{Carried}

-- ---- after an accepted request

-- kinds 8 and 9, by which an aircraft leaves the field
abbrev pub leaves : ℕ → Bool
leaves kind = eqb kind 8 || eqb kind 9

-- how many moves are left at the most
abbrev pub weight_of : List Placed → List Aircraft → ℕ
weight_of line runway = weight (zones_in line) + length runway

pub record After (f : Side) (line : List Placed) (runway : List Aircraft) (legs : Legs) (r : Request) : Type 1 where
  pub first_after : Side
  pub line_after : List Placed
  pub runway_after : List Aircraft
  pub effect : effect_of (field_of f line runway legs) r ≡ field_of first_after line_after runway_after legs
  pub orderly : Orderly first_after line_after runway_after legs
  pub balance : (who : ℕ → Bool) → owners who line_after runway_after + one (leaves r.kind && who r.desk) ≡ owners who line runway + one (is_entry r.kind && who r.desk)
  pub lighter : adds_moves r.kind ≡ false → weight_of line_after runway_after + one (within 3 11 r.kind) ≤ weight_of line runway
  pub carried : (r.kind ≡ 12 → ⊥) → Carried legs r line runway line_after runway_after
  pub ticked_on : r.kind ≡ 12 → line_after ≡ map (tick_placed r.amount) line
  pub runway_on : r.kind ≡ 12 → runway_after ≡ runway

-- as many are present, but for those who leave and enter
pub balance_all : (f : Side) (line : List Placed) (runway : List Aircraft) (legs : Legs) (r : Request) (x : After f line runway legs r)
    → length x.line_after + length x.runway_after + one (leaves r.kind) ≡ length line + length runway + one (is_entry r.kind)
balance_all f line runway legs r x =
    let a = x.balance (λ d. true) in
    let b = owners_all line runway in
    let c = owners_all x.line_after x.runway_after in
    let d = both (leaves r.kind) in
    let e = both (is_entry r.kind) in
    omega arith
  where
    both : (b : Bool) → one (b && true) ≡ one b
    both true = refl
    both false = refl

pub one_le : (b : Bool) → one b ≤ 1
one_le true = omega arith
one_le false = omega arith

-- ---- the model's view of a line that is split
pub zones_split : (a : List Placed) (e : Placed) (b : List Placed) → zones_in (a ++ e ∷ b) ≡ zones_in a ++ e.zone ∷ zones_in b
zones_split a e b = map_append (λ (p : Placed). p.zone) a (e ∷ b)

pub okay_split : (f : Side) (a : List Placed) (e : Placed) (b : List Placed) → T (okay f (zones_in (a ++ e ∷ b))) → T (okay f (zones_in a ++ e.zone ∷ zones_in b))
okay_split f a e b t = subst (λ (l : List ℕ). T (okay f l)) (zones_split a e b) t

pub okay_joined : (f : Side) (a : List Placed) (e : Placed) (b : List Placed) → T (okay f (zones_in a ++ e.zone ∷ zones_in b)) → T (okay f (zones_in (a ++ e ∷ b)))
okay_joined f a e b t = subst (λ (l : List ℕ). T (okay f l)) (sym (zones_split a e b)) t

-- ---- one of the line
module _ (f : Side) (a : List Placed) (e : Placed) (b : List Placed) (runway : List Aircraft) (legs : Legs) (o : Orderly f (a ++ e ∷ b) runway legs) where
  pub zone_in : T (within 1 12 e.zone)
  zone_in = all_at (within 1 12) (λ (p : Placed). p.zone) a e b (okay_zones f (zones_in (a ++ e ∷ b)) o.okay_line)

  pub room_for : length (a ++ e ∷ b) ≤ 4
  room_for = let p = okay_length f (zones_in (a ++ e ∷ b)) o.okay_line in let q = length_zones (a ++ e ∷ b) in omega arith

  pub fit_here : T (placed_fits legs e)
  fit_here = and_l (placed_fits legs e) (every (placed_fits legs) b) (Rattle.line.proofs.AheadInLists.every_right (placed_fits legs) a (e ∷ b) o.fit_line)

-- ---- one of the line, at the head of its zone, moves to another zone

-- a move of e to zone w that the zones of the line allow
pub record ZonesAllow (f : Side) (a : List Placed) (e : Placed) (b : List Placed) (w : ℕ) : Type 0 where
  pub heads : T (free (zones_in a) e.zone)
  pub none_behind : T (free (zones_in b) w)
  pub other : T (not (eqb w e.zone))
  pub inside : T (within 1 12 w)
  pub okay_after : T (okay f (zones_in a ++ w ∷ zones_in b))

-- a move that the model allows
pub by_model : {f : Side} {a : List Placed} {e : Placed} {b : List Placed} {w : ℕ} → T (free (zones_in a) e.zone) → Moved f (zones_in a) e.zone w (zones_in b) → ZonesAllow f a e b w
by_model h m = record { heads = h; none_behind = m.none_behind; other = m.other; inside = m.inside; okay_after = m.okay_after }

module _ {f : Side} {a : List Placed} {e : Placed} {b : List Placed} {w : ℕ} (m : ZonesAllow f a e b w) {runway : List Aircraft} {legs : Legs} (o : Orderly f (a ++ e ∷ b) runway legs) where
  may_move : MayMove a e b w
  may_move =
      record {
        from_zone = zone_in f a e b runway legs o;
        to_zone = m.inside;
        other_zone = failed {b = eqb w e.zone} m.other;
        heads = free_inside e.zone a m.heads;
        none_behind = free_inside w b m.none_behind;
        room = room_for f a e b runway legs o;
      }

  pub moved_is : moved (field_of f (a ++ e ∷ b) runway legs) e.zone w ≡ field_of f (a ++ into legs w e ∷ b) runway legs
  moved_is = moved_line f a e b runway legs w may_move o.different

  pub moved_orderly : Orderly f (a ++ into legs w e ∷ b) runway legs
  moved_orderly =
      changed f a e (into legs w e) b runway legs o (okay_joined f a (into legs w e) b m.okay_after) (into_arrived legs w e.aircraft).number
      (into_arrived legs w e.aircraft).fix (arrived_fits legs o.legal e.zone w e.aircraft (fit_here f a e b runway legs o))
