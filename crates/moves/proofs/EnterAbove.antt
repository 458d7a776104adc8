-- Kind 1: the entry to an empty 3000, and the entry beside one at 3000, who descends first. Assumes nothing.
use mathlib.Core.Path.{◌≡◌, sym, ap, ◌∙◌}
use mathlib.Core.Bool.{true, false, true≢false}
use mathlib.Core.List.{List, ◌∷◌, ◌++◌}
use Prim.Native.Nat.{ℕ}
use native.Mathlib.Omega.{arith}
use lib.Dec.{T}
use Rattle.request.specs.declared.Request.{Request}
use Rattle.field.specs.declared.Aircraft.{Aircraft}
use Rattle.field.specs.declared.Legs.{Legs}
use Rattle.field.specs.declared.Field.{Field}
use Rattle.field.specs.Airspace.{at3000, at2000}
use Rattle.questions.specs.Counts.{is_empty}
use Rattle.order.specs.Model.{Side, free, descend, needs}
use Rattle.order.proofs.Facts.{moves}
use Rattle.rules.specs.Kinds.{descended, entered, made_room, entered_above}
use Rattle.rules.specs.Step.{effect_of}
use Rattle.rules.specs.Play.{adds_moves}
use Rattle.rules.proofs.Checks.{effect_at}
use Rattle.field.proofs.TestLaws.{if_true, if_false}
use Rattle.field.proofs.ArrivalLaws.{into_arrived}
use Rattle.line.proofs.Line.{Placed, zones_in, field_of}
use Rattle.line.proofs.Orderly.{Orderly}
use Rattle.moves.proofs.Moves.{into}
use Rattle.moves.proofs.Owners.{passing, same_desks}
use Rattle.moves.proofs.Carried.{WentAlong, followed_first}
use Rattle.moves.proofs.AfterAccepted.{After, ZonesAllow, by_model, okay_split, moved_is, moved_orderly}

-- ---- by whether 3000 is empty
module _ (f : Field) (r : Request) (k : r.kind ≡ 1) where
  pub enters_empty : is_empty f (at3000 r.side) ≡ true → effect_of f r ≡ entered f r (at3000 r.side)
  unfolding made_room entered_above
  enters_empty e = effect_at f r k ∙ ap (λ (g : Field). entered g r (at3000 r.side)) (if_true f (descended f (at3000 r.side)) e)

  pub enters_occupied : is_empty f (at3000 r.side) ≡ false → effect_of f r ≡ entered (descended f (at3000 r.side)) r (at3000 r.side)
  unfolding made_room entered_above
  enters_occupied e = effect_at f r k ∙ ap (λ (g : Field). entered g r (at3000 r.side)) (if_false f (descended f (at3000 r.side)) e)

-- ---- the line a, g, b with g at 3000, zone y, and nobody at 2000
pub record MayDescend (f : Side) (a : List Placed) (g : Placed) (b : List Placed) (runway : List Aircraft) (legs : Legs) : Type 0 where
  pub orderly : Orderly f (a ++ g ∷ b) runway legs
  pub heads : T (free (zones_in a) g.zone)
  pub needs_met : T (needs descend (zones_in a) g.zone (zones_in b))

module _ {f : Side} {a : List Placed} {g : Placed} {b : List Placed} {runway : List Aircraft} {legs : Legs} (d : MayDescend f a g b runway legs) where
  abbrev y : ℕ
  y = g.zone

  abbrev w : ℕ
  w = at2000 y

  down : ZonesAllow f a g b w
  down = by_model d.heads (moves descend f (zones_in a) y (zones_in b) (okay_split f a g b d.orderly.okay_line) d.heads d.needs_met)

  -- the line with g at 2000
  abbrev pub lowered : List Placed
  lowered = a ++ into legs w g ∷ b

  pub lowered_is : descended (field_of f (a ++ g ∷ b) runway legs) y ≡ field_of f lowered runway legs
  lowered_is = moved_is down d.orderly

  pub lowered_orderly : Orderly f lowered runway legs
  lowered_orderly = moved_orderly down d.orderly

  -- what an entry leaves behind from there it leaves behind from here, where it makes room first
  pub after_above : (r : Request) → r.kind ≡ 1 → WentAlong legs r g (into legs w g) → effect_of (field_of f (a ++ g ∷ b) runway legs) r ≡ effect_of (field_of f lowered runway legs) r
      → After f lowered runway legs r → After f (a ++ g ∷ b) runway legs r
  after_above r k along eff x =
      record {
        first_after = x.first_after;
        line_after = x.line_after;
        runway_after = x.runway_after;
        effect = eff ∙ x.effect;
        orderly = x.orderly;
        balance = λ who. let p = x.balance who in let q = ap (passing who) (same_desks a g (into legs w g) b (into_arrived legs w g.aircraft).desk) in omega arith;
        lighter = λ u. absurd (true≢false (ap adds_moves (sym k) ∙ u));
        carried = λ u. followed_first a b along (x.carried u);
        ticked_on = λ u. absurd (let n : 12 ≡ 1 = sym u ∙ k in omega arith);
        runway_on = λ u. absurd (let n : 12 ≡ 1 = sym u ∙ k in omega arith);
      }
