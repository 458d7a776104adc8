-- What an accepted request can do to the queues, in five ways, and how a move from zone to zone is shown. Assumes nothing.
use mathlib.Core.Path.{◌≡◌, refl, ap, ◌∙◌, subst⁻¹}
use mathlib.Core.Logic.{◌≢◌}
use mathlib.Core.Bool.{true, false}
use Prim.Native.Nat.{ℕ, ◌≤◌}
use native.Mathlib.Omega.{arith}
use Rattle.leg.specs.Ticks.{Between}
use Rattle.request.specs.Input.{within}
use Rattle.request.specs.declared.Request.{Request}
use Rattle.field.specs.declared.Field.{Field}
use Rattle.field.specs.Airspace.{side_of, opposite, at3000, at2000, base, final_approach_zone, in_zone}
use Rattle.questions.specs.Counts.{how_many}
use Rattle.questions.specs.Find.{aircraft_at}
use Rattle.questions.proofs.FindLaws.{at}
use Rattle.rules.specs.Kinds.{place_before, zone_before, zone_ahead, moved, made_room}
use Rattle.field.proofs.TestLaws.{each_from}
use Rattle.laws.proofs.EditLaws.{Shaped}
use Rattle.rules.specs.Step.{effect_of}
use Rattle.rules.proofs.Refusals.{Passes}
use Rattle.kept_up.specs.KeptUp.{leads_to}
use Rattle.kept_up.proofs.Moved.{Left, Come}
use Rattle.rules.proofs.HeadOfRequest.{bounded, heads, some}
use Rattle.laws.proofs.RoomLaws.{room_in}
use Rattle.kept_up.proofs.Queues.{Led, MayGo, MayMakeRoom, led_same, moved_led}

-- the side of zone 1 or 2 is its own number
pub side_own : (s : ℕ) → 1 ≤ s → s ≤ 2 → side_of s ≡ s
unfolding side_of
side_own s low high = each_from 1 2 (λ s. side_of s ≡ s) (refl, (refl, tt)) s low (omega (arith, high))

-- a request that is accepted, on a field whose arrays have their places
pub record AcceptedRequest (f : Field) (r : Request) : Type 0 where
  pub shaped : Shaped f
  pub passed : Passes f r

-- a zone that is one of the thirteen
pub one_of_thirteen : (z : ℕ) → 1 ≤ z → z ≤ 13 → Between 1 13 z
one_of_thirteen z a b = record { least = a; most = b }

module _ (f : Field) (r : Request) where
  abbrev from : ℕ
  from = zone_before f r

  abbrev n : ℕ
  n = r.number

  abbrev g : Field
  g = effect_of f r

  -- where a request of a kind leads
  abbrev pub to : ℕ → ℕ
  to k =
      leads_to k r from f.sequence (zone_ahead f r) (how_many f (base (opposite (side_of from)))) (how_many f (at3000 (side_of from))) (how_many f (at2000 (side_of from)))
      (aircraft_at f final_approach_zone 1).fix

  -- ---- what it does
  -- somebody has left the field, ..
  pub record Leaves : Type 0 where
    pub leaving : within 8 9 r.kind ≡ true
    pub left : Left f g from n

  -- .. has moved to a zone that is not at 3000, ..
  pub record Moves : Type 0 where
    pub staying : within 8 9 r.kind ≡ false
    pub not_above : 3 ≤ to r.kind
    pub led : Led f g n from (to r.kind)

  -- .. or to 3000, where whoever was there has made room, ..
  pub record Rises (w : ℕ) : Type 0 where
    pub staying : within 8 9 r.kind ≡ false
    pub above : MayMakeRoom f w
    pub start : 3 ≤ from
    pub head : place_before f r ≡ at from 1
    pub led : Led (made_room f w) g n from w

  -- .. or has come onto the field, to a lateral zone ..
  pub record Comes (w : ℕ) : Type 0 where
    pub staying : within 8 9 r.kind ≡ false
    pub absent : from ≡ 0
    pub not_above : 3 ≤ w
    pub come : Come f g w n

  -- .. or to 3000.
  pub record ComesAbove (w : ℕ) : Type 0 where
    pub staying : within 8 9 r.kind ≡ false
    pub absent : from ≡ 0
    pub above : MayMakeRoom f w
    pub come : Come (made_room f w) g w n

  -- ---- how a move is shown
  -- by what it does to the queues, where kind k leads to zone w
  pub moves : {k w : ℕ} → r.kind ≡ k → within 8 9 k ≡ false → to k ≡ w → 3 ≤ w → Led f g n from w → Moves
  moves {w = w} q s p low led =
      let there : to r.kind ≡ w = ap to q ∙ p in
      record { staying = ap (within 8 9) q ∙ s; not_above = subst⁻¹ (λ (v : ℕ). 3 ≤ v) there low; led = subst⁻¹ (Led f g n from) there led }

  -- by the field after it, where the kind leads from one zone of the operation area to another, w
  pub record Steps (k w : ℕ) : Type 0 where
    pub leads : to k ≡ w
    pub start : Between 1 12 from
    pub not_above : 3 ≤ w
    pub last : w ≤ 12
    pub apart : w ≢ from
    pub effect : g ≡ moved f from w

-- the head of its zone to the tail of zone w
pub steps : {f : Field} {r : Request} {k w : ℕ} → AcceptedRequest f r → r.kind ≡ k → within 3 11 k ≡ true → within 8 9 k ≡ false → Steps f r k w → Moves f r
steps {f} {r} {k} {w} a q m stays s =
    let in_operation_lem : Between 1 12 w = record { least = omega arith; most = s.last } in
    let room = room_in f (bounded a.passed) s.start in_operation_lem s.apart (some a.passed q m) in
    let start : Between 1 13 (zone_before f r) = record { least = s.start.least; most = omega arith } in
    let may : MayGo f r.number (zone_before f r) w =
    record { from_zone = start; to_zone = one_of_thirteen w (omega arith) (omega arith); other_zone = s.apart; room = room; heads = heads a.passed q m } in
    moves f r q stays s.leads s.not_above (led_same (λ y. ap (λ (x : Field). in_zone x y) s.effect) (moved_led a.shaped may))
