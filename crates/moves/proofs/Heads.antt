-- An aircraft that a request of kinds 3 to 11 names and that passes 12, 26, 13 and 14 is one of the line, or the one on the runway, at the head of
-- a zone that the kind starts from. Assumes nothing.
use mathlib.Core.Path.{◌≡◌, refl, sym, ap, ◌∙◌, subst}
use mathlib.Core.Logic.{◌⊎◌, inl, inr}
use mathlib.Core.Bool.{Bool, true, false, not, ◌||◌, false≢true}
use mathlib.Core.List.{List, [], ◌∷◌, ◌++◌}
use Prim.Native.Nat.{ℕ, suc, ◌≤◌}
use native.Mathlib.Omega.{arith}
use lib.Dec.{T, eqb}
use lib.ListN.{length, get_or}
use borrow.Author.Tests.{eqb-true, eq-eqb}
use Rattle.request.specs.declared.Request.{Request}
use Rattle.field.specs.declared.Aircraft.{Aircraft}
use Rattle.field.specs.declared.Legs.{Legs}
use Rattle.field.specs.declared.Field.{Field}
use Rattle.questions.specs.declared.Place.{Place}
use Rattle.field.specs.Airspace.{nobody}
use Rattle.field.specs.Lists.{is_in}
use Rattle.questions.specs.Find.{place_of, aircraft_at}
use Rattle.order.specs.Model.{Side, count, free}
use Rattle.rules.specs.Kinds.{starts_from, belongs_to, zone_before}
use Rattle.field.proofs.TestLaws.{decided, pass}
use Rattle.line.proofs.Line.{Placed, zones_in, numbers_of, inside, field_of}
use Rattle.line.proofs.CountedOnLine.{on_runway_lem, length_inside}
use Rattle.questions.proofs.FindLaws.{at}
use Rattle.line.proofs.Located.{located, located_runway, not_located, aircraft_there}
use Rattle.line.proofs.Orderly.{Orderly}
use Rattle.moves.proofs.AfterAccepted.{zone_in}

-- ---- a number in a line
pub record InLine (n : ℕ) (line : List Placed) : Type 0 where
  pub ahead : List Placed
  pub here : Placed
  pub behind : List Placed
  pub whole : line ≡ ahead ++ here ∷ behind
  pub named : n ≡ here.aircraft.number

pub find_line : (n : ℕ) (line : List Placed) → InLine n line ⊎ (is_in n (numbers_of line) ≡ false)
find_line n [] = inr refl
find_line n (e ∷ line) = go (decided (eqb e.aircraft.number n)) (find_line n line)
  where
    go : (eqb e.aircraft.number n ≡ true) ⊎ (eqb e.aircraft.number n ≡ false) → InLine n line ⊎ (is_in n (numbers_of line) ≡ false)
        → InLine n (e ∷ line) ⊎ (is_in n (numbers_of (e ∷ line)) ≡ false)
    go (inl b) rest = inl (record { ahead = []; here = e; behind = line; whole = refl; named = sym (eqb-true e.aircraft.number n b) })
    go (inr b) (inl i) = inl (record { ahead = e ∷ i.ahead; here = i.here; behind = i.behind; whole = ap (λ (l : List Placed). e ∷ l) i.whole; named = i.named })
    go (inr b) (inr h) = inr (ap (λ (t : Bool). t || is_in n (numbers_of line)) b ∙ h)

-- ---- at the head of its zone

-- a request names e, of the orderly line a, e, b, at the head of a zone that the request's kind starts from
pub record AtHead (f : Side) (a : List Placed) (e : Placed) (b : List Placed) (runway : List Aircraft) (legs : Legs) (r : Request) : Type 0 where
  pub orderly : Orderly f (a ++ e ∷ b) runway legs
  pub named : r.number ≡ e.aircraft.number
  pub heads : T (free (zones_in a) e.zone)
  pub place_is : place_of (field_of f (a ++ e ∷ b) runway legs) r.number ≡ at e.zone 1
  pub starts : T (starts_from r.kind e.zone)
  pub owned_by : r.desk ≡ e.aircraft.desk

-- it names one of the line
pub record Heading (f : Side) (line : List Placed) (runway : List Aircraft) (legs : Legs) (r : Request) : Type 0 where
  pub ahead : List Placed
  pub here : Placed
  pub behind : List Placed
  pub whole : line ≡ ahead ++ here ∷ behind
  pub at_head : AtHead f ahead here behind runway legs r

-- the one on the runway
pub record Landed (f : Side) (line : List Placed) (runway : List Aircraft) (legs : Legs) (r : Request) : Type 0 where
  pub one : Aircraft
  pub whole : runway ≡ one ∷ []
  pub named : r.number ≡ one.number
  pub place_is : place_of (field_of f line (one ∷ []) legs) r.number ≡ at 13 1
  pub starts : T (starts_from r.kind 13)
  pub owned_by : r.desk ≡ one.desk

pub runway_head : (f : Side) (line : List Placed) (x : Aircraft) (legs : Legs) → aircraft_at (field_of f line (x ∷ []) legs) 13 1 ≡ x
unfolding aircraft_at
runway_head f line x legs = ap (λ (l : List Aircraft). get_or (nobody ∷ l) 1 nobody) (on_runway_lem f line (x ∷ []) legs)

module _ (f : Side) (line : List Placed) (runway : List Aircraft) (legs : Legs) (o : Orderly f line runway legs) (r : Request) where
  abbrev F : Field
  F = field_of f line runway legs

  abbrev n : ℕ
  n = r.number

  module _ (known : not (eqb (zone_before F r) 0) ≡ true) (own : belongs_to F (place_of F n) r.desk ≡ true)
      (from : starts_from r.kind (zone_before F r) ≡ true) (first : eqb (place_of F n).place 1 ≡ true) where
    -- the desk of the one at the place is the request's
    desk_is : {g : Field} {p : Place} {a : Aircraft} → F ≡ g → place_of g n ≡ p → aircraft_at g p.zone p.place ≡ a → r.desk ≡ a.desk
    unfolding belongs_to
    desk_is {g} whole there has =
        sym (eqb-true (aircraft_at F (place_of F n).zone (place_of F n).place).desk r.desk own)
        ∙ ap (λ (h : Field). (aircraft_at h (place_of h n).zone (place_of h n).place).desk) whole
        ∙ ap (λ (q : Place). (aircraft_at g q.zone q.place).desk) there
        ∙ ap (λ (x : Aircraft). x.desk) has

    in_the_line : InLine n line → Heading f line runway legs r
    in_the_line i =
        let a = i.ahead in
        let e = i.here in
        let b = i.behind in
        let o₂ = subst (λ (l : List Placed). Orderly f l runway legs) i.whole o in
        let G = field_of f (a ++ e ∷ b) runway legs in
        let p : place_of G n ≡ at e.zone (suc (length (inside e.zone a))) = ap (place_of G) i.named ∙ located f a e b runway legs o₂.different (zone_in f a e b runway legs o₂) in
        let q : place_of F n ≡ place_of G n = ap (λ (l : List Placed). place_of (field_of f l runway legs) n) i.whole in
        let k : suc (length (inside e.zone a)) ≡ 1 = eqb-true (suc (length (inside e.zone a))) 1 (ap (λ (x : Place). eqb x.place 1) (sym (q ∙ p)) ∙ first) in
        let m = length_inside e.zone a in
        record {
          ahead = a;
          here = e;
          behind = b;
          whole = i.whole;
          at_head =
              record {
                orderly = o₂;
                named = i.named;
                heads = pass (eq-eqb (count (zones_in a) e.zone) 0 (omega arith));
                place_is = p ∙ ap (at e.zone) k;
                starts = pass (ap (λ (x : Place). starts_from r.kind x.zone) (sym (q ∙ p)) ∙ from);
                owned_by = desk_is (ap (λ (l : List Placed). field_of f l runway legs) i.whole) p (aircraft_there f a e b runway legs o₂.different (zone_in f a e b runway legs o₂));
              };
        }

    on_the_runway : (rw : List Aircraft) → runway ≡ rw → length rw ≤ 1 → is_in n (numbers_of line) ≡ false → Landed f line runway legs r
    on_the_runway [] e h d =
        absurd
        (false≢true
        (ap (λ (x : Place). not (eqb x.zone 0)) (sym (ap (λ (l : List Aircraft). place_of (field_of f line l legs) n) e ∙ not_located f line [] legs n d refl)) ∙ known))
    on_the_runway (x ∷ []) e h d =
        let q : place_of F n ≡ place_of (field_of f line (x ∷ []) legs) n = ap (λ (l : List Aircraft). place_of (field_of f line l legs) n) e in
        elim (decided (eqb x.number n)) [
          | inl b ↦
              let c : n ≡ x.number = sym (eqb-true x.number n b) in
              let p : place_of (field_of f line (x ∷ []) legs) n ≡ at 13 1 =
              ap (place_of (field_of f line (x ∷ []) legs)) c ∙ located_runway f line x legs (ap (λ (m : ℕ). is_in m (numbers_of line)) (sym c) ∙ d) in
              record {
                one = x;
                whole = e;
                named = c;
                place_is = p;
                starts = pass (ap (λ (y : Place). starts_from r.kind y.zone) (sym (q ∙ p)) ∙ from);
                owned_by = desk_is (ap (λ (l : List Aircraft). field_of f line l legs) e) p (runway_head f line x legs);
              }
          | inr b ↦ absurd (false≢true (ap (λ (y : Place). not (eqb y.zone 0)) (sym (q ∙ not_located f line (x ∷ []) legs n d (ap (λ (t : Bool). t || false) b))) ∙ known))
        ]
    on_the_runway (x ∷ y ∷ rest) e h d = absurd (omega arith)

    pub heading : Heading f line runway legs r ⊎ Landed f line runway legs r
    heading =
        elim (find_line n line) [
          | inl i ↦ inl (in_the_line i)
          | inr d ↦ inr (on_the_runway runway refl o.one_landed d)
        ]
