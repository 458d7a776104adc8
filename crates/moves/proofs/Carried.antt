-- Where each one on the field after an accepted request comes from, and what it keeps: those with another number than the request's stay where they are,
-- or go along with a hold or an entry; the one with its number has come into another zone or onto the runway, has missed its approach, or has just
-- entered. Assumes nothing.
use mathlib.Core.Path.{◌≡◌, refl, sym, ap, ◌∙◌, subst}
use mathlib.Core.Logic.{◌⊎◌, inl, inr}
use mathlib.Core.Bool.{true, false, ◌||◌, true≢false}
use mathlib.Core.List.{List, [], ◌∷◌, ◌++◌, map}
use Prim.Native.Nat.{ℕ}
use lib.Dec.{T, eqb}
use borrow.Author.Tests.{eq-eqb}
use Rattle.leg.specs.Progress.{whole, leg_after_miss}
use Rattle.request.specs.Input.{is_entry}
use Rattle.request.specs.declared.Request.{Request}
use Rattle.field.specs.declared.Aircraft.{Aircraft}
use Rattle.field.specs.declared.Legs.{Legs}
use Rattle.field.specs.Airspace.{right, left, missed, final_approach_zone, is_flying_zone, leg_of, progress_into}
use Rattle.field.specs.Lists.{is_in, all_different, Each}
use Rattle.rules.specs.Play.{adds_moves}
use Rattle.field.proofs.NumberLists.{or_false_left, or_false_right, absent_left, absent_right, Alone, alone}
use Rattle.field.proofs.ArrivalLaws.{into_arrived}
use Rattle.line.proofs.Line.{Placed, numbers_of}
use Rattle.line.proofs.Located.{numbers_split}
use Rattle.questions.proofs.FindLaws.{numbers}
use Rattle.moves.proofs.Moves.{into}

-- ---- what holds of each one of a line
pub each_append : (P : Placed → Type 0) (a b : List Placed) → Each P a → Each P b → Each P (a ++ b)
each_append P [] b p q = q
each_append P (e ∷ a) b p q = (p.0, each_append P a b p.1 q)

pub each_left : (P : Placed → Type 0) (a b : List Placed) → Each P (a ++ b) → Each P a
each_left P [] b p = tt
each_left P (e ∷ a) b p = (p.0, each_left P a b p.1)

pub each_right : (P : Placed → Type 0) (a b : List Placed) → Each P (a ++ b) → Each P b
each_right P [] b p = p
each_right P (e ∷ a) b p = each_right P a b p.1

-- ---- where each one comes from

-- one on the runway
abbrev pub on_runway : Aircraft → Placed
on_runway a = record { aircraft = a; zone = 13 }

-- e has come into another zone, as g
pub record Onward (legs : Legs) (e g : Placed) : Type 0 where
  pub same_number : g.aircraft.number ≡ e.aircraft.number
  pub same_speed : g.aircraft.speed ≡ e.aircraft.speed
  pub same_waited : g.aircraft.waited ≡ e.aircraft.waited
  pub begins : g.aircraft.progress ≡ progress_into g.zone
  pub leg_is : g.aircraft.leg ≡ leg_of legs g.zone

pub onward_into : (legs : Legs) (w : ℕ) (e : Placed) → Onward legs e (into legs w e)
onward_into legs w e =
    let i = into_arrived legs w e.aircraft in
    record { same_number = i.number; same_speed = i.speed; same_waited = i.waited; begins = i.progress; leg_is = i.leg_is }

-- e has missed its approach on final, and is g in a missed zone
pub record Turned (legs : Legs) (e g : Placed) : Type 0 where
  pub turned_number : g.aircraft.number ≡ e.aircraft.number
  pub turned_speed : g.aircraft.speed ≡ e.aircraft.speed
  pub turned_waited : g.aircraft.waited ≡ e.aircraft.waited
  pub begins_anew : g.aircraft.progress ≡ progress_into g.zone
  pub from_final : e.zone ≡ final_approach_zone
  pub to_missed : (eqb g.zone (missed right) || eqb g.zone (missed left)) ≡ true
  pub leg_ahead : g.aircraft.leg ≡ leg_after_miss legs.missed e.aircraft.progress e.aircraft.leg

-- g has just entered by the request
pub record Entered (r : Request) (g : Placed) : Type 0 where
  pub an_entry : is_entry r.kind ≡ true
  pub new_number : g.aircraft.number ≡ r.number
  pub new_speed : g.aircraft.speed ≡ r.amount
  pub none_waited : g.aircraft.waited ≡ whole 0
  pub no_leg : g.aircraft.leg ≡ whole 0
  pub not_flown : is_flying_zone g.zone ≡ false

-- e, which the request does not name, has gone along from one zone that is not flown in to another, as g
pub record WentAlong (legs : Legs) (r : Request) (e g : Placed) : Type 0 where
  pub onward : Onward legs e g
  pub not_named : e.aircraft.number ≡ r.number → ⊥
  pub waited_before : is_flying_zone e.zone ≡ false
  pub waits_after : is_flying_zone g.zone ≡ false

-- where g comes from, where Q held of each one before
pub data Came (legs : Legs) (r : Request) (Q : Placed → Type 0) (g : Placed) : Type 0 where
  stayed : (g.aircraft.number ≡ r.number → ⊥) → Q g → Came legs r Q g
  went : (e : Placed) → Q e → Onward legs e g → e.aircraft.number ≡ r.number → adds_moves r.kind ≡ false → Came legs r Q g
  turned : (e : Placed) → Q e → Turned legs e g → e.aircraft.number ≡ r.number → r.kind ≡ 10 → Came legs r Q g
  followed : (e : Placed) → Q e → WentAlong legs r e g → Came legs r Q g
  came_in : Entered r g → Came legs r Q g

pub record Carried (legs : Legs) (r : Request) (line : List Placed) (runway : List Aircraft) (line_after : List Placed) (runway_after : List Aircraft) : Type 1 where
  pub carry : (Q : Placed → Type 0) → Each Q line → Each Q (map on_runway runway) → Each (Came legs r Q) line_after × Each (Came legs r Q) (map on_runway runway_after)

-- ---- those who stay
module _ (legs : Legs) (r : Request) (Q : Placed → Type 0) where
  pub stay_all : (line : List Placed) → is_in r.number (numbers_of line) ≡ false → Each Q line → Each (Came legs r Q) line
  stay_all [] h p = tt
  stay_all (e ∷ line) h p =
      let n = r.number in
      let other = or_false_left (eqb e.aircraft.number n) (is_in n (numbers_of line)) h in
      (stayed (λ q. true≢false (sym (eq-eqb e.aircraft.number n q) ∙ other)) p.0, stay_all line (or_false_right (eqb e.aircraft.number n) (is_in n (numbers_of line)) h) p.1)

  pub stay_runway : (runway : List Aircraft) → is_in r.number (numbers runway) ≡ false → Each Q (map on_runway runway) → Each (Came legs r Q) (map on_runway runway)
  stay_runway runway h p = stay_all (map on_runway runway) (ap (is_in r.number) (same_numbers runway) ∙ h) p
    where
      same_numbers : (runway : List Aircraft) → numbers_of (map on_runway runway) ≡ numbers runway
      same_numbers [] = refl
      same_numbers (x ∷ runway) = ap (λ (l : List ℕ). x.number ∷ l) (same_numbers runway)

-- one of a line of different numbers
pub apart_in : (a : List Placed) (e : Placed) (b : List Placed) (runway : List Aircraft) → T (all_different (numbers_of (a ++ e ∷ b) ++ numbers runway))
    → Alone e.aircraft.number (numbers_of a) (numbers_of b ++ numbers runway)
apart_in a e b runway d = alone (numbers_of a) e.aircraft.number (numbers_of b ++ numbers runway) (subst (λ (l : List ℕ). T (all_different l)) (numbers_split a e b (numbers runway)) d)

-- one of the line has come into another zone
pub carried_one : (legs : Legs) (r : Request) (a : List Placed) (e g : Placed) (b : List Placed) (runway : List Aircraft)
    → T (all_different (numbers_of (a ++ e ∷ b) ++ numbers runway)) → r.number ≡ e.aircraft.number
    → adds_moves r.kind ≡ false → Onward legs e g → Carried legs r (a ++ e ∷ b) runway (a ++ g ∷ b) runway
carried_one legs r a e g b runway d named k on =
    let al = apart_in a e b runway d in
    record {
      carry =
          λ Q p q.
          let rest = each_right Q a (e ∷ b) p in (
            each_append (Came legs r Q) a (g ∷ b) (stay_all legs r Q a (ap (λ (m : ℕ). is_in m (numbers_of a)) named ∙ al.ahead) (each_left Q a (e ∷ b) p)) (
              went e rest.0 on (sym named) k,
              stay_all legs r Q b (ap (λ (m : ℕ). is_in m (numbers_of b)) named ∙ absent_left e.aircraft.number (numbers_of b) (numbers runway) al.behind) rest.1,
            ),
            stay_runway legs r Q runway (ap (λ (m : ℕ). is_in m (numbers runway)) named ∙ absent_right e.aircraft.number (numbers_of b) (numbers runway) al.behind) q,
          );
    }

-- one with another number than the request's has gone along before that
pub followed_first : (a : List Placed) {x y : Placed} (b : List Placed) {legs : Legs} {r : Request} → WentAlong legs r x y → {runway : List Aircraft} {after : List Placed} {left : List Aircraft}
    → Carried legs r (a ++ y ∷ b) runway after left → Carried legs r (a ++ x ∷ b) runway after left
followed_first a {x} {y} b {legs} {r} along {runway} {after} {left} c =
    record {
      carry =
          λ Q p q.
          let rest = each_right Q a (x ∷ b) p in
          let down : Each (First Q) (a ++ y ∷ b) = each_append (First Q) a (y ∷ b) (firsts Q a (each_left Q a (x ∷ b) p)) (inr (x, rest.0, along), firsts Q b rest.1) in
          let both = c.carry (First Q) down (firsts Q (map on_runway runway) q) in
          (backs Q after both.0, backs Q (map on_runway left) both.1);
    }
  where
    -- Q holds of it, or held before it went along
    First : (Placed → Type 0) → Placed → Type 0
    First Q g = Q g ⊎ ((e : Placed) × Q e × WentAlong legs r e g)

    firsts : (Q : Placed → Type 0) (l : List Placed) → Each Q l → Each (First Q) l
    firsts Q [] p = tt
    firsts Q (e ∷ l) p = (inl p.0, firsts Q l p.1)

    back : (Q : Placed → Type 0) (g : Placed) → Came legs r (First Q) g → Came legs r Q g
    back Q g (stayed n (inl p)) = stayed n p
    back Q g (stayed n (inr v)) = followed v.0 v.1 v.2
    back Q g (went e (inl p) on n k) = went e p on n k
    back Q g (went e (inr v) on n k) = absurd (v.2.not_named (sym v.2.onward.same_number ∙ n))
    back Q g (turned e (inl p) on n k) = turned e p on n k
    back Q g (turned e (inr v) on n k) = absurd (v.2.not_named (sym v.2.onward.same_number ∙ n))
    back Q g (followed e (inl p) on) = followed e p on
    back Q g (followed e (inr v) on) =
        let x = v.2 in
        followed v.0 v.1 (record { onward = joined x.onward on.onward; not_named = x.not_named; waited_before = x.waited_before; waits_after = on.waits_after })
      where
        joined : {x y z : Placed} → Onward legs x y → Onward legs y z → Onward legs x z
        joined s t =
            record { same_number = t.same_number ∙ s.same_number; same_speed = t.same_speed ∙ s.same_speed; same_waited = t.same_waited ∙ s.same_waited; begins = t.begins; leg_is = t.leg_is }
    back Q g (came_in n) = came_in n

    backs : (Q : Placed → Type 0) (l : List Placed) → Each (Came legs r (First Q)) l → Each (Came legs r Q) l
    backs Q [] p = tt
    backs Q (g ∷ l) p = (back Q g p.0, backs Q l p.1)
