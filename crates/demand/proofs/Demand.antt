-- Demand 3 holds of every list of requests from every empty field that a list may start from. Assumes nothing.
use mathlib.Core.Path.{◌≡◌, refl, sym, ap, ◌∙◌, subst}
use mathlib.Core.Bool.{Bool, true, cond, ◌&&◌}
use mathlib.Core.List.{List, [], ◌∷◌}
use Prim.Native.Nat.{ℕ, ◌+◌, ◌≤◌, ◌<◌}
use native.Mathlib.Omega.{arith}
use lib.Dec.{T, eqb, leb, leb→le}
use lib.ListN.{length}
use lib.Ieee.Fits.{and_l, and_r}
use Rattle.limits.specs.Limits.{most_moves}
use Rattle.request.specs.Input.{within}
use Rattle.request.specs.declared.Request.{Request}
use Rattle.field.specs.declared.Aircraft.{Aircraft}
use Rattle.field.specs.declared.Legs.{Legs}
use Rattle.field.specs.declared.Field.{Field}
use Rattle.field.specs.Airspace.{empty_field, zones_from, in_zone, area, operation, everywhere, leg_flown_out}
use Rattle.questions.specs.Counts.{total, how_many, present_on, present_for, owned_by, in_operation, in_area, per_fix}
use Rattle.field.specs.Lists.{every}
use Rattle.bounds.specs.Bounds.{bound_a, bound_b, bound_c, bound_d, lateral_rule}
use Rattle.fits.specs.Fits.{legal_legs}
use Rattle.field.proofs.Shapes.{one_of_two}
use Rattle.order.specs.Model.{Side, right_side}
use Rattle.order.proofs.Facts.{okay_empty, okay_zones, weight_small}
use Rattle.rules.specs.Play.{field_after, played, of_desk, let_in, taxied_off, exited_from, accepted, moves, adds_moves}
use Rattle.rules.specs.declared.Answer.{Answer}
use Rattle.demand.specs.Demand.{all_flown_out, MovesOn, Demand3Of, Demand3}
use Rattle.field.proofs.TestLaws.{every_from}
use Rattle.laws.proofs.SameQueues.{Same, queues_same}
use Rattle.rules.proofs.SameStep.{many, with_fix, present_same, answer_same, played_same, after_same}
use Rattle.rules.proofs.Starts.{start_same, start_legal}
use Rattle.line.proofs.Line.{Placed, zones_in, inside, field_of, empty_is}
use Rattle.line.proofs.CountedOnLine.{total_same, in_line, on_runway_lem, in_operation_lem, all_counted, how_many_runway}
use Rattle.line.proofs.Orderly.{Orderly, length_zones}
use Rattle.line.proofs.LineWithin.{a_holds, b_holds, c_holds, d_holds}
use Rattle.moves.proofs.AfterAccepted.{weight_of}
use Rattle.moves.proofs.Owners.{owners, owners_all, owned_in, owned_on}
use Rattle.demand.proofs.Runs.{asked_by, Run, runs}
use Rattle.demand.proofs.Unstuck.{unstuck}

-- nobody yet
pub empty_orderly : (legs : Legs) → T (legal_legs legs) → Orderly right_side [] [] legs
empty_orderly legs l =
    record { okay_line = okay_empty right_side; alternates = tt; nonzeros = tt; different = tt; fit_line = tt; fit_runway = tt; one_landed = omega arith; legal = l }

-- a side is 1 or 2
by_side : (P : ℕ → Type 0) → P 1 → P 2 → (s : ℕ) → T (within 1 2 s) → P s
by_side P p q s t =
    one_of_two P 1 s (leb→le 1 s (and_l (leb 1 s) (leb s 2) t)) (let h = leb→le s 2 (and_r (leb 1 s) (leb s 2) t) in omega arith) p q

module _ (f : Side) (line : List Placed) (runway : List Aircraft) (legs : Legs) (o : Orderly f line runway legs) where
  abbrev F : Field
  F = field_of f line runway legs

  four_in : in_operation F ≤ 4
  unfolding bound_a
  four_in = leb→le (in_operation F) 4 (and_l (leb (in_operation F) 4) (leb (how_many F 13) 1) (a_holds f line runway legs o))

  two_in_area : (s : ℕ) → T (within 1 2 s) → in_area F s ≤ 2
  unfolding bound_b
  two_in_area =
      let b = b_holds f line runway legs o in
      by_side (λ (s : ℕ). in_area F s ≤ 2)
      (leb→le (in_area F 1) 2 (and_l (leb (in_area F 1) 2) (leb (in_area F 2) 2) b))
      (leb→le (in_area F 2) 2 (and_r (leb (in_area F 1) 2) (leb (in_area F 2) 2) b))

  two_per_fix : (s : ℕ) → T (within 1 2 s) → per_fix F s ≤ 2
  unfolding bound_d
  two_per_fix =
      let d = d_holds f line runway legs o in
      by_side (λ (s : ℕ). per_fix F s ≤ 2)
      (leb→le (per_fix F 1) 2 (and_l (leb (per_fix F 1) 2) (leb (per_fix F 2) 2) d))
      (leb→le (per_fix F 2) 2 (and_r (leb (per_fix F 1) 2) (leb (per_fix F 2) 2) d))

  single : T (every (λ z. leb (how_many F z) 1) (zones_from 1 6))
  unfolding bound_c
  single =
      let p = every (λ z. leb (how_many F z) 1) (zones_from 1 6) in
      and_l p (lateral_rule F 1) (and_l (p && lateral_rule F 1) (lateral_rule F 2) (c_holds f line runway legs o))

  one_in_holding : (z : ℕ) → T (within 1 4 z) → how_many F z ≤ 1
  one_in_holding z t =
      leb→le (how_many F z) 1
      (every_from (λ z. leb (how_many F z) 1) 1 6 single z (leb→le 1 z (and_l (leb 1 z) (leb z 4) t)) (let h = leb→le z 4 (and_r (leb 1 z) (leb z 4) t) in omega arith))

  -- everyone of the line and the runway is present
  pub present_is : present_on F ≡ length line + length runway
  unfolding present_on in_operation
  present_is =
      let a = in_operation_lem f line runway legs in
      let b = all_counted (zones_in line) (okay_zones f (zones_in line) o.okay_line) in
      let c = length_zones line in
      let d = how_many_runway f line runway legs in
      omega arith

  -- and so are those of a desk
  present_for_lem : (desk : ℕ) → present_for F desk ≡ owners (λ d. eqb d desk) line runway
  unfolding present_for
  present_for_lem desk =
      let a = total_same (λ z. owned_by desk (in_zone F z)) (λ z. owned_by desk (inside z line)) operation tt (λ z t. ap (owned_by desk) (in_line f line runway legs z t)) in
      let b = owned_in desk line (okay_zones f (zones_in line) o.okay_line) in
      let c = ap (owned_by desk) (on_runway_lem f line runway legs) ∙ owned_on desk runway in
      omega arith

  pub light : weight_of line runway ≤ most_moves
  light = let a = weight_small f (zones_in line) o.okay_line in let b = o.one_landed in omega arith

-- ---- those of all desks, and of one
asked_by_all : (ps : List (Request × Answer)) → asked_by (λ d. true) ps ≡ ps
asked_by_all [] = refl
asked_by_all (p ∷ ps) = ap (λ (l : List (Request × Answer)). p ∷ l) (asked_by_all ps)

asked_by_desk : (desk : ℕ) (ps : List (Request × Answer)) → asked_by (λ d. eqb d desk) ps ≡ of_desk desk ps
asked_by_desk desk [] = refl
asked_by_desk desk (p ∷ ps) = ap (λ (l : List (Request × Answer)). cond (eqb p.0.desk desk) (p ∷ l) l) (asked_by_desk desk ps)

-- ---- every list
module _ (legs : Legs) (l : T (legal_legs legs)) (rs : List Request) where
  pub from_empty : Run legs (empty_field legs) (λ who. 0) (weight_of [] []) rs
  from_empty = subst (λ (g : Field). Run legs g (λ who. 0) (weight_of [] []) rs) (sym (empty_is legs)) (runs legs rs right_side [] [] (empty_orderly legs l))

  -- what holds of the order's field holds of the field after the list
  carry : (P : Field → Type 0) → P (field_of from_empty.first_then from_empty.line_then from_empty.runway_then legs) → P (field_after (empty_field legs) rs)
  carry P p = subst P (sym from_empty.stands) p

  -- the balance of those who pass a test of the owner: ps are their requests with the answers, and n of them are present
  balanced : (who : ℕ → Bool) {ps : List (Request × Answer)} {n : ℕ} → asked_by who (played (empty_field legs) rs) ≡ ps → n ≡ owners who from_empty.line_then from_empty.runway_then
      → let_in ps ≡ taxied_off ps + exited_from ps + n
  balanced who asked present =
      let b = from_empty.balance who in
      let i = ap let_in asked in
      let j = ap taxied_off asked in
      let x = ap exited_from asked in
      omega arith

  -- demand 3 from the empty field with these legs
  demand_empty : Demand3Of (played (empty_field legs) rs) (field_after (empty_field legs) rs)
  demand_empty =
      let f = from_empty.first_then in
      let line = from_empty.line_then in
      let runway = from_empty.runway_then in
      let o = from_empty.orderly in
      let stands = from_empty.stands in
      let answers = played (empty_field legs) rs in
      let present = present_is f line runway legs o in
      record {
        no_10 = from_empty.no_10;
        no_25 = from_empty.no_25;
        operation = carry (λ (g : Field). in_operation g ≤ 4) (four_in f line runway legs o);
        areas = carry (λ (g : Field). (side : ℕ) → T (within 1 2 side) → in_area g side ≤ 2) (two_in_area f line runway legs o);
        fixes = carry (λ (g : Field). (side : ℕ) → T (within 1 2 side) → per_fix g side ≤ 2) (two_per_fix f line runway legs o);
        holdings = carry (λ (g : Field). (zone : ℕ) → T (within 1 4 zone) → how_many g zone ≤ 1) (one_in_holding f line runway legs o);
        balance = balanced (λ d. true) (asked_by_all answers) (ap present_on stands ∙ present ∙ sym (owners_all line runway));
        balance_each = λ desk. balanced (λ d. eqb d desk) (asked_by_desk desk answers) (ap (λ (g : Field). present_for g desk) stands ∙ present_for_lem f line runway legs o desk);
        never_stuck =
            carry (λ (g : Field). 0 < present_on g → T (all_flown_out g) → MovesOn g)
            (λ p t. unstuck f line runway legs o (subst (λ (n : ℕ). 0 < n) present p) t);
        few_moves =
            λ more h.
            let few =
            carry (λ (g : Field). accepted adds_moves (played g more) ≡ 0 → moves (played g more) ≤ weight_of line runway)
            (runs legs more f line runway o).few h in
            let most = light f line runway legs o in
            omega arith;
      }

-- ---- from every empty field

-- what holds of the answers and of a field holds of the answers and of a field with the same queues
module _ {f g : Field} (s : Same f g) where
  demand_same : (answers : List (Request × Answer)) → Demand3Of answers g → Demand3Of answers f
  unfolding present_for in_operation in_area per_fix all_flown_out
  demand_same answers d =
      let counts = sym (many s) in
      let queues = sym (queues_same f g s) in
      let fixes = sym (with_fix s) in
      record {
        no_10 = d.no_10;
        no_25 = d.no_25;
        operation = subst (λ (h : ℕ → ℕ). total h operation ≤ 4) counts d.operation;
        areas = λ side t. subst (λ (h : ℕ → ℕ). total h (area side) ≤ 2) counts (d.areas side t);
        fixes = λ side t. subst (λ (h : ℕ → ℕ → ℕ). total (h side) operation ≤ 2) fixes (d.fixes side t);
        holdings = λ zone t. subst (λ (h : ℕ → ℕ). h zone ≤ 1) counts (d.holdings zone t);
        balance = d.balance ∙ ap (λ (n : ℕ). taxied_off answers + exited_from answers + n) (sym (present_same s));
        balance_each =
            λ desk.
            d.balance_each desk
            ∙ ap (λ (h : ℕ → List Aircraft). taxied_off (of_desk desk answers) + exited_from (of_desk desk answers) + total (λ z. owned_by desk (h z)) everywhere) queues;
        never_stuck =
            λ p t.
            let m = d.never_stuck (subst (λ (n : ℕ). 0 < n) (present_same s) p)
            (subst (λ (h : ℕ → List Aircraft). T (every (λ z. every leg_flown_out (h z)) (zones_from 7 6))) (sym queues) t) in
            record { request = m.request; kind = m.kind; accepted = ap (λ (a : Answer). a.number) (answer_same s m.request) ∙ m.accepted };
        few_moves =
            λ more.
            subst (λ (ps : List (Request × Answer)). accepted adds_moves ps ≡ 0 → moves ps ≤ most_moves) (sym (played_same s more)) (d.few_moves more);
      }

pub demand_3 : Demand3
demand_3 f t rs =
    let s = start_same f t in
    demand_same (after_same s rs) (played f rs)
    (subst (λ (ps : List (Request × Answer)). Demand3Of ps (field_after (empty_field f.legs) rs)) (sym (played_same s rs)) (demand_empty f.legs (start_legal f t) rs))
