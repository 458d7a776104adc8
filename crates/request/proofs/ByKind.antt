-- What a request that keeps the rule of its kind is: an entry, a move of one aircraft, or a tick. Assumes nothing.
use mathlib.Core.Path.{◌≡◌, sym, ap, subst}
use mathlib.Core.List.{[], ◌∷◌}
use mathlib.Core.Bool.{true, cond, not}
use Prim.Native.Nat.{ℕ, ◌≤◌}
use native.Mathlib.Omega.{arith}
use lib.Dec.{eqb}
use borrow.Author.Tests.{eqb-true}
use Rattle.limits.specs.Limits.{longest_tick, fastest, desks}
use Rattle.request.specs.declared.Request.{Request}
use Rattle.request.specs.declared.KindRule.{KindRule}
use Rattle.request.specs.Input.{within, in_range, asked_of, desk_allowed, kind_allowed, side_allowed, number_allowed, amount_allowed, input_number}
use Rattle.request.proofs.InputTests.{within_yes, within_low, within_high, nonzero_yes, nonzero_known, passed, none_refused}
use Rattle.request.proofs.Rules.{asked_of_entry, asked_of_move}

-- ---- a request that keeps a rule, test by test
pub record Keeps (r : Request) (rule : KindRule) : Type 0 where
  pub desk : within 1 desks r.desk ≡ true
  pub kind : within 1 12 r.kind ≡ true
  pub side : in_range rule.sides r.side ≡ true
  pub number : cond rule.aircraft (not (eqb r.number 0)) (eqb r.number 0) ≡ true
  pub amount : in_range rule.amounts r.amount ≡ true

pub keeps : (r : Request) → input_number r ≡ 0 → Keeps r (asked_of r.kind)
unfolding input_number desk_allowed kind_allowed side_allowed number_allowed amount_allowed
keeps r e =
    let p = passed ((31, desk_allowed r) ∷ (1, kind_allowed r) ∷ (2, side_allowed r) ∷ (3, number_allowed r) ∷ (4, amount_allowed r) ∷ []) (tt, (tt, (tt, (tt, (tt, tt))))) e in
    record { desk = p.0; kind = p.1.0; side = p.1.1.0; number = p.1.1.1.0; amount = p.1.1.1.1.0 }

pub none_broken : (r : Request) → Keeps r (asked_of r.kind) → input_number r ≡ 0
unfolding input_number desk_allowed kind_allowed side_allowed number_allowed amount_allowed
none_broken r k =
    none_refused ((31, desk_allowed r) ∷ (1, kind_allowed r) ∷ (2, side_allowed r) ∷ (3, number_allowed r) ∷ (4, amount_allowed r) ∷ []) (k.desk, (k.kind, (k.side, (k.number, (k.amount, tt)))))

-- ---- what a request that keeps the rule of its kind is
pub record KindKnown (r : Request) : Type 0 where
  pub low : 1 ≤ r.kind
  pub high : r.kind ≤ 12

pub record DeskKnown (desk : ℕ) : Type 0 where
  pub low : 1 ≤ desk
  pub high : desk ≤ desks

pub record EntryKnown (r : Request) : Type 0 where
  pub side_low : 1 ≤ r.side
  pub side_high : r.side ≤ 2
  pub number : 1 ≤ r.number
  pub speed_low : 1 ≤ r.amount
  pub speed_high : r.amount ≤ fastest
  pub desk : DeskKnown r.desk

pub record MoveKnown (r : Request) : Type 0 where
  pub side : r.side ≡ 0
  pub number : 1 ≤ r.number
  pub amount : r.amount ≡ 0

pub record TickKnown (r : Request) : Type 0 where
  pub side : r.side ≡ 0
  pub number : r.number ≡ 0
  pub amount_low : 1 ≤ r.amount
  pub amount_high : r.amount ≤ longest_tick

pub kind_known : (r : Request) → input_number r ≡ 0 → KindKnown r
kind_known r e = let k = keeps r e in record { low = within_low 1 12 r.kind k.kind; high = within_high 1 12 r.kind k.kind }

pub desk_known : (r : Request) → input_number r ≡ 0 → DeskKnown r.desk
desk_known r e = let k = keeps r e in record { low = within_low 1 desks r.desk k.desk; high = within_high 1 desks r.desk k.desk }

pub entry_known : (r : Request) → input_number r ≡ 0 → 1 ≤ r.kind → r.kind ≤ 2 → EntryKnown r
entry_known r e l h =
    let k = subst (Keeps r) (asked_of_entry r.kind l h) (keeps r e) in
    record {
      side_low = within_low 1 2 r.side k.side;
      side_high = within_high 1 2 r.side k.side;
      number = nonzero_known r.number k.number;
      speed_low = within_low 1 fastest r.amount k.amount;
      speed_high = within_high 1 fastest r.amount k.amount;
      desk = desk_known r e;
    }

pub tick_known : (r : Request) → input_number r ≡ 0 → r.kind ≡ 12 → TickKnown r
tick_known r e h =
    let k = subst (Keeps r) (ap asked_of h) (keeps r e) in
    let none = within_high 0 0 r.side k.side in
    record {
      side = omega arith;
      number = eqb-true r.number 0 k.number;
      amount_low = within_low 1 longest_tick r.amount k.amount;
      amount_high = within_high 1 longest_tick r.amount k.amount;
    }

-- ---- a request for a move of an aircraft keeps the rule of its kind
pub move_allowed : (r : Request) → 3 ≤ r.kind → r.kind ≤ 11 → MoveKnown r → DeskKnown r.desk → input_number r ≡ 0
move_allowed r l h m d =
    none_broken r
    (subst (Keeps r) (sym (asked_of_move r.kind l h))
    (record {
      desk = within_yes 1 desks r.desk d.low d.high;
      kind = within_yes 1 12 r.kind (omega arith) (omega arith);
      side = within_yes 0 0 r.side (omega arith) (omega arith);
      number = nonzero_yes r.number m.number;
      amount = within_yes 0 0 r.amount (omega arith) (omega arith);
    }))
