-- Somebody can always move: on a field that an orderly line stands for, with everyone's leg flown out, the one on the runway taxies off,
-- and where there is none the first of the sequence goes on. Assumes nothing.
use mathlib.Core.Path.{◌≡◌, refl, ap, ◌∙◌, subst}
use mathlib.Core.Logic.{inl, inr}
use mathlib.Core.Bool.{Bool, true, false, cond, ◌||◌}
use mathlib.Core.List.{List, [], ◌∷◌, ◌++◌}
use Prim.Native.Nat.{ℕ, ◌+◌, ◌≤◌, ◌<◌}
use native.Mathlib.Nat.{pos_of_ne-zero}
use native.Mathlib.Omega.{arith}
use lib.Dec.{T, leb, eqb, leb→le}
use lib.ListN.{length}
use lib.Ieee.Fits.{and_l, and_r}
use borrow.Author.Tests.{eqb-true, eqb-false, eq-eqb, ne_eqb}
use Rattle.request.specs.Input.{within, first_refused}
use Rattle.request.specs.declared.Request.{Request}
use Rattle.request.proofs.InputTests as input
use Rattle.request.proofs.ByKind.{DeskKnown, move_allowed}
use Rattle.field.specs.declared.Aircraft.{Aircraft}
use Rattle.field.specs.declared.Legs.{Legs}
use Rattle.field.specs.declared.Field.{Field}
use Rattle.questions.specs.declared.Place.{Place}
use Rattle.field.specs.Airspace.{side_of, opposite, at2000, in_zone, is_flying_zone, leg_flown_out}
use Rattle.questions.specs.Counts.{how_many, is_empty}
use Rattle.questions.specs.Find.{place_of, aircraft_at, is_first, leader_zone}
use Rattle.field.specs.Lists.{every}
use Rattle.fits.specs.Fits.{fits_zone}
use Rattle.order.specs.Model.{Side, count, free, needs}
use Rattle.order.proofs.Facts.{head_kind, head_moves}
use Rattle.rules.specs.Kinds.{place_before, starts_from, belongs_to, head_checks, may_approach, may_merge, base_free}
use Rattle.rules.specs.Step.{checks_of}
use Rattle.demand.specs.Demand.{all_flown_out, moves_on, MovesOn}
use Rattle.field.proofs.TestLaws.{decided, passed, failed, each_operation, every_from}
use Rattle.field.proofs.NumberLists.{alone}
use Rattle.line.proofs.AheadInLists.{every_right}
use Rattle.line.proofs.Line.{Placed, zones_in, numbers_of, inside, field_of}
use Rattle.line.proofs.CountedOnLine.{in_line, how_many_lem, how_many_runway}
use Rattle.questions.proofs.FindLaws.{at}
use Rattle.line.proofs.Located.{located, located_runway, inside_at, first_there, head_there}
use Rattle.line.proofs.Leaders.{nonzero}
use Rattle.line.proofs.Orderly.{Orderly}
use Rattle.moves.proofs.AfterAccepted.{zone_in, fit_here}
use Rattle.moves.proofs.Heads.{runway_head}
use Rattle.laws.proofs.Fits.{fits_parts}
use Rattle.rules.proofs.Checks.{checks_at, besides, owned}
use Rattle.rules.proofs.StepLaws.{number_is}
use Rattle.moves.proofs.AcceptedOrRefused.{accepted_by}

-- a request of a kind for an aircraft, by its own desk
abbrev pub move : ℕ → Aircraft → Request
move kind a = record { kind = kind; side = 0; number = a.number; amount = 0; desk = a.desk }

-- ---- the kinds by which somebody goes on

-- kinds 3 to 8 and 11 lie between 3 and 11
pub moves_between : (k : ℕ) → T (moves_on k) → (3 ≤ k) × (k ≤ 11)
moves_between k t =
    elim (decided (within 3 8 k)) [
      | inl e ↦ (let l = input.within_low 3 8 k e in let h = input.within_high 3 8 k e in (l, omega arith))
      | inr e ↦ (let q = eqb-true k 11 (passed (subst (λ (b : Bool). T (b || eqb k 11)) e t)) in (omega arith, omega arith))
    ]

-- such a request asks for 12, 26, 13 and 14, and for what its kind needs besides
pub checks_of_move : (f : Field) (r : Request) → T (moves_on r.kind) → checks_of f r ≡ head_checks r.kind (place_before f r) (owned f r) ++ besides f r r.kind
checks_of_move f r m =
    let k = r.kind in
    let (low, high) = moves_between k m in
    checks_at f r {k = k} refl ∙ simp (input.within_above 1 2 k (omega arith), ne_eqb k 12 (λ q. omega arith))

-- ---- one at the head of zone z, as it asks for a move
record HeadOfZone (f : Field) (z : ℕ) (a : Aircraft) : Type 0 where
  place : place_of f a.number ≡ at z 1
  here : aircraft_at f z 1 ≡ a
  zone : 1 ≤ z
  named : T (nonzero a.number)
  desk : DeskKnown a.desk

-- an aircraft that fits its zone has a desk
desk_of : (legs : Legs) (z : ℕ) (a : Aircraft) → T (fits_zone legs z a) → DeskKnown a.desk
desk_of legs z a t = let d = (fits_parts legs z a t).desk in record { low = d.least; high = d.most }

module _ {f : Side} {line : List Placed} {runway : List Aircraft} {legs : Legs} (o : Orderly f line runway legs) {z : ℕ} {a : Aircraft} (h : HeadOfZone (field_of f line runway legs) z a) where
  abbrev F : Field
  F = field_of f line runway legs

  -- 12, 26, 13 and 14 pass for a kind that starts from its zone
  head_checks_lem : (k : ℕ) → T (starts_from k z) → (rest : List (ℕ × Bool)) → first_refused rest ≡ 0 → first_refused (head_checks k (place_of F a.number) (owned F (move k a)) ++ rest) ≡ 0
  unfolding belongs_to
  head_checks_lem k starts rest e =
      let low = h.zone in
      let own : eqb (aircraft_at F z 1).desk a.desk ≡ true = eq-eqb (aircraft_at F z 1).desk a.desk (ap (λ (x : Aircraft). x.desk) h.here) in
      ap (λ (q : Place). first_refused (head_checks k q (belongs_to F q a.desk) ++ rest)) h.place ∙ simp (ne_eqb z 0 (λ q. omega arith), own, passed {b = starts_from k z} starts) e

  -- its move is accepted where what the kind needs besides is met
  goes_on : (k : ℕ) → T (moves_on k) → T (starts_from k z) → first_refused (besides F (move k a) k) ≡ 0 → MovesOn F
  goes_on k t starts met =
      let r = move k a in
      let range = moves_between k t in
      let number = pos_of_ne-zero (eqb-false a.number 0 (failed {b = eqb a.number 0} h.named)) in
      let input = move_allowed r range.0 range.1 (record { side = refl; number = number; amount = refl }) h.desk in
      record {
        request = r;
        kind = t;
        accepted = number_is F r ∙ (accepted_by f line runway legs o r input (ap first_refused (checks_of_move F r t) ∙ head_checks_lem k starts (besides F r k) met)).number_0;
      }

-- ---- the one on the runway taxies off
taxi : {f : Side} {line : List Placed} {x : Aircraft} {legs : Legs} → Orderly f line (x ∷ []) legs → MovesOn (field_of f line (x ∷ []) legs)
unfolding starts_from
taxi {f} {line} {x} {legs} o =
    goes_on o
    (record {
      place = located_runway f line x legs (alone (numbers_of line) x.number [] o.different).ahead;
      here = runway_head f line x legs;
      zone = omega arith;
      named = and_l (nonzero x.number) true (every_right nonzero (numbers_of line) (x.number ∷ []) o.nonzeros);
      desk = desk_of legs 13 x (and_l (fits_zone legs 13 x) true o.fit_runway);
    })
    8 tt tt refl

-- ---- the first of the sequence, x with b behind it, and nobody on the runway
module _ (f : Side) (x : Aircraft) (b : List Placed) (legs : Legs) where
  -- the line, and the field, with x in zone z
  abbrev line_from : ℕ → List Placed
  line_from z = record { zone = z; aircraft = x } ∷ b

  abbrev G : ℕ → Field
  G z = field_of f (line_from z) [] legs

  -- the line is orderly, and every leg is flown out
  record FirstIn (z : ℕ) : Type 0 where
    orderly : Orderly f (line_from z) [] legs
    flown : T (all_flown_out (G z))

  module _ {z : ℕ} (s : FirstIn z) where
    abbrev e : Placed
    e = record { zone = z; aircraft = x }

    -- its zone is one of the operation area
    z_in : T (within 1 12 z)
    z_in = zone_in f [] e b [] legs s.orderly

    -- it is at the head there
    heads : HeadOfZone (G z) z x
    heads =
        record {
          place = located f [] e b [] legs s.orderly.different z_in;
          here = head_there f [] e b [] legs s.orderly.different z_in refl;
          zone = leb→le 1 z (and_l (leb 1 z) (leb z 12) z_in);
          named = and_l (nonzero x.number) (every nonzero (numbers_of b ++ [])) s.orderly.nonzeros;
          desk = desk_of legs z x (fit_here f [] e b [] legs s.orderly);
        }

    -- where look-up finds it
    zone_before_lem : (place_of (G z) x.number).zone ≡ z
    zone_before_lem = ap (λ (p : Place). p.zone) heads.place

    -- nobody is ahead of it, whatever is asked of the leader's zone
    leads : (low high : ℕ) → (is_first (G z).sequence x.number || within low high (leader_zone (G z) x.number)) ≡ true
    leads low high = ap (λ (c : Bool). c || within low high (leader_zone (G z) x.number)) (first_there f [] e b [] legs s.orderly.different)

    -- its leg is flown out, where it flies
    flown_out_lem : T (is_flying_zone z) → leg_flown_out (aircraft_at (G z) (place_of (G z) x.number).zone 1) ≡ true
    unfolding all_flown_out is_flying_zone
    flown_out_lem u =
        let low = leb→le 7 z (and_l (leb 7 z) (leb z 12) u) in
        let high = leb→le z 12 (and_r (leb 7 z) (leb z 12) u) in
        let t = every_from (λ y. every leg_flown_out (in_zone (G z) y)) 7 6 s.flown z low (omega arith) in
        let q = subst (λ (l : List Aircraft). T (every leg_flown_out l)) (in_line f (line_from z) [] legs z z_in ∙ inside_at [] e b) t in
        ap (λ (y : ℕ). leg_flown_out (aircraft_at (G z) y 1)) zone_before_lem ∙ ap leg_flown_out heads.here ∙ passed (and_l (leg_flown_out x) (every leg_flown_out (inside z b)) q)

    -- how many are in a zone, by the model
    counted : (w : ℕ) → T (within 1 12 w) → how_many (G z) w ≡ count (z ∷ zones_in b) w
    counted w t = how_many_lem f (line_from z) [] legs w t

    -- it descends where 2000 is free
    descends : T (starts_from 3 z) → T (within 1 12 (at2000 z)) → T (free (z ∷ zones_in b) (at2000 z)) → MovesOn (G z)
    descends starts t u =
        goes_on s.orderly heads 3 tt starts
        (ap (λ (v : ℕ). cond (is_empty (G z) (at2000 v)) 0 21) zone_before_lem ∙ ap (λ (c : Bool). cond c 0 21) (ap (λ (c : ℕ). eqb c 0) (counted (at2000 z) t) ∙ passed u))

    -- it approaches where it comes from a lateral zone, or the opposite base is free
    approaches : T (starts_from 4 z) → (within 5 6 z || base_free (G z) (side_of z)) ≡ true → MovesOn (G z)
    unfolding may_approach
    approaches starts u =
        goes_on s.orderly heads 4 tt starts
        (input.none_refused (besides (G z) (move 4 x) 4) (
          (ap (λ (c : Bool). within 5 6 (place_of (G z) x.number).zone || c) (leads 9 12) ∙ or_true (within 5 6 (place_of (G z) x.number).zone)),
          ((ap (λ (v : ℕ). within 5 6 v || base_free (G z) (side_of v)) zone_before_lem ∙ u), tt),
        ))
      where
        or_true : (c : Bool) → (c || true) ≡ true
        or_true true = refl
        or_true false = refl

    -- from 2000 the base w opposite to it is free
    base_free_lem : (w : ℕ) → T (within 1 12 w) → T (leb (count (z ∷ zones_in b) w) 1) → leb (how_many (G z) w) 1 ≡ true
    base_free_lem w t u = ap (λ (c : ℕ). leb c 1) (counted w t) ∙ passed u

    -- it merges from a base
    merges : T (starts_from 5 z) → T (is_flying_zone z) → MovesOn (G z)
    unfolding may_merge
    merges starts u = goes_on s.orderly heads 5 tt starts (input.none_refused (besides (G z) (move 5 x) 5) (flown_out_lem u, (leads 11 12, tt)))

    -- it goes to final
    to_final_lem : T (starts_from 6 z) → T (is_flying_zone z) → MovesOn (G z)
    to_final_lem starts u = goes_on s.orderly heads 6 tt starts (input.none_refused (besides (G z) (move 6 x) 6) (flown_out_lem u, tt))

    -- it holds
    holds : T (starts_from 11 z) → T (is_flying_zone z) → MovesOn (G z)
    holds starts u = goes_on s.orderly heads 11 tt starts (input.none_refused (besides (G z) (move 11 x) 11) (flown_out_lem u, tt))

    -- it lands on the runway, which is empty
    lands : T (starts_from 7 z) → T (is_flying_zone z) → MovesOn (G z)
    lands starts u =
        goes_on s.orderly heads 7 tt starts
        (input.none_refused (besides (G z) (move 7 x) 7) (flown_out_lem u, (ap (λ (c : ℕ). eqb c 0) (how_many_runway f (line_from z) [] legs), tt)))

  -- in each of the twelve zones it can go on, by what the model says of the first
  first_moves : (z : ℕ) → T (within 1 12 z) → FirstIn z → T (eqb z 12 || needs (head_kind z) [] z (zones_in b)) → MovesOn (G z)
  unfolding starts_from is_flying_zone base_free side_of opposite
  first_moves =
      each_operation (λ (z : ℕ). FirstIn z → T (eqb z 12 || needs (head_kind z) [] z (zones_in b)) → MovesOn (G z)) (
        (λ s u. descends s tt tt u),
        (λ s u. descends s tt tt u),
        (λ s u. approaches s tt (base_free_lem s 10 tt u)),
        (λ s u. approaches s tt (base_free_lem s 9 tt u)),
        (λ s u. approaches s tt refl),
        (λ s u. approaches s tt refl),
        (λ s u. holds s tt tt),
        (λ s u. holds s tt tt),
        (λ s u. merges s tt tt),
        (λ s u. merges s tt tt),
        (λ s u. to_final_lem s tt tt),
        (λ s u. lands s tt tt),
      )

pub unstuck : (f : Side) (line : List Placed) (runway : List Aircraft) (legs : Legs) → Orderly f line runway legs → 0 < length line + length runway
    → T (all_flown_out (field_of f line runway legs)) → MovesOn (field_of f line runway legs)
unstuck f [] [] legs o p t = absurd (omega arith)
unstuck f (e ∷ b) [] legs o p t = first_moves f e.aircraft b legs e.zone (zone_in f [] e b [] legs o) (record { orderly = o; flown = t }) (head_moves f e.zone (zones_in b) o.okay_line)
unstuck f line (x ∷ []) legs o p t = taxi o
unstuck f line (x ∷ y ∷ rest) legs o p t = absurd (let h = o.one_landed in omega arith)
