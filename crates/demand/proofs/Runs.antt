-- Any list of requests from a field that an orderly line stands for leads to such a field; with the counts over its answers.
-- Assumes nothing.
use mathlib.Core.Path.{◌≡◌, refl, sym, ap, ◌∙◌, subst, subst⁻¹}
use mathlib.Core.Logic.{inl, inr}
use mathlib.Core.Bool.{Bool, true, false, cond, not, ◌&&◌, ◌||◌}
use mathlib.Core.List.{List, [], ◌∷◌}
use Prim.Native.Nat.{ℕ, ◌+◌, ◌≤◌}
use native.Mathlib.Omega.{arith}
use lib.Dec.{T, eqb}
use lib.Ieee.Fits.{and_i}
use borrow.Author.Tests.{eqb-true, eq-eqb, ne_eqb}
use Rattle.request.specs.Input.{within, is_entry}
use Rattle.request.specs.declared.Request.{Request}
use Rattle.field.specs.declared.Aircraft.{Aircraft}
use Rattle.field.specs.declared.Legs.{Legs}
use Rattle.field.specs.declared.Field.{Field}
use Rattle.order.specs.Model.{Side, one}
use Rattle.rules.specs.declared.Answer.{Answer}
use Rattle.rules.specs.Step.{number_of, step_of}
use Rattle.rules.specs.Play.{field_after, played, is_accepted, accepted, let_in, taxied_off, exited_from, moves, adds_moves}
use Rattle.demand.specs.Demand.{never_answers}
use Rattle.field.proofs.TestLaws.{fail, decided}
use Rattle.line.proofs.Line.{Placed, field_of}
use Rattle.line.proofs.Orderly.{Orderly}
use Rattle.moves.proofs.AfterAccepted.{leaves, weight_of}
use Rattle.rules.proofs.StepLaws.{number_is, field_accepted, field_refused}
use Rattle.moves.proofs.AcceptedOrRefused.{outcome}
use Rattle.moves.proofs.Owners.{owners}
use Rattle.rules.proofs.Checks.{NeverOthers}

-- the requests, with their answers, of the desks that pass the test
abbrev pub asked_by : (ℕ → Bool) → List (Request × Answer) → List (Request × Answer)
asked_by who [] = []
asked_by who (p ∷ ps) = cond (who p.0.desk) (p ∷ asked_by who ps) (asked_by who ps)

-- after a list from the field g, with p present of the desks that pass a test, and w the weight of the moves left
pub record Run (legs : Legs) (g : Field) (p : (ℕ → Bool) → ℕ) (w : ℕ) (rs : List Request) : Type 0 where
  pub first_then : Side
  pub line_then : List Placed
  pub runway_then : List Aircraft
  pub stands : field_after g rs ≡ field_of first_then line_then runway_then legs
  pub orderly : Orderly first_then line_then runway_then legs
  pub no_10 : T (never_answers 10 (played g rs))
  pub no_25 : T (never_answers 25 (played g rs))
  pub balance : (who : ℕ → Bool) → let_in (asked_by who (played g rs)) + p who ≡ taxied_off (asked_by who (played g rs)) + exited_from (asked_by who (played g rs)) + owners who line_then runway_then
  pub few : accepted adds_moves (played g rs) ≡ 0 → moves (played g rs) ≤ w

-- ---- one request more in front
-- an answer that is not the number
other_answer : (f : Field) (r : Request) (n : ℕ) → (number_of f r ≡ n → ⊥) → T (not (eqb (step_of f r).answer.number n))
other_answer f r n h = fail (ne_eqb (step_of f r).answer.number n (λ e. h (sym (number_is f r) ∙ e)))

-- what a request adds to a count of accepted requests
counted : (kinds : ℕ → Bool) (f : Field) (r : Request) (b : Bool) → eqb (step_of f r).answer.number 0 ≡ b → one (is_accepted kinds (r, (step_of f r).answer)) ≡ one (b && kinds r.kind)
counted kinds f r b e = ap (λ (c : Bool). one (c && kinds r.kind)) e

-- and where only those of the desks that pass the test are counted
counted_by : (who kinds : ℕ → Bool) (f : Field) (r : Request) (ps : List (Request × Answer)) (b : Bool) → eqb (step_of f r).answer.number 0 ≡ b
    → accepted kinds (asked_by who ((r, (step_of f r).answer) ∷ ps)) ≡ one (b && kinds r.kind && who r.desk) + accepted kinds (asked_by who ps)
counted_by who kinds f r ps b e = go (who r.desk) (counted kinds f r b e)
  where
    rest : ℕ
    rest = accepted kinds (asked_by who ps)

    both : (c : Bool) → one (c && true) ≡ one c
    both true = refl
    both false = refl

    none : (c : Bool) → one (c && false) ≡ 0
    none true = refl
    none false = refl

    go : (t : Bool) → one (is_accepted kinds (r, (step_of f r).answer)) ≡ one (b && kinds r.kind)
        → accepted kinds (cond t ((r, (step_of f r).answer) ∷ asked_by who ps) (asked_by who ps)) ≡ one (b && kinds r.kind && t) + rest
    go true h = let q = both (b && kinds r.kind) in omega arith
    go false h = let q = none (b && kinds r.kind) in omega arith

-- taxi and exit are two kinds
leaves_one : (k : ℕ) (t : Bool) → one (leaves k && t) ≡ one (eqb k 8 && t) + one (eqb k 9 && t)
leaves_one k t = elim (decided (eqb k 8)) [ inl e ↦ eight e | inr e ↦ other (eqb k 8) (eqb k 9) e ]
  where
    eight : eqb k 8 ≡ true → one ((eqb k 8 || eqb k 9) && t) ≡ one (eqb k 8 && t) + one (eqb k 9 && t)
    eight e = let q : k ≡ 8 = eqb-true k 8 e in subst (λ (j : ℕ). one ((eqb j 8 || eqb j 9) && t) ≡ one (eqb j 8 && t) + one (eqb j 9 && t)) (sym q) (omega arith)

    other : (a b : Bool) → a ≡ false → one ((a || b) && t) ≡ one (a && t) + one (b && t)
    other true b e = absurd (mathlib.Core.Bool.true≢false e)
    other false b e = omega arith

module _ {legs : Legs} {g : Field} {r : Request} {rs : List Request} {p : (ℕ → Bool) → ℕ} {w : ℕ} where
  -- after a refusal
  refused_then : NeverOthers (number_of g r) → Run legs (step_of g r).field p w rs → Run legs g p w (r ∷ rs)
  refused_then n run =
      let b : eqb (step_of g r).answer.number 0 ≡ false = ne_eqb (step_of g r).answer.number 0 (λ e. let z = n.not_0 in let q = sym (number_is g r) ∙ e in omega arith) in
      let ps = played (step_of g r).field rs in
      record {
        first_then = run.first_then;
        line_then = run.line_then;
        runway_then = run.runway_then;
        stands = run.stands;
        orderly = run.orderly;
        no_10 = and_i (not (eqb (step_of g r).answer.number 10)) (never_answers 10 ps) (other_answer g r 10 n.not_10) run.no_10;
        no_25 = and_i (not (eqb (step_of g r).answer.number 25)) (never_answers 25 ps) (other_answer g r 25 n.not_25) run.no_25;
        balance =
            λ who.
            let a = counted_by who is_entry g r ps false b in
            let c = counted_by who (λ (k : ℕ). eqb k 8) g r ps false b in
            let d = counted_by who (λ (k : ℕ). eqb k 9) g r ps false b in
            let e = run.balance who in
            omega arith;
        few =
            λ h.
            let a = counted adds_moves g r false b in
            let c = counted (within 3 11) g r false b in
            let e = run.few (omega arith) in
            omega arith;
      }

  -- after an acceptance that changes the counts as said
  accepted_then : {p' : (ℕ → Bool) → ℕ} {w' : ℕ} → number_of g r ≡ 0
      → ((who : ℕ → Bool) → p' who + one (leaves r.kind && who r.desk) ≡ p who + one (is_entry r.kind && who r.desk)) → (adds_moves r.kind ≡ false → w' + one (within 3 11 r.kind) ≤ w)
      → Run legs (step_of g r).field p' w' rs → Run legs g p w (r ∷ rs)
  accepted_then z bal light run =
      let b : eqb (step_of g r).answer.number 0 ≡ true = eq-eqb (step_of g r).answer.number 0 (number_is g r ∙ z) in
      let ps = played (step_of g r).field rs in
      record {
        first_then = run.first_then;
        line_then = run.line_then;
        runway_then = run.runway_then;
        stands = run.stands;
        orderly = run.orderly;
        no_10 = and_i (not (eqb (step_of g r).answer.number 10)) (never_answers 10 ps) (other_answer g r 10 (λ e. omega arith)) run.no_10;
        no_25 = and_i (not (eqb (step_of g r).answer.number 25)) (never_answers 25 ps) (other_answer g r 25 (λ e. omega arith)) run.no_25;
        balance =
            λ who.
            let a = counted_by who is_entry g r ps true b in
            let c = counted_by who (λ (k : ℕ). eqb k 8) g r ps true b in
            let d = counted_by who (λ (k : ℕ). eqb k 9) g r ps true b in
            let l = leaves_one r.kind (who r.desk) in
            let e = run.balance who in
            let m = bal who in
            omega arith;
        few =
            λ h.
            let a = counted adds_moves g r true b in
            let c = counted (within 3 11) g r true b in
            let none : one (adds_moves r.kind) ≡ 0 = omega arith in
            let l = light (zero_one (adds_moves r.kind) none) in
            let e = run.few (omega arith) in
            omega arith;
      }
    where
      zero_one : (b : Bool) → one b ≡ 0 → b ≡ false
      zero_one true e = absurd (omega arith)
      zero_one false e = refl

-- ---- every list
-- after a list from a field, by the line and the runway that it started with
abbrev RunFrom : Legs → List Placed → List Aircraft → List Request → Field → Type 0
RunFrom legs line runway rs g = Run legs g (λ who. owners who line runway) (weight_of line runway) rs

pub runs : (legs : Legs) (rs : List Request) (f : Side) (line : List Placed) (runway : List Aircraft) → Orderly f line runway legs
    → Run legs (field_of f line runway legs) (λ who. owners who line runway) (weight_of line runway) rs
runs legs [] f line runway o =
    record { first_then = f; line_then = line; runway_then = runway; stands = refl; orderly = o; no_10 = tt; no_25 = tt; balance = λ who. omega arith; few = λ h. omega arith }
runs legs (r ∷ rs) f line runway o =
    let g = field_of f line runway legs in
    elim (outcome f line runway legs o r) [
      | inl a ↦
          let b = a.after in
          let e : (step_of g r).field ≡ field_of b.first_after b.line_after b.runway_after legs = field_accepted g r a.number_0 ∙ b.effect in
          accepted_then a.number_0 b.balance b.lighter
          (subst⁻¹ (RunFrom legs b.line_after b.runway_after rs) e (runs legs rs b.first_after b.line_after b.runway_after b.orderly))
      | inr n ↦
          let e : (step_of g r).field ≡ g = field_refused g r (λ q. let z = n.not_0 in omega arith) in
          refused_then n (subst⁻¹ (RunFrom legs line runway rs) e (runs legs rs f line runway o))
    ]
