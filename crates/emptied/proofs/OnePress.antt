-- A press on any field within the bounds: none exactly where nobody is present, a request that is accepted, and a tick only where no move is.
-- Assumes nothing.
use mathlib.Core.Path.{◌≡◌, refl, sym, ap, ◌∙◌, subst}
use mathlib.Core.Logic.{inl, inr}
use mathlib.Core.Bool.{Bool, true, false, cond, ◌&&◌, ◌||◌, true≢false}
use mathlib.Core.List.{List, [], ◌∷◌}
use Prim.Native.Nat.{ℕ, ◌≤◌}
use native.Mathlib.Omega.{arith}
use lib.Dec.{T, eqb, leb, leb→le, le→leb}
use lib.ListN.{length, get_or}
use lib.Ieee.Fits.{and_i, and_l, and_r}
use borrow.Author.Tests.{eqb-true, eqb-false, eq-eqb, ne_eqb}
use Rattle.limits.specs.Limits.{fastest, longest_tick}
use Rattle.request.specs.Input.{within, is_entry, is_tick, in_range, range}
use Rattle.request.specs.declared.Request.{Request}
use Rattle.request.proofs.ByKind.{keeps}
use Rattle.request.proofs.InputTests.{within_high, within_yes, within_above, nonzero_known, both_left, both_right}
use Rattle.field.specs.declared.Field.{Field}
use Rattle.field.specs.declared.Aircraft.{Aircraft}
use Rattle.field.specs.Airspace.{everywhere, zones_from, in_zone, nobody}
use Rattle.field.specs.Lists.{is_in, every}
use Rattle.field.proofs.TestLaws.{pass, decided, each_zone, every_from, implies, implied, if_true}
use Rattle.questions.specs.Counts.{how_many, present_on, total}
use Rattle.questions.specs.Find.{aircraft_at}
use Rattle.questions.proofs.FindLaws.{place_within}
use Rattle.bounds.specs.Bounds.{within_bounds}
use Rattle.rules.specs.Kinds.{place_before, starts_from, belongs_to}
use Rattle.rules.specs.Step.{number_of}
use Rattle.rules.proofs.HeadOfRequest as request
use Rattle.rules.proofs.HeadOfRequest.{head_alike}
use Rattle.rules.proofs.Checks.{besides, owned, HeadPassed}
use Rattle.rules.proofs.Refusals.{passes}
use Rattle.rules.proofs.StepLaws.{number_is, input_of}
use Rattle.demand.specs.Demand.{moves_on}
use Rattle.demand.proofs.Unstuck.{moves_between}
use Rattle.press.specs.declared.Proposal.{Proposal}
use Rattle.press.specs.declared.Proposal.TheVariants.{None, Play}
use Rattle.press.specs.Press.{candidates, head_move, long_tick, first_accepted, proposal_of, played_by, press_of}
use Rattle.press.proofs.Proposals.{Proposed, proposed, proposal_is, first_yes, first_no, accepted_named, is_button_kind, button_kind_moves}
use Rattle.emptied.specs.Emptied.{PressedOn}

-- ---- every move that is accepted is a candidate

-- whether a kind and a zone are one of the pairs
abbrev is_pair : ℕ → ℕ → List (ℕ × ℕ) → Bool
is_pair k z [] = false
is_pair k z (c ∷ cs) = (eqb c.0 k && eqb c.1 z) || is_pair k z cs

-- every kind that moves somebody on, with every zone that it starts from, is one of the candidates
abbrev listed : ℕ → ℕ → Bool
listed k z = implies (moves_on k && starts_from k z) (is_pair k z candidates)

all_listed : T (every (λ k. every (listed k) (zones_from 1 13)) (zones_from 3 9))
unfolding candidates starts_from
all_listed = tt

candidate : (k z : ℕ) → T (moves_on k) → 3 ≤ k → k ≤ 11 → 1 ≤ z → z ≤ 13 → T (starts_from k z) → T (is_pair k z candidates)
candidate k z m kl kh zl zh s =
    implied (moves_on k && starts_from k z) (is_pair k z candidates)
    (every_from (listed k) 1 13 (every_from (λ k. every (listed k) (zones_from 1 13)) 3 9 all_listed k kl (omega arith)) z zl (omega arith))
    (and_i (moves_on k) (starts_from k z) m s)

module _ (f : Field) (r : Request) (m : T (moves_on r.kind)) (e : number_of f r ≡ 0) where
  abbrev k : ℕ
  k = r.kind

  no_entry_lem : is_entry k ≡ false
  no_entry_lem = within_above 1 2 k (omega (arith, (moves_between k m).0))

  no_tick : is_tick k ≡ false
  no_tick = ne_eqb k 12 (λ q. omega (arith, (moves_between k m).1))

  is_move : within 3 11 k ≡ true
  is_move = within_yes 3 11 k (moves_between k m).0 (moves_between k m).1

  -- its aircraft stands at the head of a zone that the kind starts from
  heads : HeadPassed k (place_before f r) (owned f r) (besides f r k)
  heads = request.heading (passes f r e) refl is_move

  abbrev z : ℕ
  z = (place_before f r).zone

  there : (aircraft_at f z 1).number ≡ r.number
  there = head_alike (request.heads (passes f r e) refl is_move)

  own : (aircraft_at f z 1).desk ≡ r.desk
  unfolding belongs_to
  own =
      let one = eqb-true (place_before f r).place 1 heads.first in
      sym (ap (λ (p : ℕ). (aircraft_at f z p).desk) one) ∙ eqb-true (aircraft_at f z (place_before f r).place).desk r.desk heads.owned_by

  -- so it is the move of a candidate
  is_head_lem : head_move f (k, z) ≡ r
  is_head_lem =
      let kept = keeps r (input_of f r e) in
      let side : r.side ≡ 0 = (let h = within_high 0 0 r.side (sym (ap (λ (b : Bool). in_range (cond b (range 1 2) (range 0 0)) r.side) no_entry_lem) ∙ kept.side) in omega arith) in
      let amount : r.amount ≡ 0 =
      (let h = within_high 0 0 r.amount (sym (ap (λ (b : Bool). in_range (cond b (range 1 fastest) (cond (is_tick k) (range 1 longest_tick) (range 0 0))) r.amount) no_entry_lem
      ∙ ap (λ (b : Bool). in_range (cond b (range 1 longest_tick) (range 0 0)) r.amount) no_tick) ∙ kept.amount) in omega arith) in
      λ i. record { kind = k; side = sym side i; number = there i; amount = sym amount i; desk = own i }

  among : T (is_pair k z candidates)
  among =
      let l = moves_between k m in
      let low = nonzero_known z heads.known in
      candidate k z m l.0 l.1 low (place_within f r.number) (pass heads.starts)

-- a candidate that is accepted is proposed, or one before it: a move, and no tick
found : (f : Field) (k z : ℕ) (cs : List (ℕ × ℕ)) → number_of f (head_move f (k, z)) ≡ 0 → T (is_pair k z cs) → first_accepted f cs ≡ Play long_tick → T (every (λ c. is_button_kind c.0) cs) → ⊥
found f k z [] e t q b = t
found f k z (c ∷ cs) e t q b =
    elim (decided (eqb (number_of f (head_move f c)) 0)) [
      | inl y ↦
          let same : Play (head_move f c) ≡ Play long_tick = sym (first_yes f c cs (eqb-true (number_of f (head_move f c)) 0 y)) ∙ q in
          let move : head_move f c ≡ long_tick = cc in
          let kind : c.0 ≡ 12 = ap (λ (r : Request). r.kind) move in
          subst (λ (n : ℕ). T (is_button_kind n)) kind (and_l (is_button_kind c.0) (every (λ c. is_button_kind c.0) cs) b)
      | inr y ↦
          let later = sym (first_no f c cs (eqb-false (number_of f (head_move f c)) 0 y)) ∙ q in
          elim (decided (eqb c.0 k && eqb c.1 z)) [
            | inl s ↦
                let a = eqb-true c.0 k (both_left (eqb c.0 k) (eqb c.1 z) s) in
                let d = eqb-true c.1 z (both_right (eqb c.0 k) (eqb c.1 z) s) in
                eqb-false (number_of f (head_move f c)) 0 y ((λ i. number_of f (head_move f (a i, d i))) ∙ e)
            | inr s ↦ found f k z cs e (subst (λ (b : Bool). T (b || is_pair k z cs)) s t) later (and_r (is_button_kind c.0) (every (λ c. is_button_kind c.0) cs) b)
          ]
    ]

button_kinds_lem : T (every (λ c. is_button_kind c.0) candidates)
unfolding candidates
button_kinds_lem = tt

-- ---- nobody is present

-- the head of a zone is nobody where nobody is present
nobody_heads : (f : Field) (z : ℕ) → present_on f ≡ 0 → 1 ≤ z → z ≤ 13 → (aircraft_at f z 1).number ≡ 0
unfolding present_on how_many aircraft_at
nobody_heads f z e l h =
    of (in_zone f z) (empty everywhere e (each_zone (λ (y : ℕ). is_in y everywhere ≡ true)
    (refl, (refl, (refl, (refl, (refl, (refl, (refl, (refl, (refl, (refl, (refl, (refl, (refl, tt))))))))))))) z (and_i (leb 1 z) (leb z 13) (le→leb 1 z l) (le→leb z 13 h))))
  where
    of : (l : List Aircraft) → length l ≡ 0 → (get_or (nobody ∷ l) 1 nobody).number ≡ 0
    of [] e = refl
    of (a ∷ l) e = absurd (omega arith)

    empty : (zs : List ℕ) → total (how_many f) zs ≡ 0 → is_in z zs ≡ true → length (in_zone f z) ≡ 0
    empty [] e i = absurd (true≢false (sym i))
    empty (y ∷ zs) e i =
        elim (decided (eqb y z)) [
          | inl q ↦ subst (λ (w : ℕ). length (in_zone f w) ≡ 0) (eqb-true y z q) (omega arith)
          | inr q ↦ empty zs (omega arith) (sym (ap (λ (b : Bool). b || is_in z zs) q) ∙ i)
        ]

-- no candidate is accepted there
none_accepted : (f : Field) (cs : List (ℕ × ℕ)) → present_on f ≡ 0 → T (every (λ c. is_button_kind c.0 && within 1 13 c.1) cs) → first_accepted f cs ≡ None
none_accepted f [] e t = if_true None (Play long_tick) (eq-eqb (present_on f) 0 e)
none_accepted f (c ∷ cs) e t =
    let here = and_l (is_button_kind c.0 && within 1 13 c.1) _ t in
    let zone = and_r (is_button_kind c.0) (within 1 13 c.1) here in
    let low = leb→le 1 c.1 (and_l (leb 1 c.1) (leb c.1 13) zone) in
    let high = leb→le c.1 13 (and_r (leb 1 c.1) (leb c.1 13) zone) in
    let nobody = nobody_heads f c.1 e low high in
    let kind = pass (button_kind_moves c.0 (and_l (is_button_kind c.0) (within 1 13 c.1) here)) in
    first_no f c cs (λ y. let n = accepted_named f c kind y in omega arith) ∙ none_accepted f cs e (and_r (is_button_kind c.0 && within 1 13 c.1) _ t)

candidate_zones : T (every (λ c. is_button_kind c.0 && within 1 13 c.1) candidates)
unfolding candidates
candidate_zones = tt

-- ---- a press
module _ (f : Field) (t : T (within_bounds f)) where
  here : (p : Proposal) → proposal_of f ≡ p → Proposed f p
  here p e = subst (Proposed f) (sym (proposal_is f t) ∙ e) (proposed f t)

  pub pressed_on : PressedOn f
  unfolding press_of
  pressed_on =
      record {
        none_then_nobody = λ e. here None e;
        nobody_then_none = λ e. proposal_is f t ∙ none_accepted f candidates e candidate_zones;
        accepted = λ r e. number_is f r ∙ (here (Play r) e).0;
        is_step = λ r e. ap (played_by f) e;
        no_move =
            λ e r m a. (let n = sym (number_is f r) ∙ a in found f r.kind (z f r m n) candidates (ap (number_of f) (is_head_lem f r m n) ∙ n) (among f r m n) (sym (proposal_is f t) ∙ e) button_kinds_lem);
      }
