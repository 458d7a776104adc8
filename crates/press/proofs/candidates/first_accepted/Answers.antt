-- `press::candidates::first_accepted` meets its contract: each candidate that is passed over is refused. Assumes nothing.
use Rattle.std.proofs.Common.{arith, ◌≡◌, refl, sym, ap, ◌∙◌, ℕ, ◌+◌, ◌-◌, ◌≤◌, ◌<◌, Bool, ◌&&◌, T, List, [], ◌∷◌, Option, get_or, add-one}
use Rattle.std.specs.Prelude.{slice_get}
use Rattle.std.specs.Option.{option_copied, unwrap_or}
use Rattle.std.proofs.Math.ListN.{drop}
use Rattle.std.proofs.Math.Seq.{drop-cons}
use Rattle.std.proofs.lemmas.Option.{unwrap_or-slice_get}
use lib.Dec.{leb, leb→le}
use lib.Ieee.Fits.{and_l, and_r}
use Rattle.request.specs.Input.{within}
use Rattle.request.specs.declared.Request.{Request}
use Rattle.field.specs.declared.Zone.{Zone}
use Rattle.field.specs.declared.Aircraft.{Aircraft}
use Rattle.field.specs.declared.Field.{Field}
use Rattle.field.specs.Airspace.{nobody, queue_of, in_zone}
use Rattle.field.proofs.TestLaws.{every_from}
use Rattle.field.proofs.FieldKnown.{FieldKnown, field_known}
use Rattle.field.proofs.Shapes.{zone_read}
use Rattle.questions.specs.Find.{aircraft_at}
use Rattle.rules.specs.declared.Stepped.{Stepped}
use Rattle.rules.specs.Step.{number_of, step_of}
use Rattle.rules.proofs.StepLaws.{number_is}
use Rattle.press.specs.declared.Proposal.TheVariants.{Play}
use Rattle.press.specs.declared.Pressed.{Pressed}
use Rattle.press.specs.Press.{candidates, head_move, first_accepted, pressed_by}
use Rattle.press.proofs.Proposals.{accepted_named, first_yes, first_no}
use Rattle.press.proofs.candidates.first_accepted.Goals as goal

-- ---- the array is the candidates, and each is a move from a zone
abbrev tried : List (ℕ × ℕ)
tried = (8, 13) ∷ (7, 12) ∷ (6, 11) ∷ (5, 9) ∷ (5, 10) ∷ (11, 7) ∷ (11, 8) ∷ (4, 3) ∷ (4, 4) ∷ (4, 5) ∷ (4, 6) ∷ (3, 1) ∷ (3, 2) ∷ []

abbrev at : ℕ → ℕ × ℕ
at i = get_or tried i (0, 0)

candidate-at : (i : ℕ) → i < 13 → drop i candidates ≡ at i ∷ drop (i + 1) candidates
unfolding candidates
candidate-at i h = rw add-one (drop-cons tried i (0, 0) h)

abbrev is_move : ℕ × ℕ → Bool
is_move c = within 3 11 c.0 && within 1 13 c.1

each_moves : (i : ℕ) → i < 13 → T (is_move (at i))
each_moves i h = every_from (λ (i : ℕ). is_move (at i)) 0 13 tt i (omega arith) (omega arith)

kind-in : (i : ℕ) → i < 13 → T (within 3 11 (at i).0)
kind-in i h = and_l (within 3 11 (at i).0) (within 1 13 (at i).1) (each_moves i h)

zone_low : (i : ℕ) → i < 13 → 1 ≤ (at i).1
zone_low i h = let z = (at i).1 in leb→le 1 z (and_l (leb 1 z) (leb z 13) (and_r (within 3 11 (at i).0) (within 1 13 z) (each_moves i h)))

zone-high : (i : ℕ) → i < 13 → (at i).1 ≤ 13
zone-high i h = let z = (at i).1 in leb→le z 13 (and_r (leb 1 z) (leb z 13) (and_r (within 3 11 (at i).0) (within 1 13 z) (each_moves i h)))

-- ---- who stands at the head of the i-th candidate's zone
head_is : (f : Field) → FieldKnown f → (i : ℕ) → i < 13 → (d : Zone) {q : List Aircraft} {o : Option Aircraft} → q ≡ queue_of (get_or f.zones ((at i).1 - 1) d) → o ≡ slice_get q 0
    → unwrap_or o nobody ≡ aircraft_at f (at i).1 1
unfolding aircraft_at in_zone
head_is f known i h d {q} queue read =
    ap (λ (x : Option Aircraft). unwrap_or x nobody) read ∙ unwrap_or-slice_get q 0 nobody ∙ ap (λ (r : List Aircraft). get_or r 0 nobody) queue
    ∙ ap (λ (z : Zone). get_or (queue_of z) 0 nobody) (zone_read f (at i).1 d known.zones (zone_low i h) (zone-high i h))

-- ---- the i-th candidate
module _ (f : Field) (i : ℕ) (h : i < 13) where
  passed_over : (number_of f (head_move f (at i)) ≡ 0 → ⊥) → first_accepted f (drop i candidates) ≡ first_accepted f (drop (i + 1) candidates)
  passed_over refused = ap (first_accepted f) (candidate-at i h) ∙ first_no f (at i) (drop (i + 1) candidates) refused

  -- nobody at the head: it is refused
  nobody_there : nobody ≡ aircraft_at f (at i).1 1 → number_of f (head_move f (at i)) ≡ 0 → ⊥
  nobody_there none accepted =
      let named = accepted_named f (at i) (kind-in i h) accepted in
      let m = ap (λ (a : Aircraft). a.number) none in
      omega arith

  -- somebody: its step, and whether it is accepted
  module _ {a : Aircraft} (named : a ≡ aircraft_at f (at i).1 1) where
    abbrev asked : Aircraft → Request
    asked b = record { kind = (at i).0; side = 0; number = b.number; amount = 0; desk = b.desk }

    module _ {s : Stepped} (e : s ≡ step_of f (asked a)) where
      number-here : s.answer.number ≡ number_of f (head_move f (at i))
      number-here = ap (λ (x : Stepped). x.answer.number) e ∙ number_is f (asked a) ∙ ap (λ (b : Aircraft). number_of f (asked b)) named

      played : s.answer.number ≡ 0 → ◌≡◌ {A = Pressed} (record { proposal = Play (asked a); stepped = s }) (pressed_by f (first_accepted f (drop i candidates)))
      played accepted =
          (λ j. record { proposal = Play (asked a); stepped = e j }) ∙ ap (λ (b : Aircraft). pressed_by f (Play (asked b))) named
          ∙ ap (pressed_by f)
          (sym (ap (first_accepted f) (candidate-at i h) ∙ first_yes f (at i) (drop (i + 1) candidates) (sym number-here ∙ accepted)))

pub loop-kind-init : goal.loop-kind-init
loop-kind-init c = refl

pub loop-kind-preserved-in_default : goal.loop-kind-preserved-in_default
loop-kind-preserved-in_default c =
    let f = c.args.f in
    let h = c.loop-kind-test.true in
    let none = head_is f (field_known f c.well_formed.0) _ h _ c.queue.ensures (ap option_copied (sym c.in_default.is) ∙ c.first.ensures.value) in
    sym (passed_over f _ h (nobody_there f _ h none)) ∙ c.loop-kind.invariant

pub returns-then-stepped-eq0 : goal.returns-then-stepped-eq0
returns-then-stepped-eq0 c =
    let f = c.args.f in
    let h = c.loop-kind-test.true in
    let named = head_is f (field_known f c.well_formed.0) _ h _ c.queue.ensures (ap option_copied (sym c.in-Some.is) ∙ c.first.ensures.value) in
    played f _ h named c.step_within-stepped.ensures c.if-stepped-eq0.true ∙ ap (pressed_by f) c.loop-kind.invariant

pub loop-kind-preserved : goal.loop-kind-preserved
loop-kind-preserved c =
    let f = c.args.f in
    let h = c.loop-kind-test.true in
    let named = head_is f (field_known f c.well_formed.0) _ h _ c.queue.ensures (ap option_copied (sym c.in-Some.is) ∙ c.first.ensures.value) in
    sym (passed_over f _ h (λ z. c.if-stepped-eq0.false (number-here f _ h named c.step_within-stepped.ensures ∙ z))) ∙ c.loop-kind.invariant

pub returns : goal.returns
unfolding candidates
returns c =
    let last : c.loop-kind.kind-index ≡ 13 = omega arith in
    c.tick_or_none.ensures ∙ ap (λ (i : ℕ). pressed_by c.args.f (first_accepted c.args.f (drop i candidates))) (sym last) ∙ ap (pressed_by c.args.f) c.loop-kind.invariant
