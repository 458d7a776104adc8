-- The button on a field with its kept ones: what is proposed, what a press plays, and what is left of presses. Assumes nothing.
use mathlib.Core.Path.{◌≡◌, refl, sym, ap, ◌∙◌}
use mathlib.Core.Bool.{Bool, true, false, cond}
use mathlib.Core.List.{List, [], ◌∷◌}
use Prim.Native.Nat.{ℕ, zero, suc, ◌+◌, ◌<◌}
use native.Mathlib.Omega.{arith}
use lib.Dec.{eqb}
use lib.ListN.{length}
use Rattle.limits.specs.Limits.{most_presses}
use Rattle.field.proofs.TestLaws.{if_true, if_false}
use Rattle.request.specs.Input.{first_refused}
use Rattle.request.specs.declared.Request.{Request}
use Rattle.questions.specs.Counts.{present_on}
use Rattle.history.specs.declared.History.{History}
use Rattle.history.specs.declared.SteppedHistory.{SteppedHistory}
use Rattle.history.specs.History.{within_bounds_history, step_history}
use Rattle.press.specs.declared.Proposal.{Proposal}
use Rattle.press.specs.declared.Proposal.TheVariants.{Refused, Play}
use Rattle.press.specs.declared.Ending.{Ending}
use Rattle.press.specs.declared.Ending.TheVariants as ending
use Rattle.press.specs.Press.{proposal_of}
use Rattle.press.specs.HeldDown.{then_pressed, ending_number}
use Rattle.press_kept.specs.declared.PressedKept.{PressedKept}
use Rattle.press_kept.specs.declared.HeldKept.{HeldKept}
use Rattle.press_kept.specs.PressKept.{proposal_kept, played_kept, press_kept, presses_kept, after_asked, number_held_kept, ending_kept, held_kept}

-- ---- one press
pub kept_refused : (h : History) → within_bounds_history h ≡ false → Refused ≡ proposal_kept h
unfolding proposal_kept
kept_refused h e = sym (if_false _ _ e)

pub kept_proposed : (h : History) → within_bounds_history h ≡ true → proposal_of h.now.field ≡ proposal_kept h
unfolding proposal_kept
kept_proposed h e = sym (if_true _ _ e)

-- a press whose proposal is known
pub pressed_is : (h : History) (p : Proposal) {s : SteppedHistory} → p ≡ proposal_kept h → s ≡ played_kept h p → ◌≡◌ {A = PressedKept} (record { proposal = p; stepped = s }) (press_kept h)
unfolding press_kept
pressed_is h p {s} e g = ap (λ (x : SteppedHistory). record { proposal = p; stepped = x }) g ∙ ap (λ (q : Proposal). record { proposal = q; stepped = played_kept h q }) e

-- ---- the button held down: after i presses those that are left lead to the same end
pub record Pressing (first last : History) (i : ℕ) : Type 0 where
  pub left : ℕ
  pub total : i + left ≡ most_presses
  pub after : after_asked first (presses_kept most_presses first) ≡ after_asked last (presses_kept left last)
  pub count : length (presses_kept most_presses first) ≡ i + length (presses_kept left last)

pub pressing_none : (h : History) → Pressing h h 0
pressing_none h = record { left = most_presses; total = omega arith; after = refl; count = omega arith }

presses_more : (n : ℕ) (h : History) → presses_kept (suc n) h ≡ then_pressed (proposal_kept h) (λ r. presses_kept n (step_history h r).after)
unfolding presses_kept
presses_more n h = refl

asked_more : (h : History) (r : Request) (rs : List Request) → after_asked h (r ∷ rs) ≡ after_asked (step_history h r).after rs
unfolding after_asked
asked_more h r rs = refl

pub asked_none : (h : History) → after_asked h [] ≡ h
unfolding after_asked
asked_none h = refl

-- a press that plays a request
played_one : (n : ℕ) (h : History) (r : Request) → proposal_kept h ≡ Play r → presses_kept (suc n) h ≡ r ∷ presses_kept n (step_history h r).after
played_one n h r e = presses_more n h ∙ ap (λ (p : Proposal). then_pressed p (λ q. presses_kept n (step_history h q).after)) e

pub pressing_more : {first last : History} {i : ℕ} (r : Request) {s : SteppedHistory} → Pressing first last i → i < most_presses → proposal_kept last ≡ Play r → s ≡ step_history last r
    → Pressing first s.after (i + 1)
pressing_more {first} {last} {i} r {s} w h e g = go w.left w.total w.after w.count
  where
    go : (left : ℕ) → i + left ≡ most_presses → after_asked first (presses_kept most_presses first) ≡ after_asked last (presses_kept left last)
        → length (presses_kept most_presses first) ≡ i + length (presses_kept left last) → Pressing first s.after (i + 1)
    go zero t a c = absurd (omega arith)
    go (suc n) t a c =
        let one = played_one n last r e in
        let next = ap (λ (x : SteppedHistory). presses_kept n x.after) (sym g) in
        let l = ap length one in
        let k = ap length next in
        record {
          left = n;
          total = omega arith;
          after = a ∙ ap (after_asked last) one ∙ asked_more last r _ ∙ ap (λ (x : SteppedHistory). after_asked x.after (presses_kept n x.after)) (sym g);
          count = omega (arith, c, l, k);
        }

-- ---- where none is left
pub presses_none : (h : History) → presses_kept zero h ≡ []
unfolding presses_kept
presses_none h = refl

pub presses_ended : (n : ℕ) (h : History) → ((others : Request → List Request) → then_pressed (proposal_kept h) others ≡ []) → presses_kept n h ≡ []
presses_ended zero h e = presses_none h
presses_ended (suc n) h e = presses_more n h ∙ e _

-- the number of its ending
pub held_number : (h : History) → ending_number (held_kept h).ending ≡ number_held_kept h
unfolding held_kept
held_number h = go (within_bounds_history h) (eqb (present_on (after_asked h (presses_kept most_presses h)).now.field) 0)
  where
    go : (b c : Bool) → ending_number (cond b (cond c ending.None ending.Spent) ending.Refused) ≡ first_refused ((10, b) ∷ [])
    go true true = refl
    go true false = refl
    go false c = refl

pub held_is : {first last : History} {i : ℕ} {e : Ending} (w : Pressing first last i) → presses_kept w.left last ≡ [] → e ≡ ending_kept (within_bounds_history first) last.now.field
    → ◌≡◌ {A = HeldKept} (record { ending = e; played = i; after = last }) (held_kept first)
unfolding held_kept
held_is {first} {last} {i} {e} w none g =
    let end = after_asked first (presses_kept most_presses first) in
    let after : last ≡ end = sym (w.after ∙ ap (after_asked last) none ∙ asked_none last) in
    let l = ap length none in
    let count : i ≡ length (presses_kept most_presses first) = omega (arith, w.count, l) in
    ap (λ (x : Ending). record { ending = x; played = i; after = last }) g
    ∙ ap (λ (x : History). record { ending = ending_kept (within_bounds_history first) x.now.field; played = i; after = x }) after
    ∙ ap (λ (n : ℕ). record { ending = ending_kept (within_bounds_history first) end.now.field; played = n; after = end }) count

-- what is reported of it, and the number of its ending
pub reported : {first last : History} {i : ℕ} {e : Ending} (w : Pressing first last i) → presses_kept w.left last ≡ [] → e ≡ ending_kept (within_bounds_history first) last.now.field
    → (◌≡◌ {A = HeldKept} (record { ending = e; played = i; after = last }) (held_kept first)) × (ending_number e ≡ number_held_kept first)
reported w none g = let held = held_is w none g in (held, ap (λ (x : HeldKept). ending_number x.ending) held ∙ held_number _)
