-- A field within the bounds on which the button ends spent: nobody can move on it, and a tick moves nobody. Assumes nothing.
use mathlib.Core.Path.{◌≡◌, sym, ap, ◌∙◌}
use mathlib.Core.Bool.{Bool, not, ◌&&◌}
use mathlib.Core.List.{List, [], ◌∷◌}
use Prim.Native.Nat.{ℕ, zero, suc}
use native.Mathlib.Omega.{arith}
use lib.Dec.{T, eqb, leb, leb→le}
use lib.Ieee.Fits.{and_l, and_r}
use lib.ListN.{length}
use borrow.Author.Tests.{eqb-false, ne_eqb}
use Rattle.limits.specs.Limits.{most_presses}
use Rattle.request.specs.Input.{within}
use Rattle.field.specs.declared.Field.{Field}
use Rattle.field.specs.Airspace.{everywhere}
use Rattle.field.specs.Lists.{every}
use Rattle.field.proofs.TestLaws.{failed, if_false, every_from}
use Rattle.questions.specs.Counts.{present_on}
use Rattle.rules.specs.Step.{step_of}
use Rattle.rules.specs.Play.{field_after}
use Rattle.rules.specs.Examples.{head_asks, stuck, NobodyMoves}
use Rattle.rules.proofs.Cases.{nobody_moves}
use Rattle.rules.proofs.StepLaws.{number_is}
use Rattle.press.specs.declared.Proposal.TheVariants.{None, Play}
use Rattle.press.specs.declared.Ending.TheVariants as ending
use Rattle.press.specs.declared.Held.{Held}
use Rattle.press.specs.Press.{candidates, head_move, long_tick, first_accepted, proposal_of}
use Rattle.press.specs.HeldDown.{presses, held_requests, held_of}
use Rattle.press.proofs.Proposals.{first_no, proposal_is}
use Rattle.press.proofs.Pressing.{presses_none, presses_play, held_is}
use Rattle.emptied.specs.Emptied.{SpentOn}

module _ (f : Field) (still : NobodyMoves f) where
  -- a candidate: its kind is from 3 to 11, and its zone is one of the thirteen
  abbrev is_move : ℕ × ℕ → Bool
  is_move c = within 3 11 c.0 && within 1 13 c.1

  refused : (c : ℕ × ℕ) → T (is_move c) → (step_of f (head_move f c)).answer.number ≡ 0 → ⊥
  refused c t =
      let k = and_l (within 3 11 c.0) (within 1 13 c.1) t in
      let z = and_r (within 3 11 c.0) (within 1 13 c.1) t in
      let kl = leb→le 3 c.0 (and_l (leb 3 c.0) (leb c.0 11) k) in
      let kh = leb→le c.0 11 (and_r (leb 3 c.0) (leb c.0 11) k) in
      let zl = leb→le 1 c.1 (and_l (leb 1 c.1) (leb c.1 13) z) in
      let zh = leb→le c.1 13 (and_r (leb 1 c.1) (leb c.1 13) z) in
      let test : ℕ → ℕ → Bool = λ kind y. not (eqb (step_of f (head_asks f kind y)).answer.number 0) in
      let here = every_from (test c.0) 1 13 (every_from (λ kind. every (test kind) everywhere) 3 9 still.none_accepted c.0 kl (omega arith)) c.1 zl (omega arith) in
      eqb-false (step_of f (head_move f c)).answer.number 0 (failed here)

  ticks : (cs : List (ℕ × ℕ)) → T (every is_move cs) → first_accepted f cs ≡ Play long_tick
  ticks [] t = if_false None (Play long_tick) (ne_eqb (present_on f) 0 (λ e. let n = still.two_present in omega arith))
  ticks (c ∷ cs) t = first_no f c cs (λ e. refused c (and_l (is_move c) (every is_move cs) t) (number_is f (head_move f c) ∙ e)) ∙ ticks cs (and_r (is_move c) (every is_move cs) t)

  all_moves : T (every is_move candidates)
  unfolding candidates
  all_moves = tt

  -- so every press ticks, and nothing changes
  press_ticks : proposal_of f ≡ Play long_tick
  press_ticks = proposal_is f still.within_bounds_lem ∙ ticks candidates all_moves

  one_more : (n : ℕ) → presses (suc n) f ≡ long_tick ∷ presses n f
  one_more n = presses_play n f long_tick press_ticks ∙ ap (λ (g : Field). long_tick ∷ presses n g) still.tick_leaves

  as_many : (n : ℕ) → length (presses n f) ≡ n
  as_many zero = ap length (presses_none f)
  as_many (suc n) = ap length (one_more n) ∙ ap suc (as_many n)

  same_field : (n : ℕ) → field_after f (presses n f) ≡ f
  same_field zero = ap (field_after f) (presses_none f)
  same_field (suc n) = ap (field_after f) (one_more n) ∙ ap (λ (g : Field). field_after g (presses n f)) still.tick_leaves ∙ same_field n

  pub spent_on : SpentOn f
  unfolding held_requests
  spent_on =
      let present = if_false ending.None ending.Spent (ne_eqb (present_on f) 0 (λ e. let n = still.two_present in omega arith)) in
      let held : ◌≡◌ {A = Held} (record { ending = ending.Spent; played = most_presses; field = f }) (held_of f) =
      held_is f still.within_bounds_lem (sym present) (sym (as_many most_presses)) (sym (same_field most_presses)) in
      record {
        within_bounds_lem = still.within_bounds_lem;
        ending = sym (ap (λ (h : Held). h.ending) held);
        all_presses = sym (ap (λ (h : Held). h.played) held);
      }

-- the field of `nobody_moves`
pub stuck_spent : SpentOn stuck
stuck_spent = spent_on stuck nobody_moves
