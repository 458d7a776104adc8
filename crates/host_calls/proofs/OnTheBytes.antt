-- Any list of a host's calls on the bytes of a history is that on the history. Assumes nothing.
use mathlib.Core.Path.{◌≡◌, refl, sym, ap, ◌∙◌}
use mathlib.Core.Logic.{inl, inr}
use mathlib.Core.Bool.{Bool, true, false, cond}
use mathlib.Core.List.{List, [], ◌∷◌}
use Prim.Native.Nat.{ℕ}
use lib.Dec.{eqb}
use lib.ListN.{length}
use borrow.Author.Tests.{eqb-false}
use Rattle.limits.specs.Limits.{most_presses}
use Rattle.practice.specs.declared.FileLegs.{FileLegs}
use Rattle.practice.specs.File.{legs_allowed}
use Rattle.playing.specs.Playing.{legs_in_miles}
use Rattle.field.specs.declared.Field.{Field}
use Rattle.field.proofs.TestLaws.{decided, either_way, if_true, if_false}
use Rattle.questions.specs.Counts.{present_on}
use Rattle.history.specs.declared.History.{History}
use Rattle.history.specs.History.{start_with, start_of, within_bounds_history, step_history, step_back}
use Rattle.rules.specs.Step.{number_and_zeros}
use Rattle.press.specs.declared.Proposal.{Proposal}
use Rattle.press.specs.declared.Proposal.TheVariants.{Refused, None, Play}
use Rattle.press.specs.declared.Ending.{Ending}
use Rattle.press.specs.declared.Ending.TheVariants as ending
use Rattle.press.specs.HeldDown.{then_pressed, ending_on, ending_number}
use Rattle.press_kept.specs.PressKept.{proposal_kept, played_kept, press_kept, presses_kept, after_asked, ending_kept, held_kept}
use Rattle.press_kept.proofs.PressingKept.{kept_refused, asked_none, presses_ended}
use Rattle.dialect_field.specs.Coming.{field_of_list}
use Rattle.taken_back.specs.Calls.{Call, request, back, called}
use Rattle.taken_back.proofs.GivenBack.{nothing_changed}
use Rattle.layout.specs.Read.{read_history}
use Rattle.layout.specs.Written.{history_bytes, state_after}
use Rattle.layout.specs.Held.{HistoryHeld}
use Rattle.layout.proofs.PartSizes.{state_size_lem}
use Rattle.layout.proofs.HistoryReadBack.{state_read_back}
use Rattle.layout.proofs.CallsReadBack.{start_held, legs_in_64ths_held}
use Rattle.host.specs.Calls.{start_number, reply_of, left_by, reply_on, bytes_left}
use Rattle.host.specs.Calls.{HostCall, start, ask, back as stepBackBy, press, hold_down, spaced, listed, built_from}
use Rattle.host_calls.specs.HostCalls.{replies_of, left_by_all, replies_on, bytes_left_by_all, OnTheBytes}
use Rattle.host_calls.proofs.Held.{left_held, all_held}

-- ---- one call

-- what begins anew, or leaves the state
begun : (test : Bool) (h g read : History) → cond test (history_bytes (cond test g read)) (history_bytes h) ≡ history_bytes (cond test g h)
begun true h g read = refl
begun false h g read = refl

-- a request or a step back: one that is refused leaves the history
called_bytes : (h : History) (c : Call) → state_after (history_bytes h) (called h c).answer.number (called h c).after ≡ history_bytes (called h c).after
called_bytes h c =
    elim (decided (eqb (called h c).answer.number 0)) [
      | inl e ↦ if_true _ _ e
      | inr e ↦ if_false _ _ e ∙ sym (ap history_bytes (nothing_changed h c (eqb-false _ 0 e)).same)
    ]

-- a press
played_bytes : (h : History) (p : Proposal) → state_after (history_bytes h) (played_kept h p).answer.number (played_kept h p).after ≡ history_bytes (played_kept h p).after
unfolding number_and_zeros
played_bytes h Refused = refl
played_bytes h None = refl
played_bytes h (Play r) = called_bytes h (request r)

-- the button held down: where the bounds are broken it plays nothing
pub ended_0 : (f : Field) → ending_number (ending_on f) ≡ 0
ended_0 f = either_way (λ (e : Ending). ending_number e ≡ 0) (eqb (present_on f) 0) ending.None ending.Spent (λ e. refl) (λ e. refl)

none_played : (h : History) → within_bounds_history h ≡ false → after_asked h (presses_kept most_presses h) ≡ h
none_played h w =
    ap (after_asked h) (presses_ended most_presses h (λ others. ap (λ (p : Proposal). then_pressed p others) (sym (kept_refused h w)))) ∙ asked_none h

held_bytes : (h : History) → state_after (history_bytes h) (ending_number (held_kept h).ending) (held_kept h).after ≡ history_bytes (held_kept h).after
unfolding held_kept
held_bytes h =
    let after = after_asked h (presses_kept most_presses h) in
    elim (decided (within_bounds_history h)) [
      | inl w ↦
          ap (λ (b : Bool). state_after (history_bytes h) (ending_number (ending_kept b after.now.field)) after) w
          ∙ ap (λ (n : ℕ). state_after (history_bytes h) n after) (ended_0 after.now.field)
      | inr w ↦ ap (λ (b : Bool). state_after (history_bytes h) (ending_number (ending_kept b after.now.field)) after) w ∙ sym (ap history_bytes (none_played h w))
    ]

left_bytes : (h : History) (c : HostCall) → HistoryHeld h → bytes_left (history_bytes h) c ≡ history_bytes (left_by h c)
unfolding press_kept
left_bytes h (start legs) k = begun (eqb (start_number legs) 0) h (start_of (legs_in_miles legs)) (read_history (history_bytes h))
left_bytes h (ask r) k = ap (λ (g : History). state_after (history_bytes h) (step_history g r).answer.number (step_history g r).after) (state_read_back h k) ∙ called_bytes h (request r)
left_bytes h (stepBackBy desk) k = ap (λ (g : History). state_after (history_bytes h) (step_back g desk).answer.number (step_back g desk).after) (state_read_back h k) ∙ called_bytes h (back desk)
left_bytes h press k =
    ap (λ (g : History). let s = played_kept g (proposal_kept g) in state_after (history_bytes h) s.answer.number s.after) (state_read_back h k) ∙ played_bytes h (proposal_kept h)
left_bytes h hold_down k = ap (λ (g : History). state_after (history_bytes h) (ending_number (held_kept g).ending) (held_kept g).after) (state_read_back h k) ∙ held_bytes h
left_bytes h (spaced n) k = refl
left_bytes h listed k = refl
left_bytes h (built_from legs speed bytes) k = begun (eqb (field_of_list legs speed bytes).number 0) h (start_with (field_of_list legs speed bytes).after) (read_history (history_bytes h))

reply_same : (h : History) (c : HostCall) → HistoryHeld h → reply_on (history_bytes h) c ≡ reply_of h c
reply_same h c k = ap (λ (g : History). reply_of g c) (state_read_back h k)

-- ---- any list

replies_same : (h : History) (cs : List HostCall) → HistoryHeld h → replies_on (history_bytes h) cs ≡ replies_of h cs
replies_same h [] k = refl
replies_same h (c ∷ cs) k =
    let rest = ap (λ (b : List ℕ). replies_on b cs) (left_bytes h c k) ∙ replies_same (left_by h c) cs (left_held h c k) in
    λ i. reply_same h c k i ∷ rest i

bytes_same : (h : History) (cs : List HostCall) → HistoryHeld h → bytes_left_by_all (history_bytes h) cs ≡ history_bytes (left_by_all h cs)
bytes_same h [] k = refl
bytes_same h (c ∷ cs) k = ap (λ (b : List ℕ). bytes_left_by_all b cs) (left_bytes h c k) ∙ bytes_same (left_by h c) cs (left_held h c k)

pub on_the_bytes : (h : History) (cs : List HostCall) → HistoryHeld h → OnTheBytes h cs
on_the_bytes h cs k =
    let e = bytes_same h cs k in
    let q = all_held h cs k in
    record { replies = replies_same h cs k; bytes = e; size = ap length e ∙ state_size_lem (left_by_all h cs) q; state = ap read_history e ∙ state_read_back (left_by_all h cs) q }

-- an accepted start writes the bytes of the start, whatever stood there; from there on, any list
pub started : (b : List ℕ) (legs : FileLegs) → legs_allowed legs ≡ true → bytes_left b (start legs) ≡ history_bytes (start_of (legs_in_miles legs))
started b legs e = ap (λ (n : ℕ). state_after b n (cond (eqb n 0) (start_of (legs_in_miles legs)) (read_history b))) (if_true 0 7 e)

pub on_the_bytes_from_start : (legs : FileLegs) (cs : List HostCall) → OnTheBytes (start_of (legs_in_miles legs)) cs
on_the_bytes_from_start legs cs =
    on_the_bytes (start_of (legs_in_miles legs)) cs (start_held (legs_in_miles legs) (legs_in_64ths_held legs.missed legs.base legs.intermediate legs.final_approach))

-- two histories with the same bytes are the same
pub same_state : (h g : History) → HistoryHeld h → HistoryHeld g → history_bytes h ≡ history_bytes g → h ≡ g
same_state h g p q e = sym (state_read_back h p) ∙ ap read_history e ∙ state_read_back g q
