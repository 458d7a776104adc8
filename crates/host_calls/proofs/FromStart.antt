-- From a history that calls may start from, any list of a host's calls that go on amounts to a list of requests and steps back, and what holds of those holds of it: with
-- demand 3, no 25, and a button that empties the field. Assumes nothing.
use mathlib.Core.Path.{◌≡◌, refl, sym, ap, subst⁻¹, ◌∙◌}
use mathlib.Core.Bool.{Bool, true, cond, not, ◌||◌}
use mathlib.Core.List.{List, [], ◌∷◌, ◌++◌, map}
use Prim.Native.Nat.{ℕ, ◌≤◌}
use native.Mathlib.Omega.{arith}
use lib.Dec.{T, eqb}
use lib.ListN.{length}
use lib.Ieee.Fits.{and_i, and_l, and_r}
use borrow.Author.Tests.{ne_eqb}
use Rattle.limits.specs.Limits.{most_moves, most_ticks, most_presses, most_kept}
use Rattle.request.specs.declared.Request.{Request}
use Rattle.practice.specs.File.{legs_allowed}
use Rattle.playing.specs.Playing.{legs_in_miles}
use Rattle.playing.proofs.PlayedFiles.{file_legs_legal}
use Rattle.field.specs.declared.Field.{Field}
use Rattle.field.specs.Lists.{every}
use Rattle.field.proofs.TestLaws.{fail, failed, either_way, if_false}
use Rattle.questions.specs.Counts.{present_on}
use Rattle.bounds.specs.Bounds.{within_bounds}
use Rattle.rules.specs.Step.{number_and_zeros}
use Rattle.rules.specs.Play.{played, moves}
use Rattle.rules.specs.Reason.{Sound}
use Rattle.reason.proofs.Reason.{start_sound}
use Rattle.history.specs.declared.History.{History}
use Rattle.history.specs.History.{start_of, history_at_start, within_bounds_history}
use Rattle.press.specs.declared.Proposal.{Proposal}
use Rattle.press.specs.declared.Proposal.TheVariants.{Refused, None, Play}
use Rattle.press.specs.declared.Ending.{Ending}
use Rattle.press.specs.declared.Ending.TheVariants as ending
use Rattle.press.specs.HeldDown.{then_pressed, held_requests, ending_number}
use Rattle.press_kept.specs.PressKept.{proposal_kept, played_kept, press_kept, presses_kept, held_kept}
use Rattle.emptied.specs.Emptied.{ticks_in_a_row, EmptiedOn}
use Rattle.emptied.proofs.Emptying.{emptied}
use Rattle.gaps.specs.declared.Spacings.{Spacings}
use Rattle.gaps.specs.Gaps as gaps
use Rattle.gaps.specs.Gaps.{legal_spacing, gaps_of}
use Rattle.dialect.specs.declared.Listing.{Listing}
use Rattle.dialect.specs.Going as going
use Rattle.dialect.specs.Going.{in_dialect, list_of}
use Rattle.dialect_field.specs.Coming.{field_of_list}
use Rattle.finder.specs.Finder.{within_bounds_indexed}
use Rattle.taken_back.specs.Calls as calls
use Rattle.taken_back.specs.Calls.{Call, called, after_calls, history_of}
use Rattle.taken_back.specs.TakenBack.{Follows}
use Rattle.taken_back.proofs.Starts.{starts, start_at_start}
use Rattle.taken_back.proofs.Calls.{bounded, taken_back, one_call}
use Rattle.taken_back.proofs.Follows.{field_now}
use Rattle.host.specs.Calls.{spacings_of, listing_of}
use Rattle.host.specs.Calls.{HostCall, start, ask, back, press, hold_down, spaced, listed, built_from}
use Rattle.host.specs.Calls.{reply_of, left_by}
use Rattle.host_calls.specs.HostCalls.{left_by_all}
use Rattle.host_calls.specs.FromStart.{goes_on, calls_of, all_calls_of, builds_field, only_fields_reply, EmptiedKept, FromStart, StartAccepted}
use Rattle.host_calls.proofs.Button.{asked_calls, presses_same, held_same}

-- ---- a call as requests and steps back

played_calls_lem : (h : History) (p : Proposal) → (played_kept h p).after ≡ after_calls h (map calls.request (then_pressed p (λ r. [])))
played_calls_lem h Refused = refl
played_calls_lem h None = refl
played_calls_lem h (Play r) = refl

left_calls : (h : History) (c : HostCall) → T (goes_on c) → left_by h c ≡ after_calls h (calls_of h c)
unfolding press_kept presses_kept held_kept
left_calls h (start legs) t = ap (λ (b : Bool). cond (eqb (cond b 0 7) 0) (start_of (legs_in_miles legs)) h) (failed {b = legs_allowed legs} t)
left_calls h (ask r) t = refl
left_calls h (back desk) t = refl
left_calls h press t = played_calls_lem h (proposal_kept h)
left_calls h hold_down t = asked_calls h (presses_kept most_presses h)
left_calls h (spaced n) t = refl
left_calls h listed t = refl
left_calls h (built_from legs speed bytes) t = if_false _ _ (failed {b = eqb (field_of_list legs speed bytes).number 0} t)

calls_behind : (h : History) (cs ds : List Call) → after_calls h (cs ++ ds) ≡ after_calls (after_calls h cs) ds
calls_behind h [] ds = refl
calls_behind h (c ∷ cs) ds = calls_behind (called h c).after cs ds

pub all_calls : (h : History) (cs : List HostCall) → T (every goes_on cs) → left_by_all h cs ≡ after_calls h (all_calls_of h cs)
all_calls h [] t = refl
all_calls h (c ∷ cs) t =
    let rest = all_calls_of (left_by h c) cs in
    all_calls (left_by h c) cs (and_r (goes_on c) (every goes_on cs) t)
    ∙ ap (λ (g : History). after_calls g rest) (left_calls h c (and_l (goes_on c) (every goes_on cs) t))
    ∙ sym (calls_behind h (calls_of h c) rest)

-- ---- 25 never comes

end_not_25 : (e : Ending) → ending_number e ≡ 25 → ⊥
end_not_25 ending.Refused e = omega (arith, e)
end_not_25 ending.None e = omega (arith, e)
end_not_25 ending.Spent e = omega (arith, e)

spacing_not_25 : (h : History) (n : ℕ) → (spacings_of h n).number ≡ 25 → ⊥
unfolding spacings_of gaps_of gaps.pairs_listed gaps.spacing_refused
spacing_not_25 h n =
    let Not : Spacings → Type 0 = λ s. s.number ≡ 25 → ⊥ in
    either_way Not (legal_spacing n) _ _
    (λ e. either_way Not (within_bounds_history h) _ _
    (λ e. either_way Not (legal_spacing n) _ _ (λ e. either_way Not (within_bounds h.now.field) _ _ (λ e q. omega (arith, q)) (λ e q. omega (arith, q))) (λ e q. omega (arith, q)))
    (λ e q. omega (arith, q)))
    (λ e q. omega (arith, q))

list_not_25 : (h : History) → (listing_of h).number ≡ 25 → ⊥
unfolding listing_of list_of going.entries_listed going.list_refused
list_not_25 h =
    let Not : Listing → Type 0 = λ l. l.number ≡ 25 → ⊥ in
    either_way Not (within_bounds_history h) _ _
    (λ e. either_way Not (within_bounds_indexed h.now) _ _ (λ e. either_way Not (in_dialect h.now.field) _ _ (λ e q. omega (arith, q)) (λ e q. omega (arith, q))) (λ e q. omega (arith, q)))
    (λ e q. omega (arith, q))

not_25 : {n : ℕ} → (n ≡ 25 → ⊥) → T (not (eqb n 25))
not_25 e = fail (ne_eqb _ _ e)

module _ (empty : Field) (sound : Sound empty) where
  -- on a history that follows
  played_not_25 : (h : History) (rs : List Request) → Follows empty h rs → (p : Proposal) → (played_kept h p).answer.number ≡ 25 → ⊥
  unfolding number_and_zeros
  played_not_25 h rs q Refused e = omega (arith, e)
  played_not_25 h rs q None e = omega (arith, e)
  played_not_25 h rs q (Play r) e = (one_call empty sound h rs q (calls.request r)).not_25 e

  answer_not_25 : (h : History) (rs : List Request) → Follows empty h rs → (c : HostCall) → T (builds_field c || not (eqb (reply_of h c).number 25))
  unfolding press_kept
  answer_not_25 h rs q (start other) = not_25 (either_way (λ (n : ℕ). n ≡ 25 → ⊥) (legs_allowed other) 0 7 (λ e z. omega (arith, z)) (λ e z. omega (arith, z)))
  answer_not_25 h rs q (ask r) = not_25 (one_call empty sound h rs q (calls.request r)).not_25
  answer_not_25 h rs q (back desk) = not_25 (one_call empty sound h rs q (calls.back desk)).not_25
  answer_not_25 h rs q press = not_25 (played_not_25 h rs q (proposal_kept h))
  answer_not_25 h rs q hold_down = not_25 (end_not_25 (held_kept h).ending)
  answer_not_25 h rs q (spaced n) = not_25 (spacing_not_25 h n)
  answer_not_25 h rs q listed = not_25 (list_not_25 h)
  answer_not_25 h rs q (built_from other speed bytes) = tt

-- the requests and steps back that have gone before
never_25 : (first : History) → T (history_at_start first) → (before : List Call) (h : History) → h ≡ after_calls first before
    → (cs : List HostCall) → T (every goes_on cs) → T (only_fields_reply 25 h cs)
never_25 first p before h e [] t = tt
never_25 first p before h e (c ∷ cs) t =
    let f = first.now.field in
    let on = and_l (goes_on c) (every goes_on cs) t in
    let follows = subst⁻¹ (λ (g : History). Follows f g (history_of first before)) e (taken_back first p before).follows in
    let next : left_by h c ≡ after_calls first (before ++ calls_of h c) =
    left_calls h c on ∙ ap (λ (g : History). after_calls g (calls_of h c)) e ∙ sym (calls_behind first before (calls_of h c)) in
    and_i (builds_field c || not (eqb (reply_of h c).number 25)) (only_fields_reply 25 (left_by h c) cs)
    (answer_not_25 f (start_sound f (starts first p).empty) h (history_of first before) follows c)
    (never_25 first p (before ++ calls_of h c) (left_by h c) next cs (and_r (goes_on c) (every goes_on cs) t))

-- ---- what holds from a start

-- the button on a history is the button on its field
emptied_kept : (h : History) → length h.kept ≡ most_kept → within_bounds_history h ≡ true → EmptiedOn h.now.field → EmptiedKept h
unfolding held_requests
emptied_kept h k w e =
    let f = h.now.field in
    let held = held_same h k w in
    let same : presses_kept most_presses h ≡ held_requests f = presses_same most_presses h k w in
    record {
      ending = held.ending ∙ e.ending;
      nobody = ap present_on held.field ∙ e.nobody;
      few = subst⁻¹ (λ (n : ℕ). n ≤ most_presses) held.played e.few;
      few_moves = subst⁻¹ (λ (rs : List Request). moves (played f rs) ≤ most_moves) same e.few_moves;
      few_ticks = subst⁻¹ (λ (rs : List Request). ticks_in_a_row rs ≤ most_ticks) same e.few_ticks;
    }

pub from_start : FromStart
from_start first p cs t =
    let f = first.now.field in
    let empty = (starts first p).empty in
    let g = left_by_all first cs in
    let calls = all_calls_of first cs in
    let rs = history_of first calls in
    let same = all_calls first cs t in
    let kept = taken_back first p calls in
    let follows : Follows f g rs = subst⁻¹ (λ (h : History). Follows f h rs) same kept.follows in
    let within = bounded f (start_sound f empty) g rs follows in
    record {
      same = same;
      taken_back = kept;
      no_25 = never_25 first p [] first refl cs t;
      emptied = emptied_kept g follows.places within (subst⁻¹ EmptiedOn (field_now f g rs follows) (emptied f empty rs));
    }

-- an accepted start leaves a history to start from
pub start_accepted : StartAccepted
start_accepted legs e = start_at_start (legs_in_miles legs) (file_legs_legal legs e)
