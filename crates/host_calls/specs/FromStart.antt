-- A host's calls as requests and steps back (02, 2.13), so that what is proved of any list of those holds of any list of a host's calls. Definitions only.
use Rattle.std.specs.Prelude.{◌≡◌, Bool, true, false, not, ◌&&◌, ◌||◌, List, [], ◌∷◌, ◌++◌, map, ℕ, ◌≤◌, T, eqb}
use Rattle.limits.specs.Limits.{most_moves, most_ticks, most_presses}
use Rattle.request.specs.declared.Request.{Request}
use Rattle.practice.specs.declared.FileLegs.{FileLegs}
use Rattle.practice.specs.File.{legs_allowed}
use Rattle.playing.specs.Playing.{legs_in_miles}
use Rattle.field.specs.Lists.{every}
use Rattle.questions.specs.Counts.{present_on}
use Rattle.rules.specs.declared.Answer.{Answer}
use Rattle.rules.specs.Play.{field_after, played, moves}
use Rattle.demand.specs.Exact.{WholeLegs, in_miles, ExactOf}
use Rattle.gaps.specs.Gaps.{legal_spacing, gaps_of}
use Rattle.emptied.specs.Emptied.{ticks_in_a_row}
use Rattle.exact_gaps.specs.ExactGaps.{ExactGapsOf}
use Rattle.dialect_field.specs.Coming.{field_of_list}
use Rattle.history.specs.declared.History.{History}
use Rattle.history.specs.History.{start_of, history_at_start, within_bounds_history}
use Rattle.press.specs.declared.Ending.TheVariants as ending
use Rattle.press_kept.specs.PressKept.{presses_kept, held_kept}
use Rattle.taken_back.specs.Calls as calls
use Rattle.taken_back.specs.Calls.{Call, played_calls, after_calls, history_of}
use Rattle.taken_back.specs.TakenBack.{TakenBackOf}
use Rattle.replies.specs.Replies.{answer_numbers}
use Rattle.host.specs.Calls.{HostCall, start, ask, back, press, hold_down, spaced, listed, built_from, Reply, number_alone, spacings_of}
use Rattle.host.specs.Calls.{reply_of, left_by}
use Rattle.host_calls.specs.HostCalls.{replies_of, left_by_all}

-- ---- a call as requests and steps back

-- whether a call goes on from the state as it is: all but an accepted start and an accepted field, which begin anew
abbrev pub goes_on : HostCall → Bool
goes_on (start legs) = not (legs_allowed legs)
goes_on (ask r) = true
goes_on (back desk) = true
goes_on press = true
goes_on hold_down = true
goes_on (spaced n) = true
goes_on listed = true
goes_on (built_from legs speed bytes) = not (eqb (field_of_list legs speed bytes).number 0)

-- the requests and steps back that a call on a history is: of the button those that it plays (02, 2.6), of a call that only reads or is refused none
abbrev pub calls_of : History → HostCall → List Call
calls_of h (start legs) = []
calls_of h (ask r) = calls.request r ∷ []
calls_of h (back desk) = calls.back desk ∷ []
calls_of h press = map calls.request (presses_kept 1 h)
calls_of h hold_down = map calls.request (presses_kept most_presses h)
calls_of h (spaced n) = []
calls_of h listed = []
calls_of h (built_from legs speed bytes) = []

-- those of a list of calls
abbrev pub all_calls_of : History → List HostCall → List Call
all_calls_of h [] = []
all_calls_of h (c ∷ cs) = calls_of h c ++ all_calls_of (left_by h c) cs

-- ---- what holds of any list

-- no call replies the number
abbrev pub never_replied : ℕ → List Reply → Bool
never_replied number rs = every (λ (r : Reply). not (eqb r.number number)) rs

-- from a history within the bounds, whatever is called, starts and fields too: the bounds hold after it, and 10 never comes
pub record StaysWithin (h : History) (cs : List HostCall) : Type 0 where
  pub bounds : T (within_bounds_history (left_by_all h cs))
  pub no_10 : T (never_replied 10 (replies_of h cs))

-- whether a call builds the field of a list, which may be refused 25 (02, 2.12)
abbrev pub builds_field : HostCall → Bool
builds_field (start legs) = false
builds_field (ask r) = false
builds_field (back desk) = false
builds_field press = false
builds_field hold_down = false
builds_field (spaced n) = false
builds_field listed = false
builds_field (built_from legs speed bytes) = true

-- of the calls of a list only those that build a field may reply the number
abbrev pub only_fields_reply : ℕ → History → List HostCall → Bool
only_fields_reply number h [] = true
only_fields_reply number h (c ∷ cs) = (builds_field c || not (eqb (reply_of h c).number number)) && only_fields_reply number (left_by h c) cs

-- the button held down on a history: it empties the field and says none, within its bound (02, 2.6)
pub record EmptiedKept (h : History) : Type 0 where
  pub ending : (held_kept h).ending ≡ ending.None
  pub nobody : present_on (held_kept h).after.now.field ≡ 0
  -- that it plays no more than its bound follows from its definition
  pub few : (held_kept h).played ≤ most_presses
  -- of what it plays no more than 27 are moves (02, 2.14), each after no more than 8,192 ticks (02, 2.6 and 2.7)
  pub few_moves : moves (played h.now.field (presses_kept most_presses h)) ≤ most_moves
  pub few_ticks : ticks_in_a_row (presses_kept most_presses h) ≤ most_ticks

-- what holds after a list of calls from a start
pub record FromStartOf (first : History) (cs : List HostCall) : Type 0 where
  -- the history is that after a list of requests and steps back, ..
  pub same : left_by_all first cs ≡ after_calls first (all_calls_of first cs)
  -- .. of which everything holds that holds of any such list, demand 3 with it (02, 2.13)
  pub taken_back : TakenBackOf first (all_calls_of first cs)
  -- 25 never comes, but where a field is to be built
  pub no_25 : T (only_fields_reply 25 first cs)
  -- held down then, the button empties the field
  pub emptied : EmptiedKept (left_by_all first cs)

-- that holds of every list of calls that go on, from every history that calls may start from, ..
abbrev pub FromStart : Type 0
FromStart = (first : History) → T (history_at_start first) → (cs : List HostCall) → T (every goes_on cs) → FromStartOf first cs

-- .. of which the one that an accepted start leaves is one
abbrev pub StartAccepted : Type 0
StartAccepted = (legs : FileLegs) → legs_allowed legs ≡ true → T (history_at_start (start_of (legs_in_miles legs)))

-- the requests that are left of those calls
abbrev pub requests_left : History → List HostCall → List Request
requests_left first cs = history_of first (all_calls_of first cs)

-- what is exact after a list of calls from a start with legs in whole 64ths
pub record FromStartExactlyOf (w : WholeLegs) (first : History) (cs : List HostCall) : Type 0 where
  -- of everyone on the field that is left: miles, own legs and miles waited (01; 02, 2.2 and 2.7)
  pub exact : ExactOf w (played first.now.field (requests_left first cs)) (left_by_all first cs).now.field
  -- of each pair that a legal spacing asked then tells of (02, 2.8)
  pub spacing : (n : ℕ) → T (legal_spacing n) → spacings_of (left_by_all first cs) n ≡ gaps_of (field_after first.now.field (requests_left first cs)) n
  pub gaps : (n : ℕ) → T (legal_spacing n) → ExactGapsOf w first.now.field (requests_left first cs) n

-- that holds of every list of calls that go on, from every history that calls may start from whose legs are whole 64ths
abbrev pub FromStartExactly : Type 0
FromStartExactly =
    (w : WholeLegs) (first : History) → T (history_at_start first) → first.now.field.legs ≡ in_miles w
    → (cs : List HostCall) → T (every goes_on cs) → FromStartExactlyOf w first cs

-- ---- requests and steps back alone, and a start among other calls

-- a request or a step back as a host's call, ..
abbrev pub as_host_call : Call → HostCall
as_host_call (calls.request r) = ask r
as_host_call (calls.back desk) = back desk

-- .. and its answer as a reply
abbrev pub reply_to : Call × Answer → Reply
reply_to (calls.request r, a) = record { number = a.number; request = []; numbers = answer_numbers a; gaps = [] }
reply_to (calls.back desk, a) = number_alone a.number

-- on any history, a list of them has the answers that it has as requests and steps back, and leaves the same
pub record AsCalled (h : History) (cs : List Call) : Type 0 where
  pub replies : replies_of h (map as_host_call cs) ≡ map reply_to (played_calls h cs)
  pub left : left_by_all h (map as_host_call cs) ≡ after_calls h cs

-- an accepted start among other calls: those behind it are what they are from the start
pub record BegunAnew (h : History) (cs : List HostCall) (legs : FileLegs) (ds : List HostCall) : Type 0 where
  pub replies : replies_of h (cs ++ (start legs ∷ ds)) ≡ replies_of h cs ++ (number_alone 0 ∷ replies_of (start_of (legs_in_miles legs)) ds)
  pub left : left_by_all h (cs ++ (start legs ∷ ds)) ≡ left_by_all (start_of (legs_in_miles legs)) ds
