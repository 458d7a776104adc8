-- What a host's program calls on a state that it lends as bytes (include/baguymo.h): the start (01), a request, a step back (02, 2.13), the button (02, 2.6),
-- the spacing and the classroom dialect; and of each call what it replies and what it leaves, on the history and on the bytes. Definitions only.
use Rattle.std.specs.Prelude.{cond, List, [], ℕ, eqb, Float}
use Rattle.request.specs.declared.Request.{Request}
use Rattle.practice.specs.declared.FileLegs.{FileLegs}
use Rattle.practice.specs.File.{legs_allowed}
use Rattle.playing.specs.Playing.{legs_in_miles}
use Rattle.history.specs.declared.History.{History}
use Rattle.history.specs.History.{start_with, start_of, within_bounds_history, step_history, step_back}
use Rattle.press_kept.specs.PressKept.{press_kept, held_kept}
use Rattle.gaps.specs.declared.Spacings.{Spacings}
use Rattle.gaps.specs.Gaps as gaps
use Rattle.gaps.specs.Gaps.{legal_spacing, gaps_of}
use Rattle.dialect.specs.declared.Listing.{Listing}
use Rattle.dialect.specs.Going as going
use Rattle.dialect.specs.Going.{list_of}
use Rattle.dialect_field.specs.Coming.{field_of_list}
use Rattle.layout.specs.Read.{read_history}
use Rattle.layout.specs.Written.{state_after}
use Rattle.replies.specs.Replies.{answer_numbers, request_numbers, held_numbers, pair_gaps, spacing_numbers, listing_numbers}
use Rattle.press.specs.HeldDown.{ending_number}

-- ---- the start (01)

-- 7 for a leg that is not 1 to 4096 64ths of a mile, else 0
abbrev pub start_number : FileLegs → ℕ
start_number legs = cond (legs_allowed legs) 0 7

-- ---- the spacing (02, 2.8)

-- the spacing of the pairs on the field; 10 also where a kept field breaks a bound
unfoldable pub spacings_of : History → ℕ → Spacings
spacings_of h spacing = cond (legal_spacing spacing) (cond (within_bounds_history h) (gaps_of h.now.field spacing) (gaps.spacing_refused 10)) (gaps.spacing_refused 4)

-- ---- the classroom dialect (02, 2.12)

-- the field as a list; 10 also where a kept field breaks a bound
unfoldable pub listing_of : History → Listing
listing_of h = cond (within_bounds_history h) (list_of h.now) (going.list_refused 10)

-- ---- the eight calls

-- a start with four legs, a request, a step back by a desk, a press, the button held down, the spacing with its 64ths of a mile, the list of the field, and
-- the field of a list with four legs and a speed
pub data HostCall : Type 0 where
  start : FileLegs → HostCall
  ask : Request → HostCall
  back : ℕ → HostCall
  press : HostCall
  hold_down : HostCall
  spaced : ℕ → HostCall
  listed : HostCall
  built_from : FileLegs → ℕ → List ℕ → HostCall

-- what a call returns, and what it puts into the memory that it is lent beside the state: of a press the request that it plays, the numbers of its answer,
-- and gaps in miles
pub record Reply : Type 0 where
  pub number : ℕ
  pub request : List ℕ
  pub numbers : List ℕ
  pub gaps : List Float

-- a reply that is a number and nothing beside it
abbrev pub number_alone : ℕ → Reply
number_alone n = record { number = n; request = []; numbers = []; gaps = [] }

-- ---- on a history

-- what a call replies
abbrev pub reply_of : History → HostCall → Reply
reply_of h (start legs) = number_alone (start_number legs)
reply_of h (ask r) = let a = (step_history h r).answer in record { number = a.number; request = []; numbers = answer_numbers a; gaps = [] }
reply_of h (back desk) = number_alone (step_back h desk).answer.number
reply_of h press =
    let p = press_kept h in
    let a = p.stepped.answer in
    record { number = a.number; request = request_numbers p.proposal; numbers = answer_numbers a; gaps = [] }
reply_of h hold_down =
    let k = held_kept h in
    record { number = ending_number k.ending; request = []; numbers = held_numbers k.played k.ending; gaps = [] }
reply_of h (spaced n) = let s = spacings_of h n in record { number = s.number; request = []; numbers = spacing_numbers s; gaps = pair_gaps s.pairs }
reply_of h listed = let l = listing_of h in record { number = l.number; request = []; numbers = listing_numbers l; gaps = [] }
reply_of h (built_from legs speed bytes) = number_alone (field_of_list legs speed bytes).number

-- what it leaves: an accepted start or field begins anew, with no field kept (02, 2.13); the spacing and the list only read; the others leave what
-- `step_history`, `step_back`, `press_kept` and `held_kept` leave
abbrev pub left_by : History → HostCall → History
left_by h (start legs) = cond (eqb (start_number legs) 0) (start_of (legs_in_miles legs)) h
left_by h (ask r) = (step_history h r).after
left_by h (back desk) = (step_back h desk).after
left_by h press = (press_kept h).stepped.after
left_by h hold_down = (held_kept h).after
left_by h (spaced n) = h
left_by h listed = h
left_by h (built_from legs speed bytes) = cond (eqb (field_of_list legs speed bytes).number 0) (start_with (field_of_list legs speed bytes).after) h

-- ---- on the bytes of a state

-- what a call replies: what it replies on the history that the bytes are read as
abbrev pub reply_on : List ℕ → HostCall → Reply
reply_on state c = reply_of (read_history state) c

-- what a call leaves, as bytes; where it is refused, the bytes as they were; a press that says none is accepted, and so writes what was read
abbrev pub left_as_bytes : List ℕ → HostCall → List ℕ
left_as_bytes state c = state_after state (reply_on state c).number (left_by (read_history state) c)

-- the bytes after a call: the spacing and the list only read them
abbrev pub bytes_left : List ℕ → HostCall → List ℕ
bytes_left state (start legs) = left_as_bytes state (start legs)
bytes_left state (ask r) = left_as_bytes state (ask r)
bytes_left state (back desk) = left_as_bytes state (back desk)
bytes_left state press = left_as_bytes state press
bytes_left state hold_down = left_as_bytes state hold_down
bytes_left state (spaced n) = state
bytes_left state listed = state
bytes_left state (built_from legs speed bytes) = left_as_bytes state (built_from legs speed bytes)
