-- What a host's program calls on a state (include/baguymo.h), any list of the eight calls: on the bytes that it lends, and on the history that they are.
-- Definitions only.
use Rattle.std.specs.Prelude.{◌≡◌, List, [], ◌∷◌, ℕ, length}
use Rattle.history.specs.declared.History.{History}
use Rattle.layout.specs.Read.{state_size, read_history}
use Rattle.layout.specs.Written.{history_bytes}
use Rattle.host.specs.Calls.{HostCall, Reply, reply_of, left_by, reply_on, bytes_left}

-- ---- on a history

-- a list of calls, each on what the one before left: what each replies, ..
abbrev pub replies_of : History → List HostCall → List Reply
replies_of h [] = []
replies_of h (c ∷ cs) = reply_of h c ∷ replies_of (left_by h c) cs

-- .. and what the last left
abbrev pub left_by_all : History → List HostCall → History
left_by_all h [] = h
left_by_all h (c ∷ cs) = left_by_all (left_by h c) cs

-- ---- on the bytes that are lent: what the contracts of crates/host say of each call

-- a list of calls: what each replies on the bytes that the one before left, ..
abbrev pub replies_on : List ℕ → List HostCall → List Reply
replies_on b [] = []
replies_on b (c ∷ cs) = reply_on b c ∷ replies_on (bytes_left b c) cs

-- .. and the bytes that the last left
abbrev pub bytes_left_by_all : List ℕ → List HostCall → List ℕ
bytes_left_by_all b [] = b
bytes_left_by_all b (c ∷ cs) = bytes_left_by_all (bytes_left b c) cs

-- ---- the two are the same

-- calls on the bytes of a history are calls on the history: the replies, the bytes, as many as before, and the history read from them
pub record OnTheBytes (h : History) (cs : List HostCall) : Type 0 where
  pub replies : replies_on (history_bytes h) cs ≡ replies_of h cs
  pub bytes : bytes_left_by_all (history_bytes h) cs ≡ history_bytes (left_by_all h cs)
  pub size : length (bytes_left_by_all (history_bytes h) cs) ≡ state_size
  pub state : read_history (bytes_left_by_all (history_bytes h) cs) ≡ left_by_all h cs
