-- Bytes put into a lent buffer. Definitions only.
use Rattle.std.specs.Prelude.{ℕ, suc, ◌≤◌, ◌≡◌, cond, List, [], ◌∷◌, ◌++◌, ltb, length, set, drop}

-- the buffer and the next place after bytes are put into it, one after the other; one that finds no room is left out
abbrev pub put : List ℕ → ℕ → List ℕ → List ℕ × ℕ
put buffer at [] = (buffer, at)
put buffer at (byte ∷ bytes) = put (set buffer at byte) (cond (ltb at (length buffer)) (suc at) at) bytes

-- the bytes are put into the buffer from a place on, and the next place is the one after them
pub record Put (before : List ℕ) (at : ℕ) (bytes : List ℕ) (after : List ℕ) (end : ℕ) : Type 0 where
  pub buffer : after ≡ (put before at bytes).0
  pub next : end ≡ (put before at bytes).1

-- how many bytes the caller's buffer has
abbrev pub room : ℕ
room = 131072

-- a report of n bytes is written: the buffer holds it, and after it what stood there before
pub record Written (report : List ℕ) (before : List ℕ) (n : ℕ) (after : List ℕ) : Type 0 where
  pub size : n ≡ length report
  pub buffer : after ≡ report ++ drop n before
  pub fits : n ≤ room
