-- How a number that C hands over, of any width, is handed on as a part of 8 or 16 bits. Definitions only.
use Rattle.std.specs.Prelude.{ℕ, min, cond, leb}
use Rattle.request.specs.Input.{is_tick}

-- the largest numbers of 8 and of 16 bits
abbrev pub widest8 : ℕ
widest8 = 255

abbrev pub widest16 : ℕ
widest16 = 65535

-- a desk, a kind or a side: itself, or the largest of 8 bits where it is wider, which the rules of none of them allow
abbrev pub in8 : ℕ → ℕ
in8 n = min widest8 n

-- a leg, a speed, an amount or a spacing: itself, or the largest of 16 bits where it is wider, which the rules of none of them allow
abbrev pub in16 : ℕ → ℕ
in16 n = min widest16 n

-- an aircraft's number, of which all but 0 are allowed: itself, or one that refusal 3 is for where it is wider: 1 for a tick, which names nobody, and else 0
abbrev pub number_in16 : ℕ → ℕ → ℕ
number_in16 kind n = cond (leb n widest16) n (cond (is_tick kind) 1 0)
