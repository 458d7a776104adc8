-- Numbers as text, in decimal and in lines (01, "The practice file"). Definitions only.
use Rattle.std.specs.Prelude.{ℕ, zero, suc, ◌+◌, ◌/◌, ◌%◌, cond, List, [], ◌∷◌, ◌++◌, ltb}

-- the decimal digits of n, the last one at the end, where k is no less than how many there are
unfoldable pub digits_up_to : ℕ → ℕ → List ℕ
digits_up_to zero n = []
digits_up_to (suc k) n = cond (ltb n 10) ((48 + n) ∷ []) (digits_up_to k (n / 10) ++ ((48 + n % 10) ∷ []))

-- n in decimal: it has at most n + 1 digits
unfoldable pub decimal : ℕ → List ℕ
decimal n = digits_up_to (suc n) n

-- a space, as a byte
abbrev pub space : ℕ
space = 32

-- a newline, as a byte
abbrev pub newline : ℕ
newline = 10

-- what stands behind a number: a space where others come after it, else a newline
abbrev pub mark_before : List ℕ → ℕ
mark_before [] = newline
mark_before (n ∷ ns) = space

-- a line of numbers
abbrev pub line_of : List ℕ → List ℕ
line_of [] = []
line_of (n ∷ ns) = decimal n ++ (mark_before ns ∷ line_of ns)
