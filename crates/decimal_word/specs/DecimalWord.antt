-- A number as a program's argument says it, a word in decimal. Definitions only.
use Rattle.std.specs.Prelude.{ℕ, ◌+◌, ◌-◌, ◌*◌, cond, ◌&&◌, List, [], ◌∷◌, leb, Option, Some, None}

-- the number that n and a digit behind it say; None where the byte is no digit, or it is no number of 16 bits
unfoldable pub with_digit : ℕ → ℕ → Option ℕ
with_digit n b = cond (leb 48 b && leb b 57 && leb (n * 10 + (b - 48)) 65535) (Some (n * 10 + (b - 48))) None

-- the number that digits say behind those that said n; 0 where a byte is no digit, or it is no number of 16 bits
unfoldable pub said_from : ℕ → List ℕ → ℕ
said_from n [] = n
said_from n (b ∷ bytes) = cond (leb 48 b && leb b 57 && leb (n * 10 + (b - 48)) 65535) (said_from (n * 10 + (b - 48)) bytes) 0

-- the number that a word says; 0 where it says none
unfoldable pub number_said : List ℕ → ℕ
number_said word = said_from 0 word
