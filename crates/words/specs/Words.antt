-- Numbers of 64 bits and miles as bytes, the low byte first, as the state that a host lends has them. Those of 16 and 32 bits are the practice file's.
-- Definitions only.
use Rattle.std.specs.Prelude.{List, ◌++◌, ℕ, ◌+◌, ◌*◌, ◌/◌, ◌%◌, Float}
use Rattle.std.specs.Float.{binary64}
use Rattle.std.specs.Float.Ieee.{to_bits, of_bits}
use Rattle.practice.specs.File.{number32}
use Rattle.practice.specs.Practice.{bytes32}

-- the number of 64 bits at a place of the bytes
abbrev pub number64 : List ℕ → ℕ → ℕ
number64 bytes at = number32 bytes at + 4294967296 * number32 bytes (at + 4)

-- the bytes of a number of 64 bits
abbrev pub bytes64 : ℕ → List ℕ
bytes64 n = bytes32 (n % 4294967296) ++ bytes32 (n / 4294967296)

-- the miles whose 64 bits these are; every pattern of a NaN is the one NaN
abbrev pub miles_of : ℕ → Float
miles_of n = of_bits binary64 n

-- the 64 bits of miles
abbrev pub bits_of : Float → ℕ
bits_of x = to_bits binary64 x
