-- The bytes of a number, the low one first, as std has them and as the specs write them. Assumes nothing.
use mathlib.Core.Path.{◌≡◌}
use mathlib.Core.List.{[], ◌∷◌}
use Prim.Native.Nat.{ℕ, ◌/◌, ◌%◌, ◌<◌}
use native.Mathlib.Omega.{arith}
use Rattle.std.specs.Int.{to_le_bytes, w16, w32, w64}
use Rattle.practice.specs.Practice.{bytes16, bytes32}
use Rattle.words.specs.Words.{bytes64}

pub low_first16 : (n : ℕ) → n < 65536 → to_le_bytes w16 n ≡ bytes16 n
low_first16 n h =
    let e : n / 256 % 256 ≡ n / 256 = omega arith in
    λ t. (n % 256) ∷ e t ∷ []

pub low_first32 : (n : ℕ) → n < 4294967296 → to_le_bytes w32 n ≡ bytes32 n
low_first32 n h =
    let a : n % 256 ≡ n % 65536 % 256 = omega arith in
    let b : n / 256 % 256 ≡ n % 65536 / 256 = omega arith in
    let c : n / 65536 % 256 ≡ n / 65536 % 256 = omega arith in
    let d : n / 16777216 % 256 ≡ n / 65536 / 256 = omega arith in
    λ t. a t ∷ b t ∷ c t ∷ d t ∷ []

pub low_first64 : (n : ℕ) → n < 18446744073709551616 → to_le_bytes w64 n ≡ bytes64 n
low_first64 n h =
    let a : n % 256 ≡ n % 4294967296 % 65536 % 256 = omega arith in
    let b : n / 256 % 256 ≡ n % 4294967296 % 65536 / 256 = omega arith in
    let c : n / 65536 % 256 ≡ n % 4294967296 / 65536 % 256 = omega arith in
    let d : n / 16777216 % 256 ≡ n % 4294967296 / 65536 / 256 = omega arith in
    let e : n / 4294967296 % 256 ≡ n / 4294967296 % 65536 % 256 = omega arith in
    let f : n / 1099511627776 % 256 ≡ n / 4294967296 % 65536 / 256 = omega arith in
    let g : n / 281474976710656 % 256 ≡ n / 4294967296 / 65536 % 256 = omega arith in
    let i : n / 72057594037927936 % 256 ≡ n / 4294967296 / 65536 / 256 = omega arith in
    λ t. a t ∷ b t ∷ c t ∷ d t ∷ e t ∷ f t ∷ g t ∷ i t ∷ []
