-- Bytes and the numbers and requests that they hold, there and back. Assumes nothing.
use mathlib.Core.Path.{◌≡◌, refl, sym}
use mathlib.Core.List.{List, [], ◌∷◌, ◌++◌}
use Prim.Native.Nat.{ℕ, suc, ◌+◌, ◌*◌, ◌/◌, ◌%◌, ◌^◌, ◌<◌}
use native.Mathlib.Omega.{arith}
use lib.ListN.{length, get_or}
use Rattle.request.specs.Input.{word}
use Rattle.practice.specs.declared.FileLegs.{FileLegs}
use Rattle.practice.specs.File.{letters}
use Rattle.practice.specs.Requests.{requests_of}
use Rattle.practice.specs.Practice.{bytes16, entry_bytes, leg_bytes, request_bytes, encoded}
use Rattle.practice.proofs.Requests.{count}
use Rattle.writer.specs.Writer.{file_of}

-- every element of the list is a byte, as those of a lent slice are
abbrev pub AreBytes : List ℕ → Type 0
AreBytes xs = (i : ℕ) → get_or xs i 0 < 2 ^ 8

-- ---- a number of 16 bits, from its two bytes
pub low_back : (a b : ℕ) → a < 2 ^ 8 → word a b % 256 ≡ a
low_back a b h = omega arith

pub high_back : (a b : ℕ) → a < 2 ^ 8 → word a b / 256 ≡ b
high_back a b h = omega arith

-- ---- requests
none_short : {A : Type 0} (n : ℕ) → 0 < n → n < 6 → n % 6 ≡ 0 → A
none_short n l h e = absurd (omega arith)

pub requests_bytes : (xs : List ℕ) → AreBytes xs → length xs % 6 ≡ 0 → request_bytes (requests_of xs) ≡ xs
requests_bytes [] k m = refl
requests_bytes (a ∷ []) k m = none_short 1 (omega arith) (omega arith) m
requests_bytes (a ∷ b ∷ []) k m = none_short 2 (omega arith) (omega arith) m
requests_bytes (a ∷ b ∷ c ∷ []) k m = none_short 3 (omega arith) (omega arith) m
requests_bytes (a ∷ b ∷ c ∷ d ∷ []) k m = none_short 4 (omega arith) (omega arith) m
requests_bytes (a ∷ b ∷ c ∷ d ∷ e ∷ []) k m = none_short 5 (omega arith) (omega arith) m
requests_bytes (a ∷ b ∷ c ∷ d ∷ e ∷ f ∷ rest) k m = λ i.
    a
    ∷ b
    ∷ low_back c d (k 2) i
    ∷ high_back c d (k 2) i
    ∷ low_back e f (k 4) i
    ∷ high_back e f (k 4) i
    ∷ requests_bytes rest (λ j. k (suc (suc (suc (suc (suc (suc j))))))) (omega arith) i

-- ---- the file, with the lent bytes as its second body
pub file_bytes : (legs : FileLegs) (xs : List ℕ) → AreBytes xs → length xs % 6 ≡ 0 → letters ++ bytes16 2 ++ entry_bytes 1 26 8 ++ entry_bytes 2 34 (length xs) ++ leg_bytes legs ++ xs ≡ file_of legs xs
unfolding encoded
file_bytes legs xs k m =
    let c = count xs in
    let n : length xs ≡ 6 * length (requests_of xs) = omega arith in
    λ i. letters ++ bytes16 2 ++ entry_bytes 1 26 8 ++ entry_bytes 2 34 (n i) ++ leg_bytes legs ++ sym (requests_bytes xs k m) i
