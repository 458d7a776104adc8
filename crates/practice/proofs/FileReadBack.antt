-- A file of legal legs and at most 4,096 requests, encoded, is read back as exactly those, asked by desk 1; for changes 2.10 and 2.11 of document 02. Assumes nothing.
use mathlib.Core.Path.{◌≡◌, refl, ap, ◌∙◌}
use mathlib.Core.List.{List, [], ◌∷◌, map}
use mathlib.Core.Bool.{Bool, true, cond, ◌&&◌}
use Prim.Native.Nat.{ℕ, ◌+◌, ◌*◌, ◌/◌, ◌%◌, ◌≤◌}
use native.Mathlib.Omega.{arith}
use lib.Dec.{eqb}
use lib.ListN.{length}
use borrow.Author.Tests.{eq-eqb}
use Rattle.limits.specs.Limits.{most_requests, longest_file}
use Rattle.request.specs.declared.Request.{Request}
use Rattle.request.specs.Input.{word, request_of, from_desk}
use Rattle.request.proofs.InputTests.{within_yes, none_refused}
use Rattle.practice.specs.declared.FileLegs.{FileLegs}
use Rattle.practice.specs.File.{body_length, opens, contents_allowed, legs_of, legs_body, requests_body, legs_allowed, file_number}
use Rattle.practice.specs.Requests.{requests_of}
use Rattle.practice.specs.Practice.{refused, holds, practice_of, request_bytes, encoded}
use Rattle.practice.proofs.AcceptedFile.{Whole, contents_of}

-- ---- numbers from their bytes
word_back : (n : ℕ) → word (n % 256) (n / 256) ≡ n
word_back n = omega arith

halves_back : (n : ℕ) → n % 65536 + 65536 * (n / 65536) ≡ n
halves_back n = omega arith

double_back : (n : ℕ) → word (n % 65536 % 256) (n % 65536 / 256) + 65536 * word (n / 65536 % 256) (n / 65536 / 256) ≡ n
double_back n = ap (λ (k : ℕ). k + 65536 * word (n / 65536 % 256) (n / 65536 / 256)) (word_back (n % 65536)) ∙ ap (λ (k : ℕ). n % 65536 + 65536 * k) (word_back (n / 65536)) ∙ halves_back n

-- ---- requests from their bytes
requests_size : (rs : List Request) → length (request_bytes rs) ≡ 6 * length rs
requests_size [] = refl
requests_size (r ∷ rest) = let e = requests_size rest in omega arith

requests_back : (rs : List Request) → requests_of (request_bytes rs) ≡ map (from_desk 1) rs
requests_back [] = refl
requests_back (r ∷ rest) = λ i. record { kind = r.kind; side = r.side; number = word_back r.number i; amount = word_back r.amount i; desk = 1 } ∷ requests_back rest i

-- what bytes hold is asked by desk 1
pub from_bytes : (bytes : List ℕ) → map (from_desk 1) (requests_of bytes) ≡ requests_of bytes
from_bytes [] = refl
from_bytes (a ∷ []) = refl
from_bytes (a ∷ b ∷ []) = refl
from_bytes (a ∷ b ∷ c ∷ []) = refl
from_bytes (a ∷ b ∷ c ∷ d ∷ []) = refl
from_bytes (a ∷ b ∷ c ∷ d ∷ e ∷ []) = refl
from_bytes (a ∷ b ∷ c ∷ d ∷ e ∷ f ∷ rest) = ap (λ (rs : List Request). request_of (a ∷ b ∷ c ∷ d ∷ e ∷ f ∷ []) ∷ rs) (from_bytes rest)

-- ---- the whole file
module _ (legs : FileLegs) (rs : List Request) where
  pub size : length (encoded legs rs) ≡ 34 + 6 * length rs
  unfolding encoded
  size = let e = requests_size rs in omega arith

  body_size : body_length (encoded legs rs) ≡ 6 * length rs
  unfolding encoded
  body_size = double_back (6 * length rs)

  legs_back : legs_of (legs_body (encoded legs rs)) ≡ legs
  unfolding encoded
  legs_back i = record {
    base = word_back legs.base i;
    intermediate = word_back legs.intermediate i;
    final_approach = word_back legs.final_approach i;
    missed = word_back legs.missed i;
  }

  body_back : requests_of (requests_body (encoded legs rs)) ≡ map (from_desk 1) rs
  unfolding encoded
  body_back = requests_back rs

  opening : length rs ≤ most_requests → opens (encoded legs rs) ≡ true
  unfolding encoded opens
  opening h =
      let e = size in
      ap (λ (b : Bool). b && true) (within_yes 26 longest_file (length (encoded legs rs)) (omega arith) (omega arith))

  whole : length rs ≤ most_requests → Whole (encoded legs rs)
  whole h =
      let e = size in
      let b = body_size in
      record { sixes = omega arith; bounded = omega arith; whole = omega arith }

  contents : length rs ≤ most_requests → contents_allowed (encoded legs rs) ≡ true
  unfolding encoded
  contents h = contents_of (encoded legs rs) refl refl (eq-eqb (body_length (encoded legs rs)) (body_length (encoded legs rs)) refl) (whole h)

  number : length rs ≤ most_requests → legs_allowed legs ≡ true → file_number (encoded legs rs) ≡ 0
  unfolding file_number
  number h l =
      none_refused ((5, opens (encoded legs rs)) ∷ (6, contents_allowed (encoded legs rs)) ∷ (7, legs_allowed (legs_of (legs_body (encoded legs rs)))) ∷ [])
      (opening h, (contents h, (ap legs_allowed legs_back ∙ l, tt)))

  pub file_read_back : length rs ≤ most_requests → legs_allowed legs ≡ true → practice_of (encoded legs rs) ≡ holds legs (map (from_desk 1) rs)
  unfolding practice_of
  file_read_back h l =
      ap (λ (n : ℕ). cond (eqb n 0) (holds (legs_of (legs_body (encoded legs rs))) (requests_of (requests_body (encoded legs rs)))) (refused n)) (number h l)
      ∙ (λ i. holds (legs_back i) (body_back i))
