-- What the program `author` prints, and how it is read (02, 2.11). Assumes nothing.
use mathlib.Core.Path.{◌≡◌, refl, sym, ap, ◌∙◌, subst}
use mathlib.Core.List.{List, [], ◌∷◌, map}
use mathlib.Core.Bool.{Bool, true, false, cond, ◌&&◌}
use Prim.Native.Nat.{ℕ, ◌+◌, ◌%◌, ◌≤◌, ◌<◌}
use native.Mathlib.Omega.{arith}
use lib.Dec.{eqb, leb}
use lib.ListN.{length, take, drop, length-drop}
use lib.Seq.{get_or-take, drop-drop, length-take-le}
use borrow.Author.Tests.{eq-eqb, ne_eqb, leb-true, leb-false, le-leb}
use Rattle.limits.specs.Limits.{most_requests, longest_body}
use Rattle.request.specs.declared.Request.{Request}
use Rattle.request.specs.Input.{word, from_desk, first_refused, desk_allowed, kind_allowed, side_allowed, number_allowed, amount_allowed, input_number}
use Rattle.request.proofs.InputTests.{both_right, left_fails, right_fails}
use Rattle.practice.specs.declared.FileLegs.{FileLegs}
use Rattle.practice.specs.File.{number16, legs_of, legs_allowed, legs_body, requests_body, file_number}
use Rattle.practice.specs.Requests.{requests_of}
use Rattle.practice.specs.Practice.{holds, practice_of, encoded}
use Rattle.practice.proofs.Requests.{count}
use Rattle.practice.proofs.AcceptedFile.{accepted, whole_of}
use Rattle.practice.proofs.Meaning.{held}
use Rattle.practice.proofs.FileReadBack.{file_read_back, from_bytes}
use Rattle.writer.specs.Writer.{file_of, requests_allowed, first_offence, file_fits, writing_number}
use Rattle.writer.proofs.RequestBytes.{AreBytes}
use Rattle.writer.proofs.WritingNumbers.{first_number, file_size, allowed}
use Rattle.writer.proofs.Only.{read_as, only_file}
use Rattle.authored.specs.Authored.{file_room, legs_given, requests_given, authored_number, refused_line, authored_of}
use Rattle.authored.proofs.Outputs.{number_short, number_long, file_printed, refused_printed}

-- ---- where the number is 0 the reader takes what is printed as exactly the legs and requests that were given
-- the legs are there
long_enough : (input : List ℕ) → authored_number input ≡ 0 → 8 ≤ length input
long_enough input e = go (leb 8 (length input)) refl
  where
    go : (t : Bool) → leb 8 (length input) ≡ t → 8 ≤ length input
    go true t = leb-true 8 (length input) t
    go false t = absurd (let q = sym (number_short input (leb-false 8 (length input) t)) ∙ e in omega arith)

pub printed_read : (input : List ℕ) → authored_number input ≡ 0 → practice_of (authored_of input) ≡ holds (legs_given input) (requests_of (requests_given input))
printed_read input e =
    let z = sym (number_long input (long_enough input e)) ∙ e in
    let a = allowed (legs_given input) (requests_given input) file_room z in
    ap practice_of (file_printed input e) ∙ file_read_back (legs_given input) (requests_of (requests_given input)) a.few a.legal ∙ ap (holds (legs_given input)) (from_bytes (requests_given input))

-- ---- every file that is allowed fits the buffer, so that 28 is never printed
few_bytes : (bytes : List ℕ) → requests_allowed bytes ≡ true → length (requests_of bytes) ≤ most_requests
few_bytes bytes t = leb-true (length (requests_of bytes)) most_requests (both_right (eqb (length bytes % 6) 0) (leb (length (requests_of bytes)) most_requests) t)

fits_all : (legs : FileLegs) (bytes : List ℕ) → requests_allowed bytes ≡ true → file_fits legs bytes file_room ≡ true
fits_all legs bytes t =
    let f = few_bytes bytes t in
    let n = count bytes in
    let s = file_size legs bytes in
    le-leb (length (file_of legs bytes)) file_room (omega arith)

either_small : (k : ℕ) (t : Bool) (x y : ℕ) → (t ≡ true → x ≤ k) → (t ≡ false → y ≤ k) → cond t x y ≤ k
either_small k true x y h g = h refl
either_small k false x y h g = g refl

first_small : (a b c d : Bool) → first_refused ((1, a) ∷ (2, b) ∷ (3, c) ∷ (4, d) ∷ []) ≤ 4
first_small false b c d = omega arith
first_small true false c d = omega arith
first_small true true false d = omega arith
first_small true true true false = omega arith
first_small true true true true = omega arith

-- what a file holds is asked by desk 1, so that 31 is not among them
input_small : (r : Request) → input_number (from_desk 1 r) ≤ 4
unfolding input_number desk_allowed
input_small r = let q = from_desk 1 r in first_small (kind_allowed q) (side_allowed q) (number_allowed q) (amount_allowed q)

offence_small : (rs : List Request) → first_offence (map (from_desk 1) rs) ≤ 4
offence_small [] = omega arith
offence_small (r ∷ rest) = either_small 4 (eqb (input_number (from_desk 1 r)) 0) (first_offence (map (from_desk 1) rest)) (input_number (from_desk 1 r)) (λ e. offence_small rest) (λ e. input_small r)

number_small : (a l : Bool) (o : ℕ) (f : Bool) → o ≤ 4 → (l ≡ true → f ≡ true) → first_number a l o f ≤ 7
number_small false l o f h k = omega arith
number_small true false o f h k = omega arith
number_small true true o f h k = either_small 7 (eqb o 0) (cond f 0 28) o (λ e. let z : ◌≡◌ {A = ℕ} (cond f 0 28) 0 = ap (λ (t : Bool). cond t 0 28) (k refl) in omega arith) (λ e. omega arith)

pub at_most_7 : (input : List ℕ) → authored_number input ≤ 7
unfolding authored_number writing_number
at_most_7 input =
    let legs = legs_given input in
    let bytes = requests_given input in
    either_small 7 (leb 8 (length input)) (writing_number legs bytes file_room) 7
    (λ e. number_small (legs_allowed legs) (requests_allowed bytes) (first_offence (requests_of bytes)) (file_fits legs bytes file_room)
    (subst (λ (rs : List Request). first_offence rs ≤ 4) (from_bytes bytes) (offence_small (requests_of bytes))) (fits_all legs bytes))
    (λ e. omega arith)

-- ---- an input that is longer than any that is written: one byte more than the longest is enough to read
-- the legs are within what is read
number_part : (n : ℕ) (xs : List ℕ) (at : ℕ) → at + 1 < n → number16 (take n xs) at ≡ number16 xs at
number_part n xs at h = λ i. word (get_or-take n xs at 0 (omega arith) i) (get_or-take n xs (at + 1) 0 h i)

pub legs_part : (n : ℕ) (xs : List ℕ) → 8 ≤ n → legs_of (take n xs) ≡ legs_of xs
legs_part n xs h = λ i.
    record {
      base = number_part n xs 0 (omega arith) i;
      intermediate = number_part n xs 2 (omega arith) i;
      final_approach = number_part n xs 4 (omega arith) i;
      missed = number_part n xs 6 (omega arith) i;
    }

list_over : (bytes : List ℕ) → longest_body < length bytes → requests_allowed bytes ≡ false
list_over bytes h = go (leb (length (requests_of bytes)) most_requests) refl
  where
    go : (t : Bool) → leb (length (requests_of bytes)) most_requests ≡ t → requests_allowed bytes ≡ false
    go true t = let f = leb-true (length (requests_of bytes)) most_requests t in left_fails (eqb (length bytes % 6) 0)
        (leb (length (requests_of bytes)) most_requests) (ne_eqb (length bytes % 6) 0 (λ z. let c = count bytes in omega arith))
    go false t = right_fails (eqb (length bytes % 6) 0) (leb (length (requests_of bytes)) most_requests) t

number_over : (input : List ℕ) → 24584 < length input → authored_number input ≡ cond (legs_allowed (legs_given input)) 5 7
unfolding writing_number
number_over input h =
    let l = length-drop 8 input in
    let o = list_over (requests_given input) (omega arith) in
    number_long input (omega arith)
    ∙ (λ i. first_number (legs_allowed (legs_given input)) (o i) (first_offence (requests_of (requests_given input))) (file_fits (legs_given input) (requests_given input) file_room))

over_printed : (input : List ℕ) → 24584 < length input → authored_of input ≡ refused_line (cond (legs_allowed (legs_given input)) 5 7)
over_printed input h =
    let n = number_over input h in
    refused_printed input (λ z. not_zero (legs_allowed (legs_given input)) (sym n ∙ z)) ∙ ap refused_line n
  where
    not_zero : (t : Bool) → ◌≡◌ {A = ℕ} (cond t 5 7) 0 → ⊥
    not_zero true e = omega arith
    not_zero false e = omega arith

pub author_longer_input : (input : List ℕ) → 24584 < length input → authored_of (take 24585 input) ≡ authored_of input
author_longer_input input h =
    let l = length-take-le 24585 input (omega arith) in
    over_printed (take 24585 input) (omega arith)
    ∙ ap (λ (legs : FileLegs). refused_line (cond (legs_allowed legs) 5 7)) (legs_part 24585 input (omega arith))
    ∙ sym (over_printed input h)

-- ---- the bodies of a file that is read, whose requests keep the input rules, are written as that file
module _ (file : List ℕ) (known : AreBytes file) (legs : FileLegs) (rs : List Request) (e : practice_of file ≡ holds legs rs) (kept : first_offence rs ≡ 0) where
  zero : file_number file ≡ 0
  zero = (held file legs rs e).number

  same_practice : holds (legs_of (legs_body file)) (requests_of (requests_body file)) ≡ holds legs rs
  same_practice = sym (read_as file known zero) ∙ e

  same_requests : requests_of (requests_body file) ≡ rs
  same_requests = let s = same_practice in cc

  same_legs : legs_of (legs_body file) ≡ legs
  same_legs = let s = same_practice in cc

  legs_in_front : legs_given (drop 26 file) ≡ legs
  legs_in_front = sym (legs_part 8 (drop 26 file) (omega arith)) ∙ same_legs

  requests_behind : requests_given (drop 26 file) ≡ requests_body file
  requests_behind = drop-drop 8 26 file

  list_given : requests_allowed (requests_body file) ≡ true
  list_given =
      let w = whole_of file (accepted file zero).contents in
      let l = length-drop 34 file in
      let n = count (requests_body file) in
      let h = w.whole in
      let sixes = w.sixes in
      let most = w.bounded in
      both (eq-eqb (length (requests_body file) % 6) 0 (omega arith)) (le-leb (length (requests_of (requests_body file))) most_requests (omega arith))
    where
      both : {s t : Bool} → s ≡ true → t ≡ true → (s && t) ≡ true
      both p q = λ i. p i && q i

  number_given : authored_number (drop 26 file) ≡ 0
  unfolding writing_number
  number_given =
      let long = (held file legs rs e).long in
      let l = length-drop 26 file in
      let offence : first_offence (requests_of (requests_body file)) ≡ 0 = ap first_offence same_requests ∙ kept in
      number_long (drop 26 file) (omega arith)
      ∙ (λ i. writing_number (legs_in_front i) (requests_behind i) file_room)
      ∙ (λ i. first_number ((held file legs rs e).legs_legal i) (list_given i) (offence i) (fits_all legs (requests_body file) list_given i))

  pub written_again : authored_of (drop 26 file) ≡ file
  written_again =
      file_printed (drop 26 file) number_given
      ∙ (λ i. file_of (legs_in_front i) (requests_behind i))
      ∙ ap (λ (l : List Request). encoded legs l) same_requests
      ∙ sym (only_file file known legs rs e)
