-- What is printed, case by case, and how long it is. Assumes nothing.
use mathlib.Core.Path.{◌≡◌, sym, ap, subst, ◌∙◌}
use mathlib.Core.List.{List, [], ◌++◌}
use mathlib.Core.Bool.{Bool, cond}
use Prim.Native.Nat.{ℕ, ◌^◌, ◌≤◌, ◌<◌}
use native.Mathlib.Omega.{arith}
use lib.ListN.{length, drop}
use borrow.Author.Tests.{eq-eqb, ne_eqb, lt-leb, le-leb}
use Rattle.text.specs.Buffer.{Put}
use Rattle.text.proofs.Texts.{line_length, put_whole}
use Rattle.writer.specs.declared.Writing.{Writing}
use Rattle.writer.specs.Writer.{file_of, writing_number, writing_of, buffer_after}
use Rattle.writer.proofs.WritingNumbers.{allowed}
use Rattle.writer.proofs.Written.{written, as_lent}
use Rattle.authored.specs.Authored.{file_room, legs_given, requests_given, authored_number, refused_line, authored_of}

module _ (input : List ℕ) where
  abbrev file : List ℕ
  file = file_of (legs_given input) (requests_given input)

  -- the legs are not all there
  pub number_short : length input < 8 → authored_number input ≡ 7
  unfolding authored_number
  number_short h = ap (λ (t : Bool). cond t (writing_number (legs_given input) (requests_given input) file_room) 7) (lt-leb 8 (length input) h)

  -- they are
  pub number_long : 8 ≤ length input → authored_number input ≡ writing_number (legs_given input) (requests_given input) file_room
  unfolding authored_number
  number_long h = ap (λ (t : Bool). cond t (writing_number (legs_given input) (requests_given input) file_room) 7) (le-leb 8 (length input) h)

  -- the number is 0, or another
  pub file_printed : authored_number input ≡ 0 → authored_of input ≡ file
  unfolding authored_of
  file_printed e = ap (λ (t : Bool). cond t file (refused_line (authored_number input))) (eq-eqb (authored_number input) 0 e)

  pub refused_printed : (authored_number input ≡ 0 → ⊥) → authored_of input ≡ refused_line (authored_number input)
  unfolding authored_of
  refused_printed z = ap (λ (t : Bool). cond t file (refused_line (authored_number input))) (ne_eqb (authored_number input) 0 z)

-- a refusal fits the caller's buffer
pub refused_short : (n : ℕ) → n < 2 ^ 64 → length (refused_line n) ≤ file_room
unfolding refused_line
refused_short n h = let l = line_length n [] 19 (omega arith) in omega arith

-- ---- a refusal put into the buffer that was lent, as the contract says it of what is printed
pub refusal_put : {before after printed : List ℕ} {n number : ℕ} (lent : List ℕ) → Put before 0 (refused_line number) after n → before ≡ lent → length lent ≡ file_room → number < 2 ^ 64
    → refused_line number ≡ printed → (n ≡ length printed) × ((after ≡ printed ++ drop n lent) × (n ≤ file_room))
refusal_put {before} {after} {n = n} {number = number} lent p b l h e =
    let q = subst (λ (x : List ℕ). Put x 0 (refused_line number) after n) b p in
    subst (λ (x : List ℕ). (n ≡ length x) × ((after ≡ x ++ drop n lent) × (n ≤ file_room))) e (put_whole file_room q l (refused_short number h))

-- ---- a file written into it
pub file_put : {after : List ℕ} {w : Writing} (input lent : List ℕ) → 8 ≤ length input → length lent ≡ file_room → w ≡ writing_of (legs_given input) (requests_given input) (length lent)
    → after ≡ buffer_after (legs_given input) (requests_given input) lent → w.number ≡ 0
    → (w.length ≡ length (authored_of input)) × ((after ≡ authored_of input ++ drop w.length lent) × (w.length ≤ file_room))
file_put {after} {w} input lent h l e a z =
    let legs = legs_given input in
    let bytes = requests_given input in
    let zero : writing_number legs bytes (length lent) ≡ 0 = sym (ap (λ (x : Writing). x.number) e) ∙ z in
    let size : w.length ≡ length (file_of legs bytes) =
    ap (λ (x : Writing). x.length) e ∙ ap (λ (t : Bool). cond t (length (file_of legs bytes)) 0) (eq-eqb (writing_number legs bytes (length lent)) 0 zero) in
    let printed : authored_of input ≡ file_of legs bytes = file_printed input (number_long input h ∙ ap (writing_number legs bytes) (sym l) ∙ zero) in
    let fits = (allowed legs bytes (length lent) zero).fits in (
      size ∙ ap length (sym printed),
      (
        a ∙ written legs bytes lent zero ∙ (λ i. sym printed i ++ drop (sym size i) lent),
        omega arith,
      ),
    )

-- ---- the number that a writing gave
pub number_told : {w : Writing} (input lent : List ℕ) → 8 ≤ length input → length lent ≡ file_room → w ≡ writing_of (legs_given input) (requests_given input) (length lent)
    → w.number ≡ authored_number input
number_told input lent h l e = ap (λ (x : Writing). x.number) e ∙ ap (writing_number (legs_given input) (requests_given input)) l ∙ sym (number_long input h)

-- and the buffer after it, where it is refused
pub still_lent : {after : List ℕ} {w : Writing} (input lent : List ℕ) → w ≡ writing_of (legs_given input) (requests_given input) (length lent)
    → after ≡ buffer_after (legs_given input) (requests_given input) lent → (w.number ≡ 0 → ⊥) → after ≡ lent
still_lent input lent e a z = a ∙ as_lent (legs_given input) (requests_given input) lent (λ q. z (ap (λ (x : Writing). x.number) e ∙ q))
