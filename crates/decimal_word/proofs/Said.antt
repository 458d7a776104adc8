-- A word read digit by digit; a number up to 512 that is written in decimal is read back. Assumes nothing.
use mathlib.Core.Path.{◌≡◌, refl, sym, ap, ◌∙◌}
use mathlib.Core.Bool.{Bool, true, false, cond, ◌&&◌}
use mathlib.Core.List.{List, ◌∷◌}
use Rattle.std.proofs.Common.{Option, Some, None, inl, inr}
use Rattle.std.specs.Char.{IsAsciiDigit, IsNotAsciiDigit}
use Rattle.std.specs.Option.{SomeIff}
use Prim.Native.Nat.{ℕ, ◌+◌, ◌-◌, ◌*◌, ◌≤◌, ◌<◌}
use native.Mathlib.Omega.{arith}
use lib.Dec.{T, leb, eqb, eqb→eq}
use lib.ListN.{length, get_or, drop}
use borrow.Author.Tests.{le-leb, lt-leb}
use Rattle.field.specs.Airspace.{zones_from}
use Rattle.field.specs.Lists.{every}
use Rattle.field.proofs.TestParts.{and_then, and_cut}
use Rattle.field.proofs.TestLaws.{every_from}
use Rattle.text.specs.Text.{digits_up_to, decimal}
use Rattle.text.proofs.Texts.{from_here, past_all}
use Rattle.decimal_word.specs.DecimalWord.{with_digit, said_from, number_said}

-- a byte behind n, by its three tests
module _ (n b : ℕ) where
  abbrev more : ℕ
  more = n * 10 + (b - 48)

  by : {t : Bool} → (leb 48 b && leb b 57 && leb more 65535) ≡ t → cond t (Some more) None ≡ with_digit n b
  unfolding with_digit
  by e = sym (ap (λ (t : Bool). cond t (Some more) None) e)

  pub no_digit_byte : IsNotAsciiDigit b → None ≡ with_digit n b
  no_digit_byte (inl l) = by (and_cut _ (and_cut _ (lt-leb 48 b l)))
  no_digit_byte (inr g) = go (leb 48 b) refl
    where
      go : (t : Bool) → leb 48 b ≡ t → None ≡ with_digit n b
      go true e = by (and_cut _ (and_then e (lt-leb b 57 g)))
      go false e = by (and_cut _ (and_cut _ e))

  pub too_large : IsAsciiDigit b → 65535 < more → None ≡ with_digit n b
  too_large d k = by (and_then (and_then (le-leb 48 b d.0) (le-leb b 57 d.1)) (lt-leb more 65535 k))

  pub added : (r : Option ℕ) → IsAsciiDigit b → SomeIff r (more < 65536) more → r ≡ with_digit n b
  added None d s = too_large d (omega (arith, s))
  added (Some x) d s = ap (λ (k : ℕ). Some k) s.1 ∙ by (and_then (and_then (le-leb 48 b d.0) (le-leb b 57 d.1)) (le-leb more 65535 (omega (arith, s.0))))

-- what is read of it, by what `with_digit` says of them
none_cond : (t : Bool) (x y : ℕ) → cond t (Some x) None ≡ None → cond t y 0 ≡ 0
none_cond true x y e = absurd (cc)
none_cond false x y e = refl

some_cond : (t : Bool) (f : ℕ → ℕ) (x m : ℕ) → cond t (Some x) None ≡ Some m → cond t (f x) 0 ≡ f m
some_cond true f x m e = cc
some_cond false f x m e = absurd (cc)

no_digit : (n b : ℕ) (bytes : List ℕ) → with_digit n b ≡ None → said_from n (b ∷ bytes) ≡ 0
unfolding with_digit said_from
no_digit n b bytes e = none_cond (leb 48 b && leb b 57 && leb (n * 10 + (b - 48)) 65535) _ _ e

one_digit : (n b : ℕ) (bytes : List ℕ) {m : ℕ} → with_digit n b ≡ Some m → said_from n (b ∷ bytes) ≡ said_from m bytes
unfolding with_digit said_from
one_digit n b bytes e = some_cond (leb 48 b && leb b 57 && leb (n * 10 + (b - 48)) 65535) (λ (k : ℕ). said_from k bytes) _ _ e

-- ---- a word, of whose bytes from i on a number n says the same: before the first byte, ..
pub said_none : (word : List ℕ) → number_said word ≡ said_from 0 word
unfolding number_said
said_none word = refl

-- .. at byte i, and past the last byte
module _ (word : List ℕ) (n i : ℕ) (rest : number_said word ≡ said_from n (drop i word)) where
  pub said_not : i < length word → with_digit n (get_or word i 0) ≡ None → number_said word ≡ 0
  said_not h e = rest ∙ ap (said_from n) (from_here word i h) ∙ no_digit n (get_or word i 0) (drop (i + 1) word) e

  pub said_more : i < length word → {m : ℕ} → with_digit n (get_or word i 0) ≡ Some m → number_said word ≡ said_from m (drop (i + 1) word)
  said_more h e = rest ∙ ap (said_from n) (from_here word i h) ∙ one_digit n (get_or word i 0) (drop (i + 1) word) e

  pub said_all : length word ≤ i → number_said word ≡ n
  unfolding said_from
  said_all h = rest ∙ ap (said_from n) (past_all word i h)

-- ---- each number from 1 to 512 is read back from its digits: computed
abbrev back : ℕ → Bool
back n = eqb (number_said (decimal n)) n

all_back : T (every back (zones_from 1 512))
unfolding number_said said_from decimal digits_up_to
all_back = tt

pub said_back : (n : ℕ) → 1 ≤ n → n ≤ 512 → number_said (decimal n) ≡ n
said_back n low high = eqb→eq (number_said (decimal n)) n (every_from back 1 512 all_back n low (omega arith))
