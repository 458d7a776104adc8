-- Miles in decimal: the digits after the point, one after the other, the point, and the minus. Assumes nothing.
use Rattle.std.proofs.Common.{◌≡◌, ℕ, zero, suc, ◌+◌, ◌-◌, ◌*◌, ◌/◌, ◌%◌, ◌<◌, ◌≤◌, Bool, true, false, cond, List, [], ◌∷◌, ◌++◌, sym, refl, ap, ◌∙◌, append-nil, arith, eq-eqb, ne_eqb}
use Rattle.text.specs.Buffer.{Put}
use Rattle.text.proofs.Texts.{Left, left_more}
use lib.Ieee.{Float, binary64, neg, lt, of_bits, of_int}
use Rattle.text.specs.Text.{decimal}
use Rattle.miles.specs.Miles.{point, minus, decimals, fraction, in4096ths, miles_text}

-- no rest, no digit
pub decimals_none : (k : ℕ) {rest : ℕ} → rest ≡ 0 → decimals k rest ≡ []
unfolding decimals
decimals_none zero e = refl
decimals_none (suc k) {rest} e = ap (λ (t : Bool). cond t [] ((48 + rest * 10 / 4096) ∷ decimals k (rest * 10 % 4096))) (eq-eqb rest 0 e)

-- nor past the last
pub decimals_past : (i rest : ℕ) → 12 ≤ i → decimals (12 - i) rest ≡ []
unfolding decimals
decimals_past i rest h = let none : 12 - i ≡ 0 = omega arith in ap (λ (k : ℕ). decimals k rest) none

-- the next digit, and those behind it
decimals_next : (i rest : ℕ) → i < 12 → (rest ≡ 0 → ⊥) → decimals (12 - i) rest ≡ (48 + rest * 10 / 4096) ∷ decimals (12 - (i + 1)) (rest * 10 % 4096)
unfolding decimals
decimals_next i rest h n =
    let more : 12 - i ≡ suc (12 - (i + 1)) = omega arith in
    ap (λ (k : ℕ). decimals k rest) more
    ∙ ap (λ (t : Bool). cond t [] ((48 + rest * 10 / 4096) ∷ decimals (12 - (i + 1)) (rest * 10 % 4096))) (ne_eqb rest 0 n)

-- what holds before digit i: the digits of the rest are left to put
pub record Putting (before : List ℕ) (at part : ℕ) (out : List ℕ) (end rest i : ℕ) : Type 0 where
  pub within : i ≤ 12
  pub small : rest < 4096
  pub left : Left before at (decimals 12 part) out end (decimals (12 - i) rest)

pub putting_more : {before m n : List ℕ} {at part e f rest i : ℕ} → Putting before at part m e rest i → i < 12 → (rest ≡ 0 → ⊥) → Put m e ((48 + rest * 10 / 4096) ∷ []) n f
    → Putting before at part n f (rest * 10 % 4096) (i + 1)
putting_more {rest = rest} {i = i} w h n p = record {
  within = omega arith;
  small = omega arith;
  left = left_more ((48 + rest * 10 / 4096) ∷ []) (decimals (12 - (i + 1)) (rest * 10 % 4096)) w.left (decimals_next i rest h n) p;
}

-- ---- a whole number of miles has no point, ..
pub fraction_whole : (n : ℕ) → n % 4096 ≡ 0 → fraction n ≡ decimal (n / 4096)
unfolding fraction
fraction_whole n e = ap (λ (t : Bool). decimal (n / 4096) ++ cond t [] (point ∷ decimals 12 (n % 4096))) (eq-eqb (n % 4096) 0 e) ∙ append-nil (decimal (n / 4096))

-- .. and a part has one
pub fraction_part : (n : ℕ) → (n % 4096 ≡ 0 → ⊥) → fraction n ≡ decimal (n / 4096) ++ (point ∷ decimals 12 (n % 4096))
unfolding fraction
fraction_part n h = ap (λ (t : Bool). decimal (n / 4096) ++ cond t [] (point ∷ decimals 12 (n % 4096))) (ne_eqb (n % 4096) 0 h)

-- ---- miles below 0, and others, 0 by its bit pattern
text_by : (miles : Float) {t : Bool} → lt miles (of_bits binary64 0) ≡ t → miles_text miles ≡ cond t (minus ∷ fraction (in4096ths (neg miles))) (fraction (in4096ths miles))
unfolding miles_text of_bits of_int
text_by miles e = ap (λ (t : Bool). cond t (minus ∷ fraction (in4096ths (neg miles))) (fraction (in4096ths miles))) e

pub miles_below : (miles : Float) {n : ℕ} → lt miles (of_bits binary64 0) ≡ true → n ≡ in4096ths (neg miles) → miles_text miles ≡ minus ∷ fraction n
miles_below miles e h = text_by miles e ∙ ap (λ (k : ℕ). minus ∷ fraction k) (sym h)

pub miles_above : (miles : Float) {n : ℕ} → lt miles (of_bits binary64 0) ≡ false → n ≡ in4096ths miles → miles_text miles ≡ fraction n
miles_above miles e h = text_by miles e ∙ ap fraction (sym h)
