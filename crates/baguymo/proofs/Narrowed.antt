-- A number that is handed on in 8 or 16 bits keeps or breaks its rule as it did, and is itself where the rule is kept. Assumes nothing.
use mathlib.Core.Path.{◌≡◌, refl, sym, ap, ◌∙◌}
use mathlib.Core.Bool.{Bool, true, false, ◌&&◌}
use Prim.Native.Nat.{ℕ, ◌≤◌, ◌<◌, min}
use native.Mathlib.Omega.{arith}
use native.Mathlib.Decide.{dec_le}
use lib.Dec.{leb, lit<}
use Rattle.limits.specs.Limits.{longest_leg}
use Rattle.field.proofs.TestParts.{over}
use Rattle.request.specs.Input.{within}
use Rattle.practice.specs.declared.FileLegs.{FileLegs}
use Rattle.practice.specs.File.{legs_allowed}
use Rattle.practice.proofs.AcceptedFile.{LegKnown, legs_known}
use Rattle.baguymo.specs.Widths.{in16}

-- two conjunctions whose second parts fail are equal
both_fail : (a b c d : Bool) → b ≡ false → d ≡ false → (a && b) ≡ (c && d)
both_fail true b true d p q = p ∙ sym q
both_fail true b false d p q = p
both_fail false b true d p q = sym q
both_fail false b false d p q = refl

-- a range whose end is below the largest number holds of the number handed on as of the number
pub within_min : (low high most n : ℕ) → high < most → within low high (min most n) ≡ within low high n
within_min low high most n h = go (dec_le n most)
  where
    go : Dec (n ≤ most) → within low high (min most n) ≡ within low high n
    go (yes p) = let e : min most n ≡ n = omega arith in ap (within low high) e
    go (no p) =
        let e : high < min most n = omega arith in
        let g : high < n = omega arith in
        both_fail (leb low (min most n)) (leb (min most n) high) (leb low n) (leb n high) (over refl e) (over refl g)

-- ---- legs

abbrev pub narrow_legs : FileLegs → FileLegs
narrow_legs legs = record {
  base = in16 legs.base;
  intermediate = in16 legs.intermediate;
  final_approach = in16 legs.final_approach;
  missed = in16 legs.missed;
}

pub legs_as_allowed : (legs : FileLegs) → legs_allowed (narrow_legs legs) ≡ legs_allowed legs
unfolding legs_allowed
legs_as_allowed legs =
    let leg : (n : ℕ) → within 1 longest_leg (in16 n) ≡ within 1 longest_leg n = λ n. within_min 1 longest_leg 65535 n (lit< tt) in
    λ i. leg legs.base i && leg legs.intermediate i && leg legs.final_approach i && leg legs.missed i

-- legs that are allowed are handed on as they are
pub legs_same : (legs : FileLegs) → legs_allowed legs ≡ true → narrow_legs legs ≡ legs
legs_same legs h =
    let k = legs_known legs h in
    let leg : (n : ℕ) → LegKnown n → in16 n ≡ n = λ n known. omega (arith, known.high) in
    λ i. record {
      base = leg legs.base k.base i;
      intermediate = leg legs.intermediate k.intermediate i;
      final_approach = leg legs.final_approach k.final_leg i;
      missed = leg legs.missed k.missed i;
    }
