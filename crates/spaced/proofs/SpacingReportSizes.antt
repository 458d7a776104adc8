-- How long the report of a field's spacings is, or of a refusal: at most 1024 bytes, which fit the caller's buffer. Assumes nothing.
use mathlib.Core.List.{List, [], ◌∷◌, ◌++◌}
use Prim.Native.Nat.{ℕ, zero, suc, ◌*◌, ◌^◌, ◌≤◌, ◌<◌}
use native.Mathlib.Omega.{arith}
use lib.Dec.{eqb}
use lib.ListN.{length, get_or, take, length-append, length-take}
use lib.Ieee.{Float}
use Rattle.field.proofs.TestLaws.{either_way}
use Rattle.gaps.specs.declared.Spacing.{Spacing}
use Rattle.gaps.specs.declared.Spacing.TheVariants.{Close, Clear}
use Rattle.gaps.specs.declared.Pair.{Pair}
use Rattle.gaps.specs.declared.Spacings.{Spacings}
use Rattle.gaps.proofs.SpacingsKnown.{Small, SpacingsKnown}
use Rattle.text.specs.Text.{decimal, line_of}
use Rattle.text.proofs.Texts.{decimal_short, line_short}
use Rattle.miles.specs.Miles.{miles_text}
use Rattle.miles.proofs.DecimalSizes.{miles_short}
use Rattle.session.specs.Report.{refused_report}
use Rattle.session.proofs.LogLines.{refused_length}
use Rattle.spaced.specs.Spaced.{gap_text, spacing_text, pair_line, pair_lines, refused_spacing, spacings_report}

gap_short : (x : Float) → length (gap_text x) ≤ 31
unfolding gap_text
gap_short x = let h = miles_short x in let a = length-append (miles_text x) (10 ∷ []) in omega arith

spacing_short : (s : Spacing) → length (spacing_text s) ≤ 37
spacing_short (Close gap) = let h = gap_short gap in omega arith
spacing_short (Clear gap) = let h = gap_short gap in omega arith

pair_short : (p : Pair) → p.leader < 65536 → p.follower < 65536 → length (pair_line p) ≤ 49
unfolding pair_line
pair_short p l f =
    let behind = decimal p.follower ++ (32 ∷ spacing_text p.spacing) in
    let one = decimal_short 4 p.leader (omega arith) in
    let two = decimal_short 4 p.follower (omega arith) in
    let s = spacing_short p.spacing in
    let a = length-append (decimal p.leader) (32 ∷ behind) in
    let b = length-append (decimal p.follower) (32 ∷ spacing_text p.spacing) in
    omega arith

small_part : (n : ℕ) (ps : List Pair) → Small ps → Small (take n ps)
small_part zero ps h = tt
small_part (suc n) [] h = tt
small_part (suc n) (p ∷ ps) h = (h.0, h.1, small_part n ps h.2)

pairs_short : (ps : List Pair) → Small ps → length (pair_lines ps) ≤ 49 * length ps
pairs_short [] h = omega arith
pairs_short (p ∷ ps) h =
    let one = pair_short p h.0 h.1 in
    let rest = pairs_short ps h.2 in
    let a = length-append (pair_line p) (pair_lines ps) in
    omega arith

-- the line of a number of 64 bits
number_short : (n : ℕ) → n < 2 ^ 64 → length (line_of (n ∷ [])) ≤ 21
number_short n h = line_short (n ∷ []) small
  where
    small : (i : ℕ) → get_or (n ∷ []) i 0 < 2 ^ 64
    small zero = h
    small (suc i) = omega arith

pub refused_spacing_short : (n : ℕ) → n < 2 ^ 64 → length (refused_spacing n) ≤ 1024
unfolding refused_spacing
refused_spacing_short n h = let l = number_short n h in omega arith

pub refused_file_short : (n : ℕ) → n < 2 ^ 64 → length (refused_report n) ≤ 1024
refused_file_short n h = let l = refused_length n h in omega arith

pub spacings_short : (s : Spacings) → SpacingsKnown s → length (spacings_report s) ≤ 1024
unfolding spacings_report
spacings_short s k =
    either_way (λ (l : List ℕ). length l ≤ 1024) (eqb s.number 0) (pair_lines (take s.count s.pairs)) (refused_spacing s.number)
    (λ e. let h = pairs_short (take s.count s.pairs) (small_part s.count s.pairs k.small) in omega (arith, length-take s.count s.pairs, k.places))
    (λ e. refused_spacing_short s.number (let h = k.number in omega arith))
