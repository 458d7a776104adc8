-- What is printed, in whole numbers alone: the report of a file as theorem `printed_exact` of `proofs/Printed.antt` gives it, with no `f64` in it.
-- Definitions only.
use Rattle.std.specs.Prelude.{ℕ, suc, ◌+◌, ◌*◌, Bool, true, false, List, [], ◌∷◌, ◌++◌, ltb, ℤ, pos, negsuc}
use Rattle.std.proofs.Math.IntN.{sub_ℕ}
use Rattle.request.specs.declared.Request.{Request}
use Rattle.field.specs.Airspace.{empty_field}
use Rattle.demand.specs.Exact.{WholeLegs, in_miles}
use Rattle.gaps.specs.declared.Pair.{Pair}
use Rattle.text.specs.Text.{decimal, space, newline}
use Rattle.exact_gaps.specs.ExactGaps.{way_in4096ths}
use Rattle.miles.specs.Miles.{minus, fraction}

-- an integer of 4096ths in decimal
abbrev pub signed_text : ℤ → List ℕ
signed_text (pos n) = fraction n
signed_text (negsuc n) = minus ∷ fraction (suc n)

-- `close` or `clear`
abbrev pub word_of : Bool → List ℕ
word_of true = 99 ∷ 108 ∷ 111 ∷ 115 ∷ 101 ∷ []
word_of false = 99 ∷ 108 ∷ 101 ∷ 97 ∷ 114 ∷ []

-- the line of a leader and a follower: their ways to the threshold in 4096ths, the difference and how it compares with 64 times the spacing
unfoldable pub whole_line : WholeLegs → List Request → ℕ → ℕ → ℕ → List ℕ
whole_line w rs spacing leader follower =
    let ahead = way_in4096ths w (empty_field (in_miles w)) rs leader in
    let behind = way_in4096ths w (empty_field (in_miles w)) rs follower in
    decimal leader ++ (space ∷ decimal follower ++ (space ∷ word_of (ltb behind (ahead + 64 * spacing)) ++ (space ∷ signed_text (sub_ℕ behind ahead) ++ (newline ∷ []))))

-- the lines of pairs
abbrev pub whole_lines : WholeLegs → List Request → ℕ → List Pair → List ℕ
whole_lines w rs spacing [] = []
whole_lines w rs spacing (p ∷ ps) = whole_line w rs spacing p.leader p.follower ++ whole_lines w rs spacing ps
