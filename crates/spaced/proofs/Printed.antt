-- The report of a practice file, in whole numbers alone: nothing that is printed was rounded. Assumes nothing.
use mathlib.Core.Path.{◌≡◌, refl, sym, ap, ◌∙◌}
use mathlib.Core.List.{List, [], ◌∷◌, ◌++◌}
use Prim.Native.Nat.{ℕ}
use lib.Dec.{T}
use lib.ListN.{length, take}
use borrow.Author.Tests.{eq-eqb}
use Rattle.limits.specs.Limits.{longest_leg}
use Rattle.leg.specs.Ticks.{Between}
use Rattle.request.specs.declared.Request.{Request}
use Rattle.field.specs.declared.Field.{Field}
use Rattle.field.specs.Airspace.{empty_field, order_of}
use Rattle.field.specs.Lists.{Each}
use Rattle.field.proofs.TestLaws.{passed, if_true}
use Rattle.practice.specs.File.{legs_of, legs_body, file_number}
use Rattle.practice.proofs.AcceptedFile.{LegKnown, legs_known}
use Rattle.practice.proofs.Meaning.{held}
use Rattle.playing.specs.declared.Played.{Played}
use Rattle.playing.specs.Playing.{field_of_file, field_from, played_of}
use Rattle.playing.proofs.PlayedFiles.{requests_inside, practice_holds, played_held}
use Rattle.rules.specs.Start.{empty_start}
use Rattle.rules.specs.Play.{field_after}
use Rattle.rules.proofs.Starts.{empty_starts}
use Rattle.demand.specs.Exact.{WholeLegs, in_miles}
use Rattle.demand.proofs.Flights.{legs_legal}
use Rattle.gaps.specs.declared.Spacing.{Spacing}
use Rattle.gaps.specs.declared.Spacing.TheVariants.{Close, Clear}
use Rattle.gaps.specs.declared.Pair.{Pair}
use Rattle.gaps.specs.Gaps.{legal_spacing, pairs_in, pairs_listed, gaps_of}
use Rattle.exact_gaps.specs.ExactGaps.{way_in4096ths, gap_in, is_close, ExactPair}
use Rattle.exact_gaps.proofs.ExactGaps.{way_few, exact_gaps}
use Rattle.text.specs.Text.{decimal, space, newline}
use Rattle.miles.specs.Miles.{miles_text}
use Rattle.spaced.specs.Spaced.{gap_text, spacing_text, pair_line, pair_lines, spacings_report, spaced_of}
use Rattle.spaced.specs.Printed.{word_of, whole_line, whole_lines}
use Rattle.spaced.proofs.ExactMiles.{difference_text}
use Rattle.spaced.proofs.PairLines.{report_listed}

-- ---- the field that requests reach
abbrev pub reached : WholeLegs → List Request → Field
reached w rs = field_after (empty_field (in_miles w)) rs

starts : (w : WholeLegs) → T (empty_start (empty_field (in_miles w)))
starts w = empty_starts (in_miles w) (legs_legal w)

-- its legs are those that it began with
as_begun : (w : WholeLegs) → (empty_field (in_miles w)).legs ≡ in_miles w
unfolding empty_field
as_begun w = refl

-- ---- a pair
-- the word and the gap of an answer
parted : (s : Spacing) → spacing_text s ≡ word_of (is_close s) ++ (space ∷ miles_text (gap_in s) ++ (newline ∷ []))
unfolding gap_text
parted (Close gap) = refl
parted (Clear gap) = refl

module _ (w : WholeLegs) (rs : List Request) (spacing : ℕ) where
  line_exact : (p : Pair) → ExactPair w (empty_field (in_miles w)) rs spacing p → pair_line p ≡ whole_line w rs spacing p.leader p.follower
  unfolding pair_line whole_line
  line_exact p x =
      let ahead = way_in4096ths w (empty_field (in_miles w)) rs p.leader in
      let behind = way_in4096ths w (empty_field (in_miles w)) rs p.follower in
      let few = way_few w (empty_field (in_miles w)) (starts w) (as_begun w) rs in
      let text = difference_text (gap_in p.spacing) behind ahead (few p.follower) (few p.leader) x.gap in
      let ends = parted p.spacing ∙ (λ i. word_of (x.close i) ++ (space ∷ text i ++ (newline ∷ []))) in
      ap (λ (r : List ℕ). decimal p.leader ++ (space ∷ decimal p.follower ++ (space ∷ r))) ends

  lines_exact : (ps : List Pair) → Each (ExactPair w (empty_field (in_miles w)) rs spacing) ps → pair_lines ps ≡ whole_lines w rs spacing ps
  lines_exact [] e = refl
  lines_exact (p ∷ ps) e = λ i. line_exact p e.0 i ++ lines_exact ps e.1 i

-- ---- the report of an answer
front : (ps qs : List Pair) → take (length ps) (ps ++ qs) ≡ ps
front [] qs = refl
front (p ∷ ps) qs = ap (λ (r : List Pair). p ∷ r) (front ps qs)

listed_lines : (ps : List Pair) → spacings_report (pairs_listed ps) ≡ pair_lines ps
unfolding pairs_listed
listed_lines ps = report_listed (pairs_listed ps) refl ∙ ap pair_lines (front ps _)

pub reached_exact : (w : WholeLegs) (rs : List Request) (spacing : ℕ) → T (legal_spacing spacing)
    → spacings_report (gaps_of (reached w rs) spacing) ≡ whole_lines w rs spacing (pairs_in (reached w rs) spacing (order_of (reached w rs).sequence))
reached_exact w rs spacing legal =
    let e = exact_gaps w (empty_field (in_miles w)) (starts w) (as_begun w) rs spacing legal in
    let ps = pairs_in (reached w rs) spacing (order_of (reached w rs).sequence) in
    ap spacings_report e.accepted ∙ listed_lines ps ∙ lines_exact w rs spacing ps e.exact

-- ---- the report of a file
module _ (file : List ℕ) (number : file_number file ≡ 0) where
  -- its legs, in whole 64ths
  unfoldable pub file_legs : WholeLegs
  file_legs =
      let legs = legs_of (legs_body file) in
      let k = legs_known legs (held file legs (requests_inside file) (practice_holds file number)).legs_legal in
      record {
        missed_leg = legs.missed;
        base_leg = legs.base;
        intermediate_leg = legs.intermediate;
        final_leg = legs.final_approach;
        missed_fits = fits legs.missed k.missed;
        base_fits = fits legs.base k.base;
        intermediate_fits = fits legs.intermediate k.intermediate;
        final_fits = fits legs.final_approach k.final_leg;
      }
    where
      fits : (n : ℕ) → LegKnown n → Between 1 longest_leg n
      fits n k = record { least = k.low; most = k.high }

  reached_is : field_of_file file ≡ reached file_legs (requests_inside file)
  unfolding played_of field_from file_legs
  reached_is = ap (λ (p : Played). p.field) (played_held file number)

  pub printed_exact : (spacing : ℕ) → T (legal_spacing spacing)
      → spaced_of file spacing ≡ whole_lines file_legs (requests_inside file) spacing (pairs_in (field_of_file file) spacing (order_of (field_of_file file).sequence))
  unfolding spaced_of
  printed_exact spacing legal =
      if_true _ _ (passed {b = legal_spacing spacing} legal)
      ∙ if_true _ _ (eq-eqb (file_number file) 0 number)
      ∙ ap (λ (f : Field). spacings_report (gaps_of f spacing)) reached_is
      ∙ reached_exact file_legs (requests_inside file) spacing legal
      ∙ ap (λ (f : Field). whole_lines file_legs (requests_inside file) spacing (pairs_in f spacing (order_of f.sequence))) (sym reached_is)
