-- `questions::counts::with_fix_from` meets its contract: the sum along the array is that over the zones, of at most four each. Assumes nothing.
use Rattle.std.proofs.Common.{rules, arith, ◌≡◌, ◌≤◌, ◌-◌, ◌∙◌, ℕ, suc, ap, sum_by, take, drop}
use Rattle.field.specs.declared.Field.{Field}
use Rattle.field.specs.Airspace.{zones_from, queue_of, in_zone}
use Rattle.field.proofs.FieldKnown.{FieldKnown, field_known}
use Rattle.questions.specs.Counts.{total, have_fix, how_many_with_fix}
use Rattle.questions.proofs.Totals.{along_zones, with_fix_fits, total_fits}
use Rattle.questions.proofs.counts.with_fix_from.Goals as goal

along : {f : Field} → FieldKnown f → (side first : ℕ) → 1 ≤ first → first ≤ 12
    → sum_by (λ q. have_fix side (queue_of q)) (take (12 - (first - 1)) (drop (first - 1) f.zones)) ≡ total (how_many_with_fix f side) (zones_from first (13 - first))
unfolding in_zone how_many_with_fix
along {f} known side first low high =
    let e : suc (first - 1) ≡ first = omega arith in
    let m : 12 - (first - 1) ≡ 13 - first = omega arith in
    along_zones f (λ q. have_fix side (queue_of q)) (first - 1) (12 - (first - 1)) (omega (arith, known.zones))
    ∙ ap (λ (z : ℕ). total (how_many_with_fix f side) (zones_from z (12 - (first - 1)))) e
    ∙ ap (λ (n : ℕ). total (how_many_with_fix f side) (zones_from first n)) m

pub sum-requires-clause-fits : goal.sum-requires-clause-fits
sum-requires-clause-fits c =
    let a = c.args in
    let known = field_known a.f c.well_formed.0 in
    let all = along known a.side a.first (omega arith) (omega arith) in
    let most = total_fits (how_many_with_fix a.f a.side) (with_fix_fits known a.side) a.first (13 - a.first) in
    let small : sum_by (λ q. have_fix a.side (queue_of q)) (take (12 - (a.first - 1)) (drop (a.first - 1) a.f.zones)) ≤ 52 = omega arith in
    search rules

pub returns : goal.returns
returns c =
    let a = c.args in
    let counted : c.sum.result ≡ sum_by (λ q. have_fix a.side (queue_of q)) (take (12 - (a.first - 1)) (drop (a.first - 1) a.f.zones)) = search rules in
    counted ∙ along (field_known a.f c.well_formed.0) a.side a.first (omega arith) (omega arith)
