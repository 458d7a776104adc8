-- `spaced::lines::put_spacings` meets its contract. The loop's invariant: the lines of the pairs from this one on are left to put. Assumes nothing.
use mathlib.Core.Path.{sym, ap, ◌∙◌, subst, subst⁻¹}
use mathlib.Core.List.{List}
use Prim.Native.Nat.{ℕ, ◌+◌}
use lib.ListN.{take, drop}
use Rattle.gaps.proofs.SpacingsKnown.{spacings_known}
use Rattle.text.proofs.Texts.{left_all, left_more, left_none}
use Rattle.spaced.specs.Spaced.{pair_lines}
use Rattle.text.specs.Buffer.{Put}
use Rattle.spaced.proofs.PairLines.{report_refused, report_listed, pairs_read, pair_here, no_pair}
use Rattle.spaced.proofs.lines.put_spacings.Goals as goal

pub returns-then-s-ne0 : goal.returns-then-s-ne0
returns-then-s-ne0 c =
    subst⁻¹ (λ (bytes : List ℕ). Put c.args.out.now 0 bytes c.put_refused_spacing.new.out c.put_refused_spacing.result)
    (report_refused c.args.s c.if-s-ne0.true) c.put_refused_spacing.ensures

pub loop-p-init : goal.loop-p-init
loop-p-init c = left_all _ _ _

pub loop-p-preserved : goal.loop-p-preserved
loop-p-preserved c =
    let l = c.loop-p in
    let ps = take c.min.result c.args.s.pairs in
    left_more _ (pair_lines (drop (l.p-index + 1) ps)) l.invariant (pair_here ps l.p-index _ c.loop-p-test.true) c.put_pair-at.ensures

pub returns : goal.returns
returns c =
    let l = c.loop-p in
    let s = c.args.s in
    let read = pairs_read s c.min.result c.min.ensures (spacings_known s c.well_formed.1.0).places in
    let told = ap pair_lines read ∙ sym (report_listed s c.if-s-ne0.false) in
    subst (λ (bytes : List ℕ). Put c.args.out.now 0 bytes l.out l.at) told (left_none l.invariant (no_pair _ l.p-index c.loop-p-test.false))
