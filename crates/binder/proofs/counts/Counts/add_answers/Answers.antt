-- `binder::counts::Counts::add_answers` meets its contract. The loop's invariant: with the entries from this one on counted, the counts are those of
-- all. Assumes nothing.
use mathlib.Core.Path.{refl, sym, ap, ◌∙◌, subst⁻¹}
use mathlib.Core.List.{[]}
use Prim.Native.Nat.{◌+◌}
use native.Mathlib.Omega.{arith}
use lib.ListN.{drop}
use Rattle.binder.specs.declared.counts.Counts.{Counts}
use Rattle.binder.specs.Counts.{Small, with_answers}
use Rattle.binder.proofs.Adding.{small_up, small_answer, columned_here, answers_here, no_answers}
use Rattle.binder.proofs.counts.Counts.add_answers.Goals as goal

pub loop-entry-init : goal.loop-entry-init
loop-entry-init c = record { small = small_up (omega arith) c.requires.small; columned = c.requires.columned; same = refl }

pub add_answer-requires-clause-small : goal.add_answer-requires-clause-small
add_answer-requires-clause-small c = let few = c.requires.few in small_up (omega arith) c.loop-entry.invariant.small

pub add_answer-requires-clause-columned : goal.add_answer-requires-clause-columned
add_answer-requires-clause-columned c =
    let l = c.loop-entry in
    (columned_here c.args.entries.now l.entry-index [] c.loop-entry-test.true l.invariant.columned).0

pub loop-entry-preserved : goal.loop-entry-preserved
loop-entry-preserved c =
    let l = c.loop-entry in
    let entries = c.args.entries.now in
    let rest = drop (l.entry-index + 1) entries in
    let here = columned_here entries l.entry-index [] c.loop-entry-test.true l.invariant.columned in
    record {
      small = subst⁻¹ (Small (1000000 + (l.entry-index + 1))) c.add_answer.ensures (small_up (omega arith) (small_answer l.self _ _ here.0 l.invariant.small));
      columned = here.1;
      same = ap (λ (u : Counts). with_answers u rest) c.add_answer.ensures ∙ answers_here entries l.entry-index [] c.loop-entry-test.true l.self ∙ l.invariant.same;
    }

pub returns : goal.returns
returns c =
    let l = c.loop-entry in
    sym (no_answers l.self c.args.entries.now l.entry-index c.loop-entry-test.false) ∙ l.invariant.same
