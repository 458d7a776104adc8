-- `binder::counts_of` meets its contract. The loop's invariant is `Counting`: the files before the i-th are counted. Assumes nothing.
use mathlib.Core.Path.{sym, ap, ◌∙◌, subst⁻¹}
use Prim.Native.Nat.{suc, ◌+◌, ◌*◌, ◌≤◌}
use native.Mathlib.Omega.{arith}
use lib.ListN.{length, length-take}
use lib.Seq.{length-take-le}
use Rattle.playing.specs.declared.Played.{Played}
use Rattle.playing.proofs.PlayedFiles.{requests_few}
use Rattle.contents.proofs.AcceptedBinder.{count_high}
use Rattle.binder.specs.Counts.{Small, with_file}
use Rattle.binder.proofs.Adding.{small_up, small_number, small_counted, file_columned, file_counted, counting_none, counting_more, counting_all}
use Rattle.binder.proofs.counts_of.Goals.{After-play-p, At-loop-i}
use Rattle.binder.proofs.counts_of.Goals as goal

most : (c : At-loop-i) → c.file_count-i-end.result ≤ 64
most c = let h = count_high c.args.binder.now in omega (arith, c.file_count-i-end.ensures)

few : (c : After-play-p) → c.play-p.result.requests ≤ 4096
few c = subst⁻¹ (λ (p : Played). p.requests ≤ 4096) c.play-p.ensures.value (requests_few c.file_at.result.now)

pub loop-i-init : goal.loop-i-init
loop-i-init c = rw c.empty_counts-c.ensures (counting_none c.args.binder.now c.file_count-i-end.result c.file_count-i-end.ensures)

pub add_number-requires : goal.add_number-requires
add_number-requires c = let m = most (goal.at.add_number-requires c).At-loop-i in let h = c.loop-i-test.true in small_up (omega arith) c.loop-i.invariant.small

pub overflow_mul-log : goal.overflow_mul-log
overflow_mul-log c = let n = few (goal.at.overflow_mul-log c).After-play-p in omega arith

pub slice_bounds-log-end : goal.slice_bounds-log-end
slice_bounds-log-end c = let n = few (goal.at.slice_bounds-log-end c).After-play-p in omega (arith, c.play-p.array_long)

pub slice_bounds-as_chunks-end : goal.slice_bounds-as_chunks-end
slice_bounds-as_chunks-end c =
    let n = few (goal.at.slice_bounds-as_chunks-end c).After-play-p in
    sym (length-take-le (7 * c.play-p.result.requests) c.play-p.new.log (omega (arith, c.play-p.array_long)))

pub add_answers-requires-clause-small : goal.add_answers-requires-clause-small
add_answers-requires-clause-small c =
    let m = most (goal.at.add_answers-requires-clause-small c).At-loop-i in
    let h = c.loop-i-test.true in
    subst⁻¹ (Small 1000000) c.add_number.ensures (small_up (omega arith) (small_number c.loop-i.c c.play-p.result.number c.loop-i.invariant.small))

pub add_answers-requires-clause-few : goal.add_answers-requires-clause-few
add_answers-requires-clause-few c =
    let n = few (goal.at.add_answers-requires-clause-few c).After-play-p in
    omega (arith, c.as_chunks.ensures.front_len, length-take (7 * c.play-p.result.requests) c.play-p.new.log)

pub add_answers-requires-clause-columned : goal.add_answers-requires-clause-columned
add_answers-requires-clause-columned c = file_columned c.file_at.result.now _ c.play-p.ensures.value c.play-p.ensures.log_after c.as_chunks.ensures.front

pub loop-i-preserved : goal.loop-i-preserved
loop-i-preserved c =
    let i = c.loop-i.i in
    let file = c.file_at.result.now in
    let entries = c.as_chunks.result.0.now in
    let n = few (goal.at.loop-i-preserved c).After-play-p in
    let columned = file_columned file _ c.play-p.ensures.value c.play-p.ensures.log_after c.as_chunks.ensures.front in
    let counted = file_counted file _ c.play-p.ensures.value c.play-p.ensures.log_after c.loop-i.c c.as_chunks.ensures.front c.add_number.ensures c.add_answers.ensures in
    let number = subst⁻¹ (Small (suc (4097 * i))) c.add_number.ensures (small_number c.loop-i.c c.play-p.result.number c.loop-i.invariant.small) in
    let bound : suc (4097 * i) + length entries ≤ 4097 * (i + 1) =
    omega (arith, c.as_chunks.ensures.front_len, length-take (7 * c.play-p.result.requests) c.play-p.new.log) in
    let small = subst⁻¹ (Small (4097 * (i + 1))) c.add_answers.ensures (small_counted c.add_number.new.self entries columned bound number) in
    counting_more c.args.binder.now c.loop-i.invariant c.loop-i-test.true (counted ∙ ap (with_file c.loop-i.c) c.file_at.ensures.result_value) small

pub returns : goal.returns
returns c = counting_all c.args.binder.now c.loop-i.invariant c.loop-i-test.false
